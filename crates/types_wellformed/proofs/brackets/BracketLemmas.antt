-- The loop over the items of a bracket: the tags that earlier items contribute, and the least
-- lexeme at which a rule is broken.
use Rattle.std.proofs.Common.{ℕ, ℤ, ◌<◌, ◌≤◌, ◌+◌, ◌≡◌, ◌≢◌, ◌⊎◌, ⊎_elim, Bool, Option, Some}
use Rattle.std.proofs.Common.{None}
use Rattle.std.proofs.Common.{List, [], ◌++◌, length, get_or, refl, sym, ap, subst, arith, ◌∙◌}
use Rattle.std.specs.Prelude.{slice_get, Contains, MatchOption, IsTrue, ◌↔◌, IfSome}
use Rattle.std.specs.Borrow.{Bor}
use Rattle.std.proofs.lemmas.Bool.{cases_lt}
use Rattle.std.proofs.lemmas.List.Elements.{Contains-append_left, Contains-append_right}
use Rattle.std.proofs.lemmas.List.Elements.{Contains-append_cases}
use Rattle.std.proofs.lemmas.Option.{same_Some, slice_get_within, slice_get_read}
use Rattle.types_spec.specs.declared.types.head.TagOf.{TagOf}
use Rattle.types_resolve.specs.scope.Least.{IsLeast, earliest, position_if}
use Rattle.types_resolve.proofs.scope.ScopeLeastLemmas.{Before, least_same, least_if, least_more}
use Rattle.types_wellformed.specs.declared.brackets.tag_item.TagItem.{TagItem}
use Rattle.types_wellformed.specs.declared.brackets.tag_names.Collision.{Collision}
use Rattle.types_wellformed.specs.brackets.Collisions.{position_of, IsCollision, IsLeastCollision}
use Rattle.types_wellformed.specs.brackets.TagItems.{ConflictsIn, CollideIn, CollidesIn, HaveOneHash}
use Rattle.types_wellformed.specs.brackets.Sightings.{Reports}
use Rattle.types_wellformed.specs.brackets.TagTables.{ArgumentTable, arguments_at, HasArgument, AreArguments}
use Rattle.types_wellformed.specs.brackets.TagTables.{SomeConflicts, EncodingTable, tag_names_at, HasEncoding}
use Rattle.types_wellformed.specs.brackets.TagTables.{AreTagNames, AreColliding}

-- ---- the tags contributed so far

module _ (items : List TagItem) where
  -- One of the first `n` items contributes the tag `tag`.
  abbrev pub Brought : ℕ → TagOf ℕ → Type 0
  Brought n tag =
      (m : ℕ) × (m < n) × (item : TagItem) × (slice_get items m ≡ Some item) × Contains item.tags tag

  -- `seen` contains exactly the tags that the first `n` items contribute.
  pub record AreBrought (n : ℕ) (seen : List (TagOf ℕ)) : Type 0 where
    pub there : (tag : TagOf ℕ) → Contains seen tag → Brought n tag
    pub all : (tag : TagOf ℕ) → Brought n tag → Contains seen tag

  pub none_brought : AreBrought 0 []
  none_brought = record {
    there = λ tag never. let below : never.0 < 0 = never.1 in absurd (omega arith);
    all = λ tag never. let below : never.0 < 0 = never.1 in absurd (omega arith);
  }

  brought_later :
      (n : ℕ) (item : TagItem) (seen : List (TagOf ℕ)) (tag : TagOf ℕ)
      → slice_get items n ≡ Some item → AreBrought n seen
      → Contains seen tag ⊎ Contains item.tags tag → Brought (n + 1) tag
  brought_later n item seen tag is brought = ⊎_elim
      (λ old. let b = brought.there tag old in
      let below : b.0 < n = b.1 in (b.0, omega arith, b.2, b.3, b.4))
      (λ new. (n, omega arith, item, is, new))

  seen_later :
      (n : ℕ) (item : TagItem) (seen : List (TagOf ℕ)) (tag : TagOf ℕ)
      → slice_get items n ≡ Some item → AreBrought n seen → (b : Brought (n + 1) tag)
      → (b.0 < n) ⊎ (n ≤ b.0) → Contains (seen ++ item.tags) tag
  seen_later n item seen tag is brought b = ⊎_elim
      (λ less. Contains-append_left seen item.tags tag (brought.all tag (b.0, less, b.2, b.3, b.4)))
      (λ more. let below : b.0 < n + 1 = b.1 in
      let e : b.0 ≡ n = omega arith in
      Contains-append_right seen item.tags tag (subst (λ (x : TagItem). Contains x.tags tag)
      (same_Some b.2 item (sym (subst (λ j. slice_get items j ≡ Some b.2) e b.3) ∙ is)) b.4))

  pub brought_more :
      (n : ℕ) (item : TagItem) (seen : List (TagOf ℕ)) → slice_get items n ≡ Some item
      → AreBrought n seen → AreBrought (n + 1) (seen ++ item.tags)
  brought_more n item seen is brought = record {
    there = λ tag both. brought_later n item seen tag is brought
        (Contains-append_cases seen item.tags tag both);
    all = λ tag b. seen_later n item seen tag is brought b (cases_lt b.0 n);
  }

  -- ---- conflicts

  -- Item `j`, at lexeme `k`, contributes a tag that an earlier item contributes with another
  -- argument.
  abbrev pub ConflictAt : ℕ → ℕ → Type 0
  ConflictAt j k =
      (item : TagItem) × (slice_get items j ≡ Some item) × (item.position ≡ k)
      × (tag : TagOf ℕ) × Contains item.tags tag × (argument : Option ℕ)
      × Brought j (record { name = tag.name; argument = argument }) × (argument ≢ tag.argument)

  conflict_at :
      (j : ℕ) (item : TagItem) (seen : List (TagOf ℕ)) (test : Bool) → slice_get items j ≡ Some item
      → AreBrought j seen → IsTrue test ↔ SomeConflicts seen item.tags
      → IsLeast (ConflictAt j) (position_if test item.position)
  conflict_at j item seen test is brought says =
      least_same (λ k. (item.position ≡ k) × SomeConflicts seen item.tags) (ConflictAt j)
      (position_if test item.position)
      (least_if (SomeConflicts seen item.tags) test item.position says.0 says.1)
      (λ k here. let conflict = here.1 in (
        item,
        is,
        here.0,
        conflict.0,
        conflict.1,
        conflict.2.0,
        brought.there (record { name = conflict.0.name; argument = conflict.2.0 }) conflict.2.1,
        conflict.2.2,
      ))
      (λ k at. let same : item ≡ at.0 = same_Some item at.0 (sym is ∙ at.1) in (
        ap (λ (x : TagItem). x.position) same ∙ at.2,
        (
          at.3,
          subst (λ (x : TagItem). Contains x.tags at.3) (sym same) at.4,
          (at.5, brought.all (record { name = at.3.name; argument = at.5 }) at.6, at.7),
        ),
      ))

  -- The invariant of the search for conflicts after the first `n` items.
  pub record AreConflictsBefore (n : ℕ) (table : ArgumentTable) (best : Option ℕ) : Type 0 where
    pub seen : List (TagOf ℕ)
    pub brought : AreBrought n seen
    pub reports : AreArguments seen table
    pub least : IsLeast (Before ConflictAt n) best

  pub no_conflicts :
      (table : ArgumentTable)
      → ((q : Bor (List ℕ)) → arguments_at table q.now ≡ None) → AreConflictsBefore 0 table None
  no_conflicts table empty = record {
    seen = [];
    brought = none_brought;
    reports = λ name. subst (Reports (λ argument. argument) (HasArgument [] name))
        (sym (empty (record { ref_ptr = (0, 0); now = name })))
        (λ argument never. let below : never.0 < 0 = never.1 in absurd (omega arith));
    least = λ k never. let below : never.0 < 0 = never.1 in absurd (omega arith);
  }

  pub more_conflicts :
      (n : ℕ) (item : TagItem) (table later : ArgumentTable) (best : Option ℕ) (test : Bool)
      (found next : Option ℕ) → n < length items → item ≡ get_or items n item
      → AreConflictsBefore n table best
      → ((seen : List (TagOf ℕ)) → AreArguments seen table → IsTrue test ↔ SomeConflicts seen item.tags)
      → ((seen : List (TagOf ℕ)) → AreArguments seen table → AreArguments (seen ++ item.tags) later)
      → found ≡ position_if test item.position → next ≡ earliest best found
      → AreConflictsBefore (n + 1) later next
  more_conflicts n item table later best test found next below read before says added found_is is =
      let at = slice_get_read items (length items) n item refl below read in
      record {
        seen = before.seen ++ item.tags;
        brought = brought_more n item before.seen at before.brought;
        reports = added before.seen before.reports;
        least = subst (IsLeast (Before ConflictAt (n + 1))) (sym is)
            (least_more ConflictAt n best found before.least (subst (IsLeast (ConflictAt n)) (sym found_is)
            (conflict_at n item before.seen test at before.brought (says before.seen before.reports))));
      }

  conflicts_of_items :
      (best : Option ℕ) → IsLeast (Before ConflictAt (length items)) best
      → IsLeast (ConflictsIn items) best
  conflicts_of_items best least =
      least_same (Before ConflictAt (length items)) (ConflictsIn items) best least
      (λ k some. let at = some.2 in
      let b = at.6 in (
        b.0,
        some.0,
        record { name = at.3.name; argument = at.5 },
        at.3,
        record {
          first = b.2;
          second = at.0;
          first_is = b.3;
          second_is = at.1;
          placed = at.2;
          one_there = b.4;
          other_there = at.4;
        },
        b.1,
        refl,
        at.7,
      ))
      (λ k some. let c = some.4 in (
        some.1,
        slice_get_within items some.1 c.second c.second_is,
        (
          c.second,
          c.second_is,
          c.placed,
          some.3,
          c.other_there,
          some.2.argument,
          (
            some.0,
            some.5,
            c.first,
            c.first_is,
            subst (λ n. Contains c.first.tags
                (record { name = n; argument = some.2.argument })) some.6 c.one_there,
          ),
          some.7,
        ),
      ))

  pub all_conflicts :
      (n : ℕ) (table : ArgumentTable) (best : Option ℕ) → n ≤ length items → length items ≤ n
      → AreConflictsBefore n table best → IsLeast (ConflictsIn items) best
  all_conflicts n table best le ge before = let e : n ≡ length items = omega arith in
      conflicts_of_items best (subst (λ m. IsLeast (Before ConflictAt m) best) e before.least)

  -- ---- collisions

  -- Item `j`, at lexeme `k`, contributes a tag with the name `other_name`. The same item or an
  -- earlier item contributes a tag with the name `one_name` and the same hash.
  abbrev pub CollisionAt : ℕ → ℕ → List ℕ → List ℕ → Type 0
  CollisionAt j k one_name other_name =
      (item : TagItem) × (slice_get items j ≡ Some item) × (item.position ≡ k)
      × (one other : TagOf ℕ) × Brought (j + 1) one × Contains item.tags other
      × HaveOneHash one other one_name other_name

  abbrev pub SomeCollisionAt : ℕ → ℕ → Type 0
  SomeCollisionAt j k = (one other : List ℕ) × CollisionAt j k one other

  -- `found` is a collision of the tags of `item` with the tags `seen`, or `None` if no tags
  -- collide.
  abbrev pub Finds : List (TagOf ℕ) → TagItem → Option Collision → Type 0
  Finds seen item found =
      MatchOption found ((one other : List ℕ) → ¬ AreColliding seen item.tags one other)
      (λ c. (c.position ≡ item.position) × AreColliding seen item.tags c.one.now c.other.now)

  collision_at :
      (j : ℕ) (item : TagItem) (seen : List (TagOf ℕ)) (found : Option Collision)
      → slice_get items j ≡ Some item → AreBrought (j + 1) seen → Finds seen item found
      → IsLeast (SomeCollisionAt j) (position_of found)
  collision_at j item seen None is brought none = λ k at.
      let a = at.2 in
      let same : item ≡ a.0 = same_Some item a.0 (sym is ∙ a.1) in
      none at.0 at.1 (a.3, a.4, brought.all a.3 a.5, subst (λ (x : TagItem). Contains x.tags a.4) (sym same) a.6, a.7)
  collision_at j item seen (Some c) is brought finds = (
    (
      c.one.now,
      c.other.now,
      (
        item,
        is,
        sym finds.0,
        finds.1.0,
        finds.1.1,
        brought.there finds.1.0 finds.1.2,
        finds.1.3,
        finds.1.4,
      ),
    ),
    λ k less at. let a = at.2 in
        let same : item ≡ a.0 = same_Some item a.0 (sym is ∙ a.1) in
        let e : c.position ≡ k = finds.0 ∙ ap (λ (x : TagItem). x.position) same ∙ a.2 in absurd (omega arith),
  )

  in_items :
      (j k : ℕ) (one other : List ℕ) → CollisionAt j k one other → CollideIn items k one other
  in_items j k one other at = let b = at.5 in
      let below : b.0 < j + 1 = b.1 in (
        b.0,
        j,
        at.3,
        at.4,
        record {
          first = b.2;
          second = at.0;
          first_is = b.3;
          second_is = at.1;
          placed = at.2;
          one_there = b.4;
          other_there = at.6;
        },
        omega arith,
        at.7,
      )

  names_at :
      (j : ℕ) (item : TagItem) (seen : List (TagOf ℕ)) (found : Option Collision)
      → slice_get items j ≡ Some item → AreBrought (j + 1) seen → Finds seen item found
      → IfSome found (IsCollision items)
  names_at j item seen None is brought finds = tt
  names_at j item seen (Some c) is brought finds =
      in_items j c.position c.one.now c.other.now (
        item,
        is,
        sym finds.0,
        finds.1.0,
        finds.1.1,
        brought.there finds.1.0 finds.1.2,
        finds.1.3,
        finds.1.4,
      )

  -- The invariant of the search for collisions after the first `n` items.
  pub record AreCollisionsBefore (n : ℕ) (table : EncodingTable) (best : Option Collision)
      : Type 0 where
    pub seen : List (TagOf ℕ)
    pub brought : AreBrought n seen
    pub reports : AreTagNames seen table
    pub least : IsLeast (Before SomeCollisionAt n) (position_of best)
    pub names : IfSome best (IsCollision items)

  pub no_collisions :
      (table : EncodingTable) → ((h : ℤ) → tag_names_at table h ≡ None)
      → AreCollisionsBefore 0 table None
  no_collisions table empty = record {
    seen = [];
    brought = none_brought;
    reports = λ h. subst (Reports (λ (text : Bor (List ℕ)). text.now) (HasEncoding [] h)) (sym (empty h))
        (λ name never. let below : never.1.0 < 0 = never.1.1 in absurd (omega arith));
    least = λ k never. let below : never.0 < 0 = never.1 in absurd (omega arith);
    names = tt;
  }

  pub more_collisions :
      (n : ℕ) (item : TagItem) (table later : EncodingTable) (best found next : Option Collision)
      → n < length items → item ≡ get_or items n item → AreCollisionsBefore n table best
      → ((seen : List (TagOf ℕ)) → AreTagNames seen table → AreTagNames (seen ++ item.tags) later)
      → ((seen : List (TagOf ℕ)) → AreTagNames seen later → Finds seen item found)
      → position_of next ≡ earliest (position_of best) (position_of found)
      → (next ≡ best) ⊎ (next ≡ found) → AreCollisionsBefore (n + 1) later next
  more_collisions n item table later best found next below read before added says is either =
      let at = slice_get_read items (length items) n item refl below read in
      let seen = before.seen ++ item.tags in
      let brought = brought_more n item before.seen at before.brought in
      let reports = added before.seen before.reports in
      let finds = says seen reports in
      record {
        seen = seen;
        brought = brought;
        reports = reports;
        least = subst (IsLeast (Before SomeCollisionAt (n + 1))) (sym is)
            (least_more SomeCollisionAt n (position_of best) (position_of found) before.least
            (collision_at n item seen found at brought finds));
        names = ⊎_elim (λ e. subst (λ o. IfSome o (IsCollision items)) (sym e) before.names)
            (λ e. subst (λ o. IfSome o (IsCollision items)) (sym e)
            (names_at n item seen found at brought finds)) either;
      }

  pub all_collisions :
      (n : ℕ) (table : EncodingTable) (best : Option Collision) → n ≤ length items
      → length items ≤ n → AreCollisionsBefore n table best → IsLeastCollision items best
  all_collisions n table best le ge before = let e : n ≡ length items = omega arith in
      record {
        least = least_same (Before SomeCollisionAt (length items)) (CollidesIn items) (position_of best)
            (subst (λ m. IsLeast (Before SomeCollisionAt m) (position_of best)) e before.least)
            (λ k some. (some.2.0, some.2.1, in_items some.0 k some.2.0 some.2.1 some.2.2))
            (λ k some. let c = some.2.4 in (
              some.2.1,
              slice_get_within items some.2.1 c.second c.second_is,
              (
                some.0,
                some.1,
                (
                  c.second,
                  c.second_is,
                  c.placed,
                  some.2.2,
                  some.2.3,
                  (some.2.0, (let le : some.2.0 ≤ some.2.1 = some.2.5 in omega arith), c.first, c.first_is, c.one_there),
                  c.other_there,
                  some.2.6,
                ),
              ),
            ));
        names = before.names;
      }

-- The rules over the numbers of types are equivalent to the rules over the written types.
use Rattle.std.proofs.Common.{ℕ, ◌≡◌, Option, Some, None, List, refl, sym, ap, subst, ◌∙◌}
use Rattle.std.specs.Prelude.{slice_get, Contains, IfSome, map, option_map}
use Rattle.std.proofs.lemmas.Option.{same_Some, none-some, slice_get-map}
use Rattle.base_data.proofs.model.Options.{Contains-map, map-Contains}
use Rattle.types_spec.specs.tag_hash.TagHash.{tag_hash}
use Rattle.types_spec.specs.declared.types.decl.Decl.{Decl}
use Rattle.types_spec.specs.declared.types.head.TagOf.{TagOf}
use Rattle.types_spec.specs.types.Ty.{Ty}
use Rattle.types_spec.specs.types.Occurrence.{PlacedItem}
use Rattle.types_spec.specs.types.Reached.{AreDistinct}
use Rattle.types_spec.specs.types.Scope.{tags_of_item, HasTags, ConflictsAt, HashesAt}
use Rattle.types_spec.specs.types.Table.{tag_with_part}
use Rattle.types_resolve.specs.scope.Least.{IsLeast}
use Rattle.types_resolve.proofs.scope.ScopeLeastLemmas.{least_same}
use Rattle.types_wellformed.specs.declared.brackets.tag_item.TagItem.{TagItem}
use Rattle.types_wellformed.specs.declared.brackets.tag_names.Collision.{Collision}
use Rattle.types_wellformed.specs.brackets.Collisions.{position_of, IsCollision, IsLeastCollision}
use Rattle.types_wellformed.specs.brackets.TagItems.{Brings, ConflictsIn, CollideIn, CollidesIn, HaveOneHash}
use Rattle.types_wellformed.specs.brackets.Trees.{typed_item, written_item, AreItems, NamesHashAt}

-- ---- lists with equal images

same_at :
    {X Y : Type 0} (g : Y → X) (o : Option Y) (x : X) → Some x ≡ option_map g o
    → (y : Y) × (o ≡ Some y) × (x ≡ g y)
same_at g None x is = absurd (none-some x (sym is))
same_at g (Some y) x is = (y, refl, same_Some x (g y) is)

at_both :
    {X Y Z : Type 0} (f : X → Z) (g : Y → Z) (xs : List X) (ys : List Y) (j : ℕ) (x : X)
    → map f xs ≡ map g ys → slice_get xs j ≡ Some x → (y : Y) × (slice_get ys j ≡ Some y) × (f x ≡ g y)
at_both f g xs ys j x same is = same_at g (slice_get ys j) (f x)
    (sym (ap (option_map f) is) ∙ sym (slice_get-map f xs j)
    ∙ ap (λ zs. slice_get zs j) same ∙ slice_get-map g ys j)

pub in_both :
    {X Y Z : Type 0} (f : X → Z) (g : Y → Z) (xs : List X) (ys : List Y) (x : X)
    → map f xs ≡ map g ys → Contains xs x → (y : Y) × Contains ys y × (g y ≡ f x)
in_both f g xs ys x same there =
    map-Contains g ys (f x) (subst (λ zs. Contains zs (f x)) same (Contains-map f xs x there))

-- ---- arguments

same_type :
    (a b : Option Ty) → option_map (λ (t : Ty). Some t) a ≡ option_map (λ (t : Ty). Some t) b → a ≡ b
same_type None None is = refl
same_type None (Some t) is = absurd (none-some (Some t) is)
same_type (Some t) None is = absurd (none-some (Some t) (sym is))
same_type (Some t) (Some u) is = same_Some (Some t) (Some u) is

same_number :
    (types : List Ty) → AreDistinct types → (a b : Option ℕ) (t : Option Ty)
    → option_map (slice_get types) a ≡ option_map (λ (u : Ty). Some u) t
    → option_map (slice_get types) b ≡ option_map (λ (u : Ty). Some u) t → a ≡ b
same_number types distinct None None t one other = refl
same_number types distinct None (Some n) t one other =
    absurd (none-some (slice_get types n) (one ∙ sym other))
same_number types distinct (Some m) None t one other =
    absurd (none-some (slice_get types m) (other ∙ sym one))
same_number types distinct (Some m) (Some n) None one other =
    absurd (none-some (slice_get types m) (sym one))
same_number types distinct (Some m) (Some n) (Some t) one other =
    ap Some (distinct m n t (same_Some (slice_get types m) (Some t) one)
    (same_Some (slice_get types n) (Some t) other))

-- ---- tags

module _ (types : List Ty) where
  -- A tag with the number of its argument represents a tag of the text.
  abbrev pub IsTag : TagOf ℕ → TagOf Ty → Type 0
  IsTag tag written =
      tag_with_part (slice_get types) tag ≡ tag_with_part (λ (t : Ty). Some t) written

  name_is : (tag : TagOf ℕ) (written : TagOf Ty) → IsTag tag written → tag.name ≡ written.name
  name_is tag written is = ap (λ (t : TagOf (Option Ty)). t.name) is

  argument_is :
      (tag : TagOf ℕ) (written : TagOf Ty) → IsTag tag written
      → option_map (slice_get types) tag.argument ≡ option_map (λ (t : Ty). Some t) written.argument
  argument_is tag written is = ap (λ (t : TagOf (Option Ty)). t.argument) is

  equal_types :
      (one other : TagOf ℕ) (a b : TagOf Ty) → IsTag one a → IsTag other b
      → one.argument ≡ other.argument → a.argument ≡ b.argument
  equal_types one other a b one_is other_is e = same_type a.argument b.argument
      (sym (argument_is one a one_is) ∙ ap (option_map (slice_get types)) e
      ∙ argument_is other b other_is)

  equal_numbers :
      (one other : TagOf ℕ) (a b : TagOf Ty) → AreDistinct types → IsTag one a → IsTag other b
      → a.argument ≡ b.argument → one.argument ≡ other.argument
  equal_numbers one other a b distinct one_is other_is e =
      same_number types distinct one.argument other.argument a.argument
      (argument_is one a one_is)
      (argument_is other b other_is ∙ ap (option_map (λ (t : Ty). Some t)) (sym e))

  same_hash :
      (one other : TagOf ℕ) (a b : TagOf Ty) (one_name other_name : List ℕ) → IsTag one a
      → IsTag other b → HaveOneHash one other one_name other_name
      → HaveOneHash a b one_name other_name
  same_hash one other a b one_name other_name one_is other_is share = record {
    one_named = sym (name_is one a one_is) ∙ share.one_named;
    other_named = sym (name_is other b other_is) ∙ share.other_named;
    unlike = share.unlike;
    agree = share.agree;
  }

  -- ---- items

  module _ (decls : List Decl) (items : List TagItem) (all : List PlacedItem) (are : AreItems types decls items all) where
    -- If two numbered items contribute two tags, then the corresponding items of the text
    -- contribute the represented tags.
    to_written :
        (k i j : ℕ) (one other : TagOf ℕ) → Brings items k i j one other
        → (a b : TagOf Ty) × HasTags decls all k i j a b × IsTag one a × IsTag other b
    to_written k i j one other brings =
        let p = at_both (typed_item types) (written_item decls) items all i brings.first are.same brings.first_is in
        let q = at_both (typed_item types) (written_item decls) items all j brings.second are.same brings.second_is in
        let a = in_both (tag_with_part (slice_get types)) (tag_with_part (λ (t : Ty). Some t)) brings.first.tags
        (tags_of_item decls p.0.1) one (ap (λ (x : ℕ × List (TagOf (Option Ty))). x.1) p.2) brings.one_there in
        let b = in_both (tag_with_part (slice_get types)) (tag_with_part (λ (t : Ty). Some t)) brings.second.tags
        (tags_of_item decls q.0.1) other (ap (λ (x : ℕ × List (TagOf (Option Ty))). x.1) q.2) brings.other_there in
        let placed : q.0.0 ≡ k = sym (ap (λ (x : ℕ × List (TagOf (Option Ty))). x.0) q.2) ∙ brings.placed in (
          a.0,
          b.0,
          record {
            position = p.0.0;
            first = p.0.1;
            second = q.0.1;
            first_is = p.1;
            second_is = q.1 ∙ ap (λ n. Some (n, q.0.1)) placed;
            one_there = a.1;
            other_there = b.1;
          },
          sym a.2,
          sym b.2,
        )

    -- If two items of the text contribute two tags, then the corresponding numbered items
    -- contribute tags that represent the two tags.
    to_numbers :
        (k i j : ℕ) (a b : TagOf Ty) → HasTags decls all k i j a b
        → (one other : TagOf ℕ) × Brings items k i j one other × IsTag one a × IsTag other b
    to_numbers k i j a b has =
        let p = at_both (written_item decls) (typed_item types) all items i (has.position, has.first) (sym are.same) has.first_is in
        let q = at_both (written_item decls) (typed_item types) all items j (k, has.second) (sym are.same) has.second_is in
        let one = in_both (tag_with_part (λ (t : Ty). Some t)) (tag_with_part (slice_get types))
        (tags_of_item decls has.first) p.0.tags a (ap (λ (x : ℕ × List (TagOf (Option Ty))). x.1) p.2) has.one_there in
        let other = in_both (tag_with_part (λ (t : Ty). Some t)) (tag_with_part (slice_get types))
        (tags_of_item decls has.second) q.0.tags b (ap (λ (x : ℕ × List (TagOf (Option Ty))). x.1) q.2) has.other_there in (
          one.0,
          other.0,
          record {
            first = p.0;
            second = q.0;
            first_is = p.1;
            second_is = q.1;
            placed = sym (ap (λ (x : ℕ × List (TagOf (Option Ty))). x.0) q.2);
            one_there = one.1;
            other_there = other.1;
          },
          one.2,
          other.2,
        )

    pub conflict_written : (k : ℕ) → ConflictsIn items k → ConflictsAt decls all k
    conflict_written k (i, j, one, other, brings, less, named, apart) =
        let w = to_written k i j one other brings in (
          i,
          j,
          w.0,
          w.1,
          w.2,
          less,
          sym (name_is one w.0 w.3) ∙ named ∙ name_is other w.1 w.4,
          λ e. apart (equal_numbers one other w.0 w.1 are.distinct w.3 w.4 e),
        )

    pub conflict_numbered : (k : ℕ) → ConflictsAt decls all k → ConflictsIn items k
    conflict_numbered k (i, j, a, b, has, less, named, apart) =
        let n = to_numbers k i j a b has in (
          i,
          j,
          n.0,
          n.1,
          n.2,
          less,
          name_is n.0 a n.3 ∙ named ∙ sym (name_is n.1 b n.4),
          λ e. apart (equal_types n.0 n.1 a b n.3 n.4 e),
        )

    pub names_written :
        (k : ℕ) (one_name other_name : List ℕ) → CollideIn items k one_name other_name
        → NamesHashAt decls all k one_name other_name
    names_written k one_name other_name (i, j, one, other, brings, le, share) =
        let w = to_written k i j one other brings in
        (i, j, w.0, w.1, w.2, le, same_hash one other w.0 w.1 one_name other_name w.3 w.4 share)

    pub hash_written : (k : ℕ) → CollidesIn items k → HashesAt decls all k
    hash_written k (one_name, other_name, collide) =
        let w = names_written k one_name other_name collide in
        let share = w.6 in (
          w.0,
          w.1,
          w.2,
          w.3,
          w.4,
          w.5,
          λ e. share.unlike (sym share.one_named ∙ e ∙ share.other_named),
          ap tag_hash share.one_named ∙ share.agree ∙ sym (ap tag_hash share.other_named),
        )

    pub hash_numbered : (k : ℕ) → HashesAt decls all k → CollidesIn items k
    hash_numbered k (i, j, a, b, has, le, unlike, agree) =
        let n = to_numbers k i j a b has in (
          a.name,
          b.name,
          (
            i,
            j,
            n.0,
            n.1,
            n.2,
            le,
            record {
              one_named = name_is n.0 a n.3;
              other_named = name_is n.1 b n.4;
              unlike = unlike;
              agree = agree;
            },
          ),
        )

    names_of :
        (found : Option Collision) → IfSome found (IsCollision items)
        → IfSome found (λ c. NamesHashAt decls all c.position c.one.now c.other.now)
    names_of None names = tt
    names_of (Some c) names = names_written c.position c.one.now c.other.now names

    pub least_conflict_of :
        (best : Option ℕ) → IsLeast (ConflictsIn items) best → IsLeast (ConflictsAt decls all) best
    least_conflict_of best least =
        least_same (ConflictsIn items) (ConflictsAt decls all) best least conflict_written conflict_numbered

    pub least_position_of :
        (found : Option Collision) → IsLeastCollision items found
        → IsLeast (HashesAt decls all) (position_of found)
    least_position_of found least = least_same (CollidesIn items) (HashesAt decls all) (position_of found)
        least.least hash_written hash_numbered

    pub least_names_of :
        (found : Option Collision) → IsLeastCollision items found
        → IfSome found (λ c. NamesHashAt decls all c.position c.one.now c.other.now)
    least_names_of found least = names_of found least.names

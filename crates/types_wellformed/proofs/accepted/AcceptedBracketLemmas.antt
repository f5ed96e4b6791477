-- The tags of a polymorphic variant type come from the type's items, and obey the rules on tags.
use Rattle.std.proofs.Common.{ℕ, zero, suc, ◌≡◌, ◌≢◌, ◌≤◌, ◌∙◌, ◌⊎◌, ⊎_elim, inl, inr, Bool, true, List, [], ◌∷◌, ◌++◌, length, Some, None, refl, sym, ap, subst, arith}
use Rattle.std.specs.Prelude.{slice_get, map, filter, not, Contains}
use Rattle.std.specs.Str.{bytes_eq}
use Rattle.std.proofs.lemmas.Option.{same_Some, none-some}
use Rattle.std.proofs.lemmas.List.Elements.{Contains-append_left, Contains-append_right, Contains-append_cases}
use Rattle.std.proofs.lemmas.Slice.Eq.{bytes_eq-Decides}
use Rattle.base_data.proofs.model.Options.{true_or_not, Contains-first, Contains-none, slice_get-Contains}
use Rattle.base_data.proofs.model.Lists.{slice_get-append_left, slice_get-last, Contains-filter}
use Rattle.types_spec.specs.declared.types.decl.Decl.{Decl}
use Rattle.types_spec.specs.declared.types.head.HeadOf.{HeadOf}
use Rattle.types_spec.specs.declared.types.head.HeadOf.TheVariants as heads
use Rattle.types_spec.specs.declared.types.head.TagOf.{TagOf}
use Rattle.types_spec.specs.types.WellFormed.{AreVariants, IsHashed, HasSoundBrackets}
use Rattle.types_spec.specs.types.Declarations.{unfolded}
use Rattle.types_spec.specs.types.Head.{has_tag, with_tags, tags_in, bare_tag, carrying_tag, plain_head, head}
use Rattle.types_spec.specs.types.Occurrence.{Occurrence, PlacedItem, use_of, variable_at, bracket_of, DeclPositions}
use Rattle.types_spec.specs.types.Scope.{not_variant, hash_clash, decls_of, tags_of_item, BreaksIn}
use Rattle.types_spec.specs.types.Ty.{Ty, variable, named, tuple, bracket, part, tag, tag_of, including}
use Rattle.types_spec.specs.types.Ty.{parts}
use Rattle.types_spec.proofs.types.TypeListLemmas.{filtered-Contains}
use Rattle.types_wellformed.specs.accepted.Ranked.{Keeps}
use Rattle.types_wellformed.specs.accepted.KnownThings.{Thing, bracket_thing, HasParts, HasItems, IsProper, items_of, own_thing, begins_as, things_inside, thing_of, IsKnown, AllIsKnown, ReportsAll}
use Rattle.types_wellformed.specs.accepted.AcceptedBrackets.{HeadsArePlain, BracketsAreSound}

-- ---- positions in lists

-- ---- the tags of the items

kept-all : {X : Type 0} (p : X → Bool) (xs : List X) (x : X) → ((y : X) → p y ≡ true) → Contains xs x → Contains (filter p xs) x
kept-all p xs x all among = Contains-filter p xs x among (all x)

filtered-of : {X : Type 0} (p : X → Bool) (xs : List X) (x : X) → Contains (filter p xs) x → Contains xs x
filtered-of p xs x among = (filtered-Contains p xs x among).0

module _ (decls : List Decl) (plain : HeadsArePlain decls) where
  -- Some item of `items` contributes the tag `one`.
  record Brought (items : List Ty) (one : TagOf Ty) : Type 0 where
    position : ℕ
    item : Ty
    is : slice_get items position ≡ Some item
    brings : Contains (tags_of_item decls item) one

  more_items : (items : List Ty) (last : Ty) (one : TagOf Ty) → Brought items one → Brought (items ++ last ∷ []) one
  more_items items last one b = record { position = b.position; item = b.item; is = slice_get-append_left items (last ∷ []) b.position b.item b.is; brings = b.brings }

  last_item : (items : List Ty) (last : Ty) (one : TagOf Ty) → Contains (tags_of_item decls last) one → Brought (items ++ last ∷ []) one
  last_item items last one among = record { position = length items; item = last; is = slice_get-last items last; brings = among }

  -- If tags are added to a head, then each tag of the result is a tag of the head or one of the
  -- added tags.
  with_more :
      (h : HeadOf Ty) (more : List (TagOf Ty)) (one : TagOf Ty) → Contains (tags_in (with_tags h more)) one → Contains (tags_in h) one ⊎ Contains more one
  with_more (heads.Variants tags) more one among = ⊎_elim
      (λ before. inl before)
      (λ after. inr (filtered-of (λ (t : TagOf Ty). not (has_tag tags t.name)) more one after))
      (Contains-append_cases tags (filter (λ (t : TagOf Ty). not (has_tag tags t.name)) more) one among)
  with_more (heads.Variable name) more one among = absurd (Contains-none one among)
  with_more (heads.Predeclared base ts) more one among = absurd (Contains-none one among)
  with_more (heads.Datatype name ts) more one among = absurd (Contains-none one among)
  with_more (heads.Tuple ts) more one among = absurd (Contains-none one among)
  with_more heads.Absent more one among = absurd (Contains-none one among)

  brought_plain : (t : Ty) → HasItems t → (one : TagOf Ty) → Contains (tags_in (plain_head (head decls) t)) one → Brought (items_of t) one
  brought_plain (variable x) has one among = absurd has
  brought_plain (named x) has one among = absurd has
  brought_plain tuple has one among = absurd has
  brought_plain bracket has one among = absurd (Contains-none one among)
  brought_plain (part whole added) has one among = absurd has
  brought_plain (tag whole x) has one among = ⊎_elim
      (λ before. more_items (items_of whole) (tag bracket x) one (brought_plain whole has one before))
      (λ last. last_item (items_of whole) (tag bracket x) one (subst (λ h. Contains (tags_in h) one) (sym (plain (tag bracket x) refl)) last))
      (with_more (plain_head (head decls) whole) (bare_tag x ∷ []) one among)
  brought_plain (tag_of whole x argument) has one among = ⊎_elim
      (λ before. more_items (items_of whole) (tag_of bracket x argument) one (brought_plain whole has one before))
      (λ last. last_item (items_of whole) (tag_of bracket x argument) one
      (subst (λ h. Contains (tags_in h) one) (sym (plain (tag_of bracket x argument) refl)) last))
      (with_more (plain_head (head decls) whole) (carrying_tag x argument ∷ []) one among)
  brought_plain (including whole included) has one among = ⊎_elim
      (λ before. more_items (items_of whole) (including bracket included) one (brought_plain whole has one before))
      (λ last. last_item (items_of whole) (including bracket included) one
      (subst (λ h. Contains (tags_in h) one) (sym (plain (including bracket included) refl)) (joined_alone last)))
      (with_more (plain_head (head decls) whole) (tags_in (head decls included)) one among) where
        joined_alone : Contains (tags_in (head decls included)) one → Contains (tags_in (with_tags (heads.Variants []) (tags_in (head decls included)))) one
        joined_alone last = kept-all (λ (t : TagOf Ty). not (has_tag [] t.name)) (tags_in (head decls included)) one (λ t. refl) last

  -- If a bracket has no expansion, then each tag of the bracket's head comes from an item.
  brought : (t : Ty) → HasItems t → (one : TagOf Ty) → unfolded decls t ≡ None → Contains (tags_in (head decls t)) one → Brought (items_of t) one
  brought t has one none among = brought_plain t has one (subst (λ h. Contains (tags_in h) one) (plain t none) among)

-- ---- items with their positions

placed_get :
    (placed : List PlacedItem) (items : List Ty) → map (λ (item : PlacedItem). item.1) placed ≡ items → (i : ℕ) (t : Ty) → slice_get items i ≡ Some t
    → (k : ℕ) × (slice_get placed i ≡ Some (k, t))
placed_get placed items same i t is = in_map placed i t (ap (λ xs. slice_get xs i) same ∙ is) where
  in_map : (placed : List PlacedItem) (i : ℕ) (t : Ty) → slice_get (map (λ (item : PlacedItem). item.1) placed) i ≡ Some t → (k : ℕ) × (slice_get placed i ≡ Some (k, t))
  in_map [] i t is = absurd (none-some t is)
  in_map (item ∷ placed) zero t is = (item.0, ap (λ u. Some (item.0, u)) (same_Some item.1 t is))
  in_map (item ∷ placed) (suc i) t is = in_map placed i t is

bracket_known : (occurrence : Occurrence) (items : List Ty) → thing_of occurrence ≡ bracket_thing items
    → (placed : List PlacedItem) × (occurrence ≡ bracket_of placed) × (map (λ (item : PlacedItem). item.1) placed ≡ items)
bracket_known (use_of k y us in_tag) items same = absurd (cc)
bracket_known (variable_at k y) items same = absurd (cc)
bracket_known (bracket_of placed) items same = (placed, refl, cc)

variants_or_not : (h : HeadOf Ty) → AreVariants h ⊎ (¬ AreVariants h)
variants_or_not (heads.Variants tags) = inl tt
variants_or_not (heads.Variable name) = inr (λ is. is)
variants_or_not (heads.Predeclared base ts) = inr (λ is. is)
variants_or_not (heads.Datatype name ts) = inr (λ is. is)
variants_or_not (heads.Tuple ts) = inr (λ is. is)
variants_or_not heads.Absent = inr (λ is. is)

in_order : (a b : ℕ) → (a ≤ b) ⊎ (b ≤ a)
in_order zero b = inl (omega arith)
in_order (suc a) zero = inr (omega arith)
in_order (suc a) (suc b) = ⊎_elim (λ le. inl (omega (arith, le))) (λ ge. inr (omega (arith, ge))) (in_order a b)

begins_bracket : (arguments items : List Ty) (t : Ty) → HasItems t → Contains (begins_as arguments items t) (bracket_thing items)
begins_bracket arguments items (variable x) has = absurd has
begins_bracket arguments items (named x) has = absurd has
begins_bracket arguments items tuple has = absurd has
begins_bracket arguments items bracket has = Contains-first (bracket_thing items) []
begins_bracket arguments items (part whole added) has = absurd has
begins_bracket arguments items (tag whole x) has = begins_bracket arguments items whole has
begins_bracket arguments items (tag_of whole x argument) has = begins_bracket arguments items whole has
begins_bracket arguments items (including whole included) has = begins_bracket arguments items whole has

never_both : (t : Ty) → HasParts t → HasItems t → ⊥
never_both (variable x) has items = has
never_both (named x) has items = items
never_both tuple has items = items
never_both bracket has items = has
never_both (part whole added) has items = items
never_both (tag whole x) has items = has
never_both (tag_of whole x argument) has items = has
never_both (including whole included) has items = has

-- ---- the rules

module _ (decls : List Decl) (plain : HeadsArePlain decls) (Seen : ℕ → Type 0) (occurrences : List Occurrence)
    (variants : (k : ℕ) → ¬ BreaksIn decls Seen occurrences not_variant k) (hashes : (k : ℕ) → ¬ BreaksIn decls Seen occurrences hash_clash k) where
  abbrev Known : List Thing → Type 0
  Known things = (thing : Thing) → Contains things thing → IsKnown occurrences thing

  known_left : (first rest : List Thing) → Known (first ++ rest) → Known first
  known_left first rest known thing among = known thing (Contains-append_left first rest thing among)

  known_right : (first rest : List Thing) → Known (first ++ rest) → Known rest
  known_right first rest known thing among = known thing (Contains-append_right first rest thing among)

  -- The items of the type `t` are the first items of a bracket among the occurrences.
  record Within (t : Ty) : Type 0 where
    placed : List PlacedItem
    occurs : Contains occurrences (bracket_of placed)
    first : (i : ℕ) (u : Ty) → slice_get (items_of t) i ≡ Some u → (k : ℕ) × (slice_get placed i ≡ Some (k, u))

  own_bracket : (t : Ty) → Known (own_thing t) → HasItems t → Within t
  own_bracket t known has =
      let o = known (bracket_thing (items_of t)) (begins_bracket (parts t) (items_of t) t has) in
      let b = bracket_known o.0 (items_of t) o.2 in
      record { placed = b.0; occurs = subst (λ e. Contains occurrences e) b.1 o.1; first = placed_get b.0 (items_of t) b.2 }

  -- If two tags of a bracket among the occurrences have the same hash, then the two tags have the
  -- same name.
  own_hashes : (t : Ty) → HasItems t → unfolded decls t ≡ None → Within t → IsHashed decls t
  own_hashes t has none w one other among among' same =
      let b = brought decls plain t has one none among in
      let c = brought decls plain t has other none among' in
      let p = w.first b.position b.item b.is in
      let q = w.first c.position c.item c.is in
      ⊎_elim
      (λ equal. (bytes_eq-Decides one.name other.name).0 equal)
      (λ unequal.
      let differ : one.name ≢ other.name = λ e. unequal ((bytes_eq-Decides one.name other.name).1 e) in
      ⊎_elim
      (λ le. absurd (hashes q.0 (
        w.placed,
        w.occurs,
        (
          b.position,
          c.position,
          one,
          other,
          record { position = p.0; first = b.item; second = c.item; first_is = p.1; second_is = q.1; one_there = b.brings; other_there = c.brings },
          le,
          differ,
          same,
        ),
      )))
      (λ ge. absurd (hashes p.0 (
        w.placed,
        w.occurs,
        (
          c.position,
          b.position,
          other,
          one,
          record { position = q.0; first = c.item; second = b.item; first_is = q.1; second_is = p.1; one_there = c.brings; other_there = b.brings },
          ge,
          λ e. differ (sym e),
          sym same,
        ),
      )))
      (in_order b.position c.position))
      (true_or_not (bytes_eq one.name other.name))

  -- Each type that a bracket among the occurrences includes is a polymorphic variant type.
  includes : (whole included : Ty) → Within (including whole included) → AreVariants (head decls included)
  includes whole included w = ⊎_elim (λ is. is)
      (λ other.
      let p = w.first (length (items_of whole)) (including bracket included) (slice_get-last (items_of whole) (including bracket included)) in
      absurd (variants p.0 (
        w.placed,
        w.occurs,
        (
          included,
          slice_get-Contains w.placed (length (items_of whole)) (p.0, including bracket included) p.1,
          other,
        ),
      )))
      (variants_or_not (head decls included))

  -- If the items of a type are the first items of a bracket, then all items but the last are the
  -- first items of the bracket.
  shorter : (t whole last : Ty) → items_of t ≡ items_of whole ++ last ∷ [] → Within t → Within whole
  shorter t whole last same w = record {
    placed = w.placed;
    occurs = w.occurs;
    first = λ i u is. w.first i u (ap (λ items. slice_get items i) same ∙ slice_get-append_left (items_of whole) (last ∷ []) i u is);
  }

  sound : (t : Ty) → IsProper t → (HasItems t → Within t) → Known (things_inside t) → HasSoundBrackets decls t
  sound (variable x) proper within known = tt
  sound (named x) proper within known = tt
  sound tuple proper within known = tt
  sound bracket proper within known = tt
  sound (part whole added) proper within known =
      let later = known_right (things_inside whole) (own_thing added ++ things_inside added) known in (
        sound whole proper.1 (λ items. absurd (never_both whole proper.0 items)) (known_left (things_inside whole) (own_thing added ++ things_inside added) known),
        sound added proper.2 (own_bracket added (known_left (own_thing added) (things_inside added) later))
            (known_right (own_thing added) (things_inside added) later),
      )
  sound (tag whole x) proper within known = (
    sound whole proper.1 (λ items. shorter (tag whole x) whole (tag bracket x) refl (within proper.0)) known,
    own_hashes (tag whole x) proper.0 refl (within proper.0),
  )
  sound (tag_of whole x argument) proper within known =
      let later = known_right (things_inside whole) (own_thing argument ++ things_inside argument) known in (
        sound whole proper.1 (λ items. shorter (tag_of whole x argument) whole (tag_of bracket x argument) refl (within proper.0))
            (known_left (things_inside whole) (own_thing argument ++ things_inside argument) known),
        sound argument proper.2 (own_bracket argument (known_left (own_thing argument) (things_inside argument) later))
            (known_right (own_thing argument) (things_inside argument) later),
        own_hashes (tag_of whole x argument) proper.0 refl (within proper.0),
      )
  sound (including whole included) proper within known =
      let later = known_right (things_inside whole) (own_thing included ++ things_inside included) known in (
        sound whole proper.1 (λ items. shorter (including whole included) whole (including bracket included) refl (within proper.0))
            (known_left (things_inside whole) (own_thing included ++ things_inside included) known),
        sound included proper.2 (own_bracket included (known_left (own_thing included) (things_inside included) later))
            (known_right (own_thing included) (things_inside included) later),
        includes whole included (within proper.0),
        own_hashes (including whole included) proper.0 refl (within proper.0),
      )

  pub brackets_follow_in : (t : Ty) → IsProper t → ReportsAll occurrences t → HasSoundBrackets decls t
  brackets_follow_in t proper known =
      sound t proper (own_bracket t (known_left (own_thing t) (things_inside t) known)) (known_right (own_thing t) (things_inside t) known)

pub brackets_follow_lem :
    (all : List DeclPositions) → AllIsKnown all → HeadsArePlain (decls_of all) → Keeps all not_variant → Keeps all hash_clash → BracketsAreSound all
brackets_follow_lem all known plain variants hashes d t among written proper =
    brackets_follow_in (decls_of all) plain (λ group. group ≤ d.decl.group) d.occurrences (λ k breaks. variants k (inr (d, among, breaks)))
    (λ k breaks. hashes k (inr (d, among, breaks))) t proper (known d t among written)

-- Brackets of numbered items break the rules on tags if and only if the brackets of the text break
-- the rules on tags.
use Rattle.std.proofs.Common.{ℕ, ◌+◌, ◌<◌, ◌≤◌, ◌≡◌, ◌∙◌, ◌++◌, List, [], ◌∷◌, Option, Some, None, length, get_or, map, take, refl, sym, ap, subst}
use Rattle.std.specs.Prelude.{slice_get, option_map, Contains, ◌↔◌}
use Rattle.std.proofs.lemmas.List.Elements.{All-get_or}
use Rattle.std.proofs.lemmas.Option.{none-some, same_Some}
use Rattle.types_spec.specs.declared.types.decl.Decl.{Decl}
use Rattle.types_spec.specs.declared.types.head.HeadOf.{HeadOf}
use Rattle.types_spec.specs.declared.types.head.HeadOf.TheVariants as heads
use Rattle.types_spec.specs.declared.types.head.TagOf.{TagOf}
use Rattle.types_spec.specs.types.Ty.{Ty}
use Rattle.types_spec.specs.types.TypeNodes.{type_at}
use Rattle.types_spec.specs.types.Occurrence.{PlacedItem}
use Rattle.types_spec.specs.types.Head.{head, tags_in}
use Rattle.types_spec.specs.types.Scope.{Rule, turn, not_variant, tag_clash, hash_clash}
use Rattle.types_spec.specs.types.Table.{tag_with_part, head_with_parts}
use Rattle.types_table.specs.store.Held.{Grows}
use Rattle.types_table.proofs.store.StoreHeldLemmas.{there_kept}
use Rattle.types_wellformed.specs.declared.brackets.tag_item.TagItem.{TagItem}
use Rattle.types_wellformed.specs.brackets.Trees.{typed_item, written_item, AreItems}
use Rattle.types_wellformed.proofs.brackets.BracketTreeLemmas.{in_both, conflict_written, conflict_numbered, hash_written, hash_numbered, names_written}
use Rattle.types_wellformed.specs.declared.head_rules.item.NumberedItem.{NumberedItem}
use Rattle.types_wellformed.specs.head_rules.Rules.{IsWithin, AreWithin, AreAllWithin, item_at, items_at, brackets_at, tags_of_head}
use Rattle.types_wellformed.specs.head_rules.Rules.{AreTagged, CollideAmong, TagsBreak, BracketsBreak, BracketsHash}
use Rattle.types_wellformed.proofs.head_rules.HeadRuleFirstLemmas.{of_late}
use Rattle.types_wellformed.proofs.head_rules.HeadRuleLoopLemmas.{maps_more}
use Rattle.types_wellformed.proofs.head_rules.VariantLemmas.{items_kept}
use Rattle.types_build.proofs.representation.NearerLemmas.{type_kept}

-- ---- the tags of a head, by numbers and as they are written

abbrev tags_there : HeadOf (Option Ty) → List (TagOf (Option Ty))
tags_there (heads.Variants tags) = tags
tags_there other = []

numbers_there :
    (f : ℕ → Option Ty) (h : HeadOf ℕ) → tags_there (head_with_parts f h) ≡ map (tag_with_part f) (tags_of_head h)
numbers_there f (heads.Variable name) = refl
numbers_there f (heads.Predeclared base parts) = refl
numbers_there f (heads.Datatype name parts) = refl
numbers_there f (heads.Tuple parts) = refl
numbers_there f (heads.Variants tags) = refl
numbers_there f heads.Absent = refl

written_there :
    (f : Ty → Option Ty) (h : HeadOf Ty) → tags_there (head_with_parts f h) ≡ map (tag_with_part f) (tags_in h)
written_there f (heads.Variable name) = refl
written_there f (heads.Predeclared base parts) = refl
written_there f (heads.Datatype name parts) = refl
written_there f (heads.Tuple parts) = refl
written_there f (heads.Variants tags) = refl
written_there f heads.Absent = refl

pub head_tags :
    (types : List Ty) (h : HeadOf ℕ) (u : HeadOf Ty)
    → head_with_parts (slice_get types) h ≡ head_with_parts (λ (t : Ty). Some t) u
    → map (tag_with_part (slice_get types)) (tags_of_head h) ≡ map (tag_with_part (λ (t : Ty). Some t)) (tags_in u)
head_tags types h u is =
    sym (numbers_there (slice_get types) h) ∙ ap tags_there is ∙ written_there (λ (t : Ty). Some t) u

-- ---- after types are added

-- If types are added to the store, then the numbers of arguments stay valid.
argument_kept :
    (old new : List Ty) → Grows old new → (a : Option ℕ) (t : Option Ty)
    → option_map (slice_get old) a ≡ option_map (λ (u : Ty). Some u) t
    → option_map (slice_get new) a ≡ option_map (λ (u : Ty). Some u) t
argument_kept old new grown None None is = refl
argument_kept old new grown None (Some t) is = absurd (none-some (Some t) is)
argument_kept old new grown (Some i) None is = absurd (none-some (slice_get old i) (sym is))
argument_kept old new grown (Some i) (Some t) is =
    ap (λ (o : Option Ty). Some o) (there_kept old new i t grown (same_Some (slice_get old i) (Some t) is))

tag_kept :
    (old new : List Ty) → Grows old new → (tag : TagOf ℕ) (written : TagOf Ty)
    → tag_with_part (slice_get old) tag ≡ tag_with_part (λ (u : Ty). Some u) written
    → tag_with_part (slice_get new) tag ≡ tag_with_part (λ (u : Ty). Some u) written
tag_kept old new grown tag written is =
    ap (λ (a : Option (Option Ty)). record { name = tag.name; argument = a })
    (argument_kept old new grown tag.argument written.argument (ap (λ (t : TagOf (Option Ty)). t.argument) is))
    ∙ ap (λ (n : List ℕ). record { name = n; argument = option_map (λ (u : Ty). Some u) written.argument })
    (ap (λ (t : TagOf (Option Ty)). t.name) is)

-- If the images of two lists are equal and one map is replaced by an equivalent map, then the
-- images stay equal.
pub map_kept :
    {X Y Z : Type 0} (f g : X → Z) (h : Y → Z) → ((x : X) (y : Y) → f x ≡ h y → g x ≡ h y)
    → (xs : List X) (ys : List Y) → map f xs ≡ map h ys → map g xs ≡ map h ys
map_kept f g h kept [] [] same = refl
map_kept f g h kept [] (y ∷ ys) same = cc
map_kept f g h kept (x ∷ xs) [] same = cc
map_kept {X} {Y} {Z} f g h kept (x ∷ xs) (y ∷ ys) same =
    let first : f x ≡ h y = cc in
    let rest : map f xs ≡ map h ys = cc in
    ap (λ z. z ∷ map g xs) (kept x y first) ∙ ap (λ zs. h y ∷ zs) (map_kept f g h kept xs ys rest)

pub item_kept :
    (old new : List Ty) → Grows old new → (decls : List Decl) (item : TagItem) (written : PlacedItem)
    → typed_item old item ≡ written_item decls written → typed_item new item ≡ written_item decls written
item_kept old new grown decls item written is =
    ap (λ (tags : List (TagOf (Option Ty))). (item.position, tags))
    (map_kept (tag_with_part (slice_get old)) (tag_with_part (slice_get new)) (tag_with_part (λ (u : Ty). Some u))
    (tag_kept old new grown) item.tags (tags_in (head decls written.1))
    (ap (λ (p : ℕ × List (TagOf (Option Ty))). p.1) is))
    ∙ ap (λ n. (n, map (tag_with_part (λ (u : Ty). Some u)) (tags_in (head decls written.1))))
    (ap (λ (p : ℕ × List (TagOf (Option Ty))). p.0) is)

pub items_of_kept :
    (old new : List Ty) → Grows old new → (decls : List Decl) (items : List TagItem) (written : List PlacedItem)
    → map (typed_item old) items ≡ map (written_item decls) written
    → map (typed_item new) items ≡ map (written_item decls) written
items_of_kept old new grown decls items written is =
    map_kept (typed_item old) (typed_item new) (written_item decls) (item_kept old new grown decls) items written is

pub tagged_kept :
    (old new : List Ty) → Grows old new → (decls : List Decl) (tagged : List (List TagItem))
    (written : List (List PlacedItem))
    → map (map (typed_item old)) tagged ≡ map (map (written_item decls)) written
    → map (map (typed_item new)) tagged ≡ map (map (written_item decls)) written
tagged_kept old new grown decls tagged written is =
    map_kept (map (typed_item old)) (map (typed_item new)) (map (written_item decls))
    (items_of_kept old new grown decls) tagged written is

-- ---- one element at a time

pub more_tagged :
    (decls : List Decl) (old now new : List Ty) (items : List NumberedItem) (k : ℕ) (e : NumberedItem)
    (out next : List TagItem) (item : TagItem) → Grows old now → Grows now new → AreWithin old items → k < length items
    → next ≡ out ++ item ∷ [] → item.position ≡ (get_or items k e).position
    → map (tag_with_part (slice_get new)) item.tags
    ≡ map (tag_with_part (λ (u : Ty). Some u)) (tags_in (head decls (type_at now (get_or items k e).number)))
    → map (typed_item now) out ≡ map (written_item decls) (items_at old (take k items))
    → map (typed_item new) next ≡ map (written_item decls) (items_at old (take (k + 1) items))
more_tagged decls old now new items k e out next item grown more within below next_is placed tags so_far =
    let x = get_or items k e in
    let same = type_kept old now x.number grown (All-get_or (IsWithin old) items k e below within) in
    let here : typed_item new item ≡ written_item decls (item_at old x) =
    ap (λ n. (n, map (tag_with_part (slice_get new)) item.tags)) placed
    ∙ ap (λ (ts : List (TagOf (Option Ty))). (x.position, ts)) tags
    ∙ ap (λ t. (x.position, map (tag_with_part (λ (u : Ty). Some u)) (tags_in (head decls t)))) same in
    maps_more (typed_item new) (written_item decls) (item_at old) out next items k x e item below refl next_is here
    (items_of_kept now new more decls out (items_at old (take k items)) so_far)

pub more_brackets :
    (decls : List Decl) (old now new : List Ty) (brackets : List (List NumberedItem)) (k : ℕ)
    (items : List NumberedItem) (out next : List (List TagItem)) (tagged : List TagItem) → Grows old now → Grows now new
    → AreAllWithin old brackets → k < length brackets → items ≡ get_or brackets k items
    → next ≡ out ++ tagged ∷ [] → map (typed_item new) tagged ≡ map (written_item decls) (items_at now items)
    → map (map (typed_item now)) out ≡ map (map (written_item decls)) (brackets_at old (take k brackets))
    → map (map (typed_item new)) next ≡ map (map (written_item decls)) (brackets_at old (take (k + 1) brackets))
more_brackets decls old now new brackets k items out next tagged grown more within below read next_is tags so_far =
    let inside : AreWithin old items = subst (AreWithin old) (sym read) (All-get_or (AreWithin old) brackets k items below within) in
    let here : map (typed_item new) tagged ≡ map (written_item decls) (items_at old items) =
    tags ∙ ap (map (written_item decls)) (items_kept old now items grown inside) in
    maps_more (map (typed_item new)) (map (written_item decls)) (items_at old) out next brackets k items items tagged below
    read next_is here (tagged_kept now new more decls out (brackets_at old (take k brackets)) so_far)

-- ---- rules

module _ (types : List Ty) (decls : List Decl) (tagged : List (List TagItem)) (all : List (List PlacedItem))
    (are : AreTagged types decls tagged all) where
  -- For each bracket of numbered items, the text has a bracket that the numbered items represent.
  written_for :
      (items : List TagItem) → Contains tagged items
      → (placed : List PlacedItem) × Contains all placed × AreItems types decls items placed
  written_for items among =
      let found = in_both (map (typed_item types)) (map (written_item decls)) tagged all items are.same among in
      (found.0, found.1, record { distinct = are.distinct; same = sym found.2 })

  -- For each bracket of the text, some bracket of numbered items represents the bracket.
  numbered_for :
      (placed : List PlacedItem) → Contains all placed
      → (items : List TagItem) × Contains tagged items × AreItems types decls items placed
  numbered_for placed among =
      let found = in_both (map (written_item decls)) (map (typed_item types)) all tagged placed (sym are.same) among in
      (found.0, found.1, record { distinct = are.distinct; same = found.2 })

  conflict_agree : (k : ℕ) → TagsBreak tagged tag_clash k ↔ BracketsBreak decls all tag_clash k
  conflict_agree k = (
    λ some. let found = written_for some.0 some.1 in
        (found.0, found.1, conflict_written types decls some.0 found.0 found.2 k some.2),
    λ some. let found = numbered_for some.0 some.1 in
        (found.0, found.1, conflict_numbered types decls found.0 some.0 found.2 k some.2),
  )

  hash_agree : (k : ℕ) → TagsBreak tagged hash_clash k ↔ BracketsBreak decls all hash_clash k
  hash_agree k = (
    λ some. let found = written_for some.0 some.1 in
        (found.0, found.1, hash_written types decls some.0 found.0 found.2 k some.2),
    λ some. let found = numbered_for some.0 some.1 in
        (found.0, found.1, hash_numbered types decls found.0 some.0 found.2 k some.2),
  )

  pub tags_agree :
      ((k : ℕ) → ¬ BracketsBreak decls all not_variant k) → (rule : Rule) → 7 ≤ turn rule → (k : ℕ)
      → TagsBreak tagged rule k ↔ BracketsBreak decls all rule k
  tags_agree kept rule late k =
      of_late (λ r. TagsBreak tagged r k ↔ BracketsBreak decls all r k)
      (λ never. absurd never, λ some. absurd (kept k some)) (conflict_agree k) (hash_agree k)
      (λ never. absurd never, λ some. some.2) (λ never. absurd never, λ some. some.2) rule late

  pub names_agree :
      (k : ℕ) (one other : List ℕ) → CollideAmong tagged k one other → BracketsHash decls all k one other
  names_agree k one other some =
      let found = written_for some.0 some.1 in
      (found.0, found.1, names_written types decls some.0 found.0 found.2 k one other some.2)

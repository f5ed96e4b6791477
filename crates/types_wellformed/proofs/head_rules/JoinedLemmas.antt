-- Lemmas about the first violation of a rule on brackets, given the result for each rule.
use Rattle.std.proofs.Common.{ℕ, ◌<◌, ◌≤◌, ◌≡◌, ◌∙◌, List, Option, Some, None, length, refl, sym, ap, subst, arith}
use Rattle.std.specs.Prelude.{slice_get, Contains}
use Rattle.std.proofs.lemmas.List.Elements.{All-contains}
use Rattle.std.proofs.lemmas.Option.{slice_get-get_or, slice_get_within}
use Rattle.base_data.proofs.model.Options.{map-Contains, slice_get-Contains}
use Rattle.base_data.proofs.model.Lists.{map-slice_get}
use Rattle.types_spec.specs.declared.types.decl.Decl.{Decl}
use Rattle.types_spec.specs.declared.types.head.TagOf.{TagOf}
use Rattle.types_spec.specs.types.Ty.{Ty, tuple}
use Rattle.types_spec.specs.types.TypeNodes.{type_at}
use Rattle.types_spec.specs.types.Occurrence.{PlacedItem}
use Rattle.types_spec.specs.types.Scope.{Rule, turn, not_variant, tag_clash, hash_clash, tags_of_item, HasTags}
use Rattle.types_resolve.specs.scope.Least.{IsLeast}
use Rattle.types_resolve.proofs.scope.ScopeLeastLemmas.{least_same}
use Rattle.types_table.specs.store.Held.{Grows}
use Rattle.types_table.proofs.store.StoreHeldLemmas.{there_kept}
use Rattle.types_wellformed.specs.declared.brackets.tag_item.TagItem.{TagItem}
use Rattle.types_wellformed.specs.declared.brackets.tag_names.Collision.{Collision}
use Rattle.types_wellformed.specs.brackets.TagItems.{ConflictsIn}
use Rattle.types_wellformed.specs.declared.head_rules.broken.HeadBreak.{HeadBreak}
use Rattle.types_wellformed.specs.declared.head_rules.broken.HeadBreak.TheVariants as breaks
use Rattle.types_wellformed.specs.declared.head_rules.item.NumberedItem.{NumberedItem}
use Rattle.types_wellformed.specs.head_rules.Broken.{IsFirstOfHeads}
use Rattle.types_wellformed.specs.head_rules.Rules.{SomeBreaks, ItemsInclude, AreTagged, CollideAmong, IsLeastAmong, TagsBreak}
use Rattle.types_wellformed.specs.head_rules.Apart.{AreApart, StandApart}
use Rattle.types_wellformed.specs.head_rules.Rules.{IsWithin, AreWithin, AreAllWithin, item_at, items_at, brackets_at, BracketsBreak, BracketsHash}
use Rattle.types_wellformed.proofs.head_rules.HeadRuleFirstLemmas.{of_late, all_agree, found_first}
use Rattle.types_wellformed.proofs.head_rules.VariantLemmas.{include_agree, brackets_at-kept}
use Rattle.types_wellformed.proofs.head_rules.HeadRuleTagLemmas.{tags_agree, names_agree}
use Rattle.types_build.proofs.representation.NearerLemmas.{type_kept}

-- ---- tags

module _ (tagged : List (List TagItem)) where
  -- Before the turn of the rule `tag_clash`, the tags of brackets break no rule that depends on
  -- heads.
  before_conflict : (other : Rule) → 7 ≤ turn other → turn other < 8 → (j : ℕ) → ¬ TagsBreak tagged other j
  before_conflict = of_late (λ r. turn r < 8 → (j : ℕ) → ¬ TagsBreak tagged r j)
      (λ less j never. never) (λ less. absurd (omega arith)) (λ less. absurd (omega arith)) (λ less j never. never)
      (λ less j never. never)

  before_hash :
      ((k : ℕ) → ¬ SomeBreaks tagged ConflictsIn k) → (other : Rule) → 7 ≤ turn other → turn other < 9 → (j : ℕ)
      → ¬ TagsBreak tagged other j
  before_hash none = of_late (λ r. turn r < 9 → (j : ℕ) → ¬ TagsBreak tagged r j)
      (λ less j never. never) (λ less. none) (λ less. absurd (omega arith)) (λ less j never. never)
      (λ less j never. never)

  pub conflict_first :
      (position : ℕ) → IsLeast (SomeBreaks tagged ConflictsIn) (Some position)
      → IsFirstOfHeads (TagsBreak tagged) (CollideAmong tagged) (Some (breaks.TagClash position))
  conflict_first position least =
      found_first (TagsBreak tagged) (CollideAmong tagged) (breaks.TagClash position) tag_clash refl least before_conflict tt

  pub hash_first :
      (c : Collision) (b : HeadBreak) → b ≡ breaks.HashClash c.position c.one.now c.other.now
      → ((k : ℕ) → ¬ SomeBreaks tagged ConflictsIn k) → IsLeastAmong tagged (Some c)
      → IsFirstOfHeads (TagsBreak tagged) (CollideAmong tagged) (Some b)
  hash_first c b is none least =
      subst (λ e. IsFirstOfHeads (TagsBreak tagged) (CollideAmong tagged) (Some e)) (sym is)
      (found_first (TagsBreak tagged) (CollideAmong tagged) (breaks.HashClash c.position c.one.now c.other.now) hash_clash
      refl least.least (before_hash none) least.names)

  pub tags_kept :
      ((k : ℕ) → ¬ SomeBreaks tagged ConflictsIn k) → IsLeastAmong tagged None
      → IsFirstOfHeads (TagsBreak tagged) (CollideAmong tagged) None
  tags_kept none least rule k late =
      of_late (λ r. ¬ TagsBreak tagged r k) (λ never. never) (none k) (least.least k) (λ never. never) (λ never. never) rule late

-- ---- brackets

module _ (decls : List Decl) (types : List Ty) (brackets : List (List NumberedItem)) where
  abbrev all : List (List PlacedItem)
  all = brackets_at types brackets

  variant_least :
      (found : Option ℕ) → IsLeast (SomeBreaks brackets (ItemsInclude decls types)) found
      → IsLeast (BracketsBreak decls all not_variant) found
  variant_least found least =
      least_same (SomeBreaks brackets (ItemsInclude decls types)) (BracketsBreak decls all not_variant) found least
      (λ k. (include_agree decls types brackets k).0) (λ k. (include_agree decls types brackets k).1)

  pub variant_first :
      (position : ℕ) → IsLeast (SomeBreaks brackets (ItemsInclude decls types)) (Some position)
      → IsFirstOfHeads (BracketsBreak decls all) (BracketsHash decls all) (Some (breaks.NotVariant position))
  variant_first position least =
      found_first (BracketsBreak decls all) (BracketsHash decls all) (breaks.NotVariant position) not_variant refl
      (variant_least (Some position) least) (λ other late before. absurd (omega arith)) tt

  pub tags_first :
      (now new : List Ty) (tagged : List (List TagItem)) (found : Option HeadBreak) → Grows types now
      → AreAllWithin types brackets → IsLeast (SomeBreaks brackets (ItemsInclude decls types)) None
      → AreTagged new decls tagged (brackets_at now brackets)
      → IsFirstOfHeads (TagsBreak tagged) (CollideAmong tagged) found
      → IsFirstOfHeads (BracketsBreak decls all) (BracketsHash decls all) found
  tags_first now new tagged found grown within none tags first =
      let here : AreTagged new decls tagged all =
      subst (AreTagged new decls tagged) (brackets_at-kept types now brackets grown within) tags in
      all_agree (TagsBreak tagged) (BracketsBreak decls all) (CollideAmong tagged) (BracketsHash decls all)
      (names_agree new decls tagged all here) found (tags_agree new decls tagged all here (variant_least None none)) first

  -- ---- tags without conflicts

  item_within :
      (bracket : List NumberedItem) → AreWithin types bracket → (i position : ℕ) (t : Ty)
      → slice_get (items_at types bracket) i ≡ Some (position, t)
      → (n : ℕ) × (n < length types) × (type_at types n ≡ t)
  item_within bracket within i position t at =
      let found = map-slice_get (item_at types) bracket i (position, t) at in (
        found.0.number,
        All-contains (IsWithin types) bracket found.0 within (slice_get-Contains bracket i found.0 found.1),
        ap (λ (p : PlacedItem). p.1) found.2,
      )

  pair_apart :
      AreAllWithin types brackets → StandApart decls types → (items : List PlacedItem) → Contains all items
      → (k i j : ℕ) (one other : TagOf Ty) → HasTags decls items k i j one other → AreApart one other
  pair_apart within apart items among k i j one other has =
      let found = map-Contains (items_at types) brackets items among in
      let inside = All-contains (AreWithin types) brackets found.0 within found.1 in
      let first = item_within found.0 inside i has.position has.first
      (ap (λ (is : List PlacedItem). slice_get is i) found.2 ∙ has.first_is) in
      let second = item_within found.0 inside j k has.second
      (ap (λ (is : List PlacedItem). slice_get is j) found.2 ∙ has.second_is) in
      apart first.0 second.0 one other first.1 second.1
      (subst (λ t. Contains (tags_of_item decls t) one) (sym first.2) has.one_there)
      (subst (λ t. Contains (tags_of_item decls t) other) (sym second.2) has.other_there)

  pub apart_first :
      AreAllWithin types brackets → IsLeast (SomeBreaks brackets (ItemsInclude decls types)) None
      → StandApart decls types → IsFirstOfHeads (BracketsBreak decls all) (BracketsHash decls all) None
  apart_first within none apart rule k late =
      of_late (λ r. ¬ BracketsBreak decls all r k) (variant_least None none k) conflict hash (λ some. some.2) (λ some. some.2) rule late
    where
      conflict : ¬ BracketsBreak decls all tag_clash k
      conflict (items, among, (i, j, one, other, has, before, same, unlike)) =
          (pair_apart within apart items among k i j one other has).arguments same unlike

      hash : ¬ BracketsBreak decls all hash_clash k
      hash (items, among, (i, j, one, other, has, before, unlike, same)) =
          (pair_apart within apart items among k i j one other has).hashes unlike same

-- If the tags of all types have no conflicts, then the tags of the earlier types have no conflicts.
pub apart_before :
    (decls : List Decl) (old new : List Ty) → Grows old new → StandApart decls new → StandApart decls old
apart_before decls old new grown apart i j one other in_i in_j one_there other_there =
    apart i j one other (within i in_i) (within j in_j)
    (subst (λ t. Contains (tags_of_item decls t) one) (sym (type_kept old new i grown in_i)) one_there)
    (subst (λ t. Contains (tags_of_item decls t) other) (sym (type_kept old new j grown in_j)) other_there)
  where
    within : (n : ℕ) → n < length old → n < length new
    within n below =
        slice_get_within new n (type_at old n) (there_kept old new n (type_at old n) grown (slice_get-get_or old n tuple below))

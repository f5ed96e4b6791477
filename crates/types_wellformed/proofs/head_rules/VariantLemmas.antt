-- Lemmas about items that include a type other than a polymorphic variant, as numbered items and as
-- written items.
use Rattle.std.proofs.Common.{ℕ, ◌+◌, ◌<◌, ◌≡◌, ◌∙◌, Bool, false, List, [], ◌∷◌, Option, Some, length, get_or, refl, sym, ap, subst}
use Rattle.std.specs.Prelude.{slice_get, Contains, IsTrue, ◌↔◌}
use Rattle.std.proofs.lemmas.Bool.{false≢true}
use Rattle.std.proofs.lemmas.List.Elements.{All-head, All-tail, All-get_or, All-contains}
use Rattle.std.proofs.lemmas.Option.{slice_get-get_or, get_or_from_slice_get}
use Rattle.base_data.proofs.model.Options.{Contains-map, map-Contains}
use Rattle.types_spec.specs.declared.types.decl.Decl.{Decl}
use Rattle.types_spec.specs.types.Ty.{Ty, tuple}
use Rattle.types_spec.specs.types.TypeNodes.{type_at, type_of_node}
use Rattle.types_spec.specs.types.Occurrence.{PlacedItem}
use Rattle.types_spec.specs.types.Scope.{not_variant}
use Rattle.types_resolve.specs.scope.Least.{IsLeast, earliest, position_if}
use Rattle.types_resolve.proofs.scope.ScopeLeastLemmas.{Before, AtItem, more_tested, least_same}
use Rattle.types_table.specs.declared.store.stored_node.TypeNode.{TypeNode}
use Rattle.types_table.specs.declared.store.stored_node.TypeNode.TheVariants as borrowed
use Rattle.types_table.specs.store.Held.{Grows}
use Rattle.types_table.specs.store.BorrowedNode.{written_of}
use Rattle.types_wellformed.specs.declared.head_rules.item.NumberedItem.{NumberedItem}
use Rattle.types_wellformed.specs.head_rules.Rules.{IsWithin, AreWithin, AreAllWithin, item_at, items_at, brackets_at, IncludesOther, IncludesOtherAt}
use Rattle.types_wellformed.specs.head_rules.Rules.{ItemsInclude, SomeBreaks, ItemsBreak, BracketsBreak}
use Rattle.types_build.proofs.representation.NearerLemmas.{type_kept}

-- ---- one item

read_node :
    (decls : List Decl) (types : List Ty) (number : ℕ) (t : Ty) → slice_get types number ≡ Some t
    → type_at types number ≡ t
read_node decls types number t is = get_or_from_slice_get types number t tuple is

other_kind :
    (decls : List Decl) (types : List Ty) (node : TypeNode)
    → ((w u : ℕ) → node ≡ borrowed.Including w u → ⊥)
    → ¬ IncludesOther decls (type_of_node types (written_of node))
other_kind decls types (borrowed.Variable x) no_including = λ never. never
other_kind decls types (borrowed.Named x) no_including = λ never. never
other_kind decls types borrowed.Tuple no_including = λ never. never
other_kind decls types borrowed.Bracket no_including = λ never. never
other_kind decls types (borrowed.Part w a) no_including = λ never. never
other_kind decls types (borrowed.Tag w x) no_including = λ never. never
other_kind decls types (borrowed.TagOf w x a) no_including = λ never. never
other_kind decls types (borrowed.Including w u) no_including = absurd (no_including w u refl)

pub none_included :
    (decls : List Decl) (types : List Ty) (number : ℕ) (node : TypeNode)
    → slice_get types number ≡ Some (type_of_node types (written_of node))
    → ((w u : ℕ) → node ≡ borrowed.Including w u → ⊥)
    → IsTrue false ↔ IncludesOther decls (type_at types number)
none_included decls types number node there no_including = (
  λ never. absurd (false≢true never),
  λ other. absurd (other_kind decls types node no_including
      (subst (IncludesOther decls) (read_node decls types number (type_of_node types (written_of node)) there) other)),
)

-- ---- after types are added

pub items_kept :
    (old new : List Ty) (items : List NumberedItem) → Grows old new → AreWithin old items
    → items_at new items ≡ items_at old items
items_kept old new [] grown within = refl
items_kept old new (i ∷ items) grown within =
    ap (λ t. (i.position, t) ∷ items_at new items)
    (type_kept old new i.number grown (All-head (IsWithin old) i items within))
    ∙ ap (λ is. item_at old i ∷ is) (items_kept old new items grown (All-tail (IsWithin old) i items within))

pub brackets_at-kept :
    (old new : List Ty) (brackets : List (List NumberedItem)) → Grows old new → AreAllWithin old brackets
    → brackets_at new brackets ≡ brackets_at old brackets
brackets_at-kept old new [] grown within = refl
brackets_at-kept old new (items ∷ brackets) grown within =
    ap (λ is. is ∷ brackets_at new brackets)
    (items_kept old new items grown (All-head (AreWithin old) items brackets within))
    ∙ ap (λ bs. items_at old items ∷ bs)
    (brackets_at-kept old new brackets grown (All-tail (AreWithin old) items brackets within))

-- ---- as they are written

module _ (decls : List Decl) (types : List Ty) where
  item_written :
      (items : List NumberedItem) (k : ℕ) → ItemsInclude decls types items k
      → ItemsBreak decls (items_at types items) not_variant k
  item_written items k (i, among, here) = (item_at types i, Contains-map (item_at types) items i among, here)

  item_numbered :
      (items : List NumberedItem) (k : ℕ) → ItemsBreak decls (items_at types items) not_variant k
      → ItemsInclude decls types items k
  item_numbered items k (item, among, here) =
      let found = map-Contains (item_at types) items item among in (
        found.0,
        found.1,
        (
          ap (λ (p : PlacedItem). p.0) found.2 ∙ here.0,
          subst (λ (p : PlacedItem). IncludesOther decls p.1) (sym found.2) here.1,
        ),
      )

  pub include_agree :
      (brackets : List (List NumberedItem)) (k : ℕ)
      → SomeBreaks brackets (ItemsInclude decls types) k
      ↔ BracketsBreak decls (brackets_at types brackets) not_variant k
  include_agree brackets k = (
    λ some. (items_at types some.0, Contains-map (items_at types) brackets some.0 some.1, item_written some.0 k some.2),
    λ some. let found = map-Contains (items_at types) brackets some.0 some.1 in (
      found.0,
      found.1,
      item_numbered found.0 k
          (subst (λ items. ItemsBreak decls items not_variant k) (sym found.2) some.2),
    ),
  )

-- ---- one item at a time

pub more_other :
    (decls : List Decl) (old now : List Ty) (items : List NumberedItem) (k : ℕ) (e : NumberedItem)
    (best found next : Option ℕ) (test : Bool) → Grows old now → AreWithin old items → k < length items
    → IsLeast (Before (AtItem items (IncludesOtherAt decls old)) k) best
    → IsTrue test ↔ IncludesOther decls (type_at now (get_or items k e).number)
    → found ≡ position_if test (get_or items k e).position → next ≡ earliest best found
    → IsLeast (Before (AtItem items (IncludesOtherAt decls old)) (k + 1)) next
more_other decls old now items k e best found next test grown within below so_far says found_is is =
    let x = get_or items k e in
    let here = slice_get-get_or items k e below in
    more_tested items (λ (i : NumberedItem). i.position) (λ (i : NumberedItem). IncludesOther decls (type_at old i.number)) k x
    best found next test below (sym (get_or_from_slice_get items k x x here)) so_far
    (subst (λ t. IsTrue test ↔ IncludesOther decls t)
    (type_kept old now x.number grown (All-get_or (IsWithin old) items k e below within)) says)
    found_is is

-- ---- one bracket at a time

-- If the numbers of all brackets' items are in the store, then the numbers of the items of the
-- bracket at index `k` are in the store.
bracket_at :
    (old : List Ty) (brackets : List (List NumberedItem)) (k : ℕ) (items : List NumberedItem)
    → AreAllWithin old brackets → k < length brackets → items ≡ get_or brackets k items → AreWithin old items
bracket_at old brackets k items within below read =
    subst (AreWithin old) (sym read) (All-get_or (AreWithin old) brackets k items below within)

other_kept :
    (decls : List Decl) (old now : List Ty) (items : List NumberedItem) → Grows old now → AreWithin old items
    → (i : NumberedItem) (k : ℕ) → Contains items i → IncludesOtherAt decls now i k ↔ IncludesOtherAt decls old i k
other_kept decls old now items grown within i k among =
    let same = type_kept old now i.number grown (All-contains (IsWithin old) items i within among) in (
      λ here. (here.0, subst (IncludesOther decls) same here.1),
      λ here. (here.0, subst (IncludesOther decls) (sym same) here.1),
    )

pub include_kept :
    (decls : List Decl) (old now : List Ty) (brackets : List (List NumberedItem)) (k : ℕ) (items : List NumberedItem)
    (found : Option ℕ) → Grows old now → AreAllWithin old brackets → k < length brackets
    → items ≡ get_or brackets k items → IsLeast (ItemsInclude decls now items) found
    → IsLeast (ItemsInclude decls old items) found
include_kept decls old now brackets k items found grown within below read least =
    let here = bracket_at old brackets k items within below read in
    least_same (ItemsInclude decls now items) (ItemsInclude decls old items) found least
    (λ j some. (some.0, some.1, (other_kept decls old now items grown here some.0 j some.1).0 some.2))
    (λ j some. (some.0, some.1, (other_kept decls old now items grown here some.0 j some.1).1 some.2))

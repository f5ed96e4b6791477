-- The required types of fields, as numbers of a table.
use Rattle.std.proofs.Common.{ℕ, ◌<◌, ◌≡◌, ◌∙◌, List, [], ◌∷◌, length, Bool, true, false, Option, Some, None}
use Rattle.std.proofs.Common.{ap, subst, sym, cond, ◌==◌, get_or}
use Rattle.std.specs.Prelude.{Contains, slice_get, option_map, option_and_then, find, IfSome}
use Rattle.std.proofs.lemmas.List.Elements.{All-contains}
use Rattle.std.proofs.lemmas.Option.{none-some, same_Some, slice_get_within, get_or_from_slice_get}
use Rattle.base_data.specs.declared.model.value.Val.{Val}
use Rattle.base_data.specs.declared.model.value.Obj.{Obj}
use Rattle.base_data.proofs.model.Options.{Contains-first, Contains-later}
use Rattle.types_spec.specs.declared.types.shape.ShapeOf.{ShapeOf}
use Rattle.types_spec.specs.types.Fault.{type_of_field}
use Rattle.types_spec.specs.types.Fitting.{fields_of, or_none, is_asked}
use Rattle.types_spec.specs.types.Reached.{named_in}
use Rattle.types_spec.specs.types.Table.{Table, table_shapes, node_or_none, typed_fields}
use Rattle.types_spec.proofs.types.TypeAskedLemmas.{if_asked, asked_type}
use Rattle.types_theory.proofs.equality.EqualityReachedLemmas.{needs_named}
use Rattle.types_theory.proofs.table.TableFieldLemmas.{fields_once}
use Rattle.types_table.specs.type_table.Made.{IsLawful}

-- If the type of a field is found in a list, then the list contains the type.
need_by : (n : ℕ × ℕ) (ns : List (ℕ × ℕ)) (i u : ℕ) (test : Bool)
    → (type_of_field ns i ≡ Some u → (k : ℕ) × Contains ns (k, u))
    → option_map (λ (need : ℕ × ℕ). need.1) (cond test (Some n) (find (λ need. need.0 == i) ns))
    ≡ Some u → (k : ℕ) × Contains (n ∷ ns) (k, u)
need_by n ns i u true later is =
    let same : n.1 ≡ u = same_Some n.1 u is in
    (n.0, subst (λ t. Contains (n ∷ ns) (n.0, t)) same (Contains-first n ns))
need_by n ns i u false later is =
    let found = later is in (found.0, Contains-later n ns (found.0, u) found.1)

need_found : (needs : List (ℕ × ℕ)) (i u : ℕ) → type_of_field needs i ≡ Some u
    → (k : ℕ) × Contains needs (k, u)
need_found [] i u is = absurd (none-some u is)
need_found (n ∷ ns) i u is = need_by n ns i u (n.0 == i) (need_found ns i u) is

module _ (table : Table) (graph : List Obj) (v : Val) (at : ℕ) (shape : ShapeOf ℕ)
    (is : slice_get table.nodes at ≡ Some shape) where
  -- The required type of a field is a number of the table.
  pub needed_below :
      (lawful : IsLawful table) (i u : ℕ)
      → type_of_field (or_none (fields_of graph v shape)) i ≡ Some u → u < length table.nodes
  needed_below lawful i u needed =
      let need = need_found (or_none (fields_of graph v shape)) i u needed in
      let named = needs_named shape graph v need.0 u need.1 in
      let here = get_or_from_slice_get table.nodes at shape shape is in
      let all = lawful.closed at shape (slice_get_within table.nodes at shape is) in
      All-contains (λ k. k < length table.nodes) (named_in (get_or table.nodes at shape)) u all
      (subst (λ s. Contains (named_in s) u) (sym here) named)

  -- The type that was found for a field is a number of the table.
  pub found_below :
      (lawful : IsLawful table) (i : ℕ) (needs : List (ℕ × ℕ)) (found : Option ℕ)
      → Some needs ≡ fields_of graph v shape → found ≡ type_of_field needs i
      → IfSome found (λ u. u < length table.nodes)
  found_below lawful i needs None fields is = tt
  found_below lawful i needs (Some u) fields is =
      needed_below lawful i u (ap (λ o. type_of_field (or_none o) i) (sym fields) ∙ sym is)

-- The required type of a field is the field's type, unless the field's type admits every value.
module _ (table : Table) (graph : List Obj) (v : Val) (at i : ℕ) where
  abbrev node : ℕ → ShapeOf ℕ
  node k = node_or_none (slice_get table.nodes k)

  abbrev needed : Option ℕ
  needed = type_of_field ((table_shapes table).needs graph v at) i

  needed_is : (typed : Option ℕ) → typed ≡ type_of_field (typed_fields table graph v at) i
      → option_and_then (if_asked node) typed ≡ needed
  needed_is typed is =
      ap (option_and_then (if_asked node)) is
      ∙ sym (asked_type node (typed_fields table graph v at) i (fields_once (node at) graph v))

  pub none_needed : None ≡ type_of_field (typed_fields table graph v at) i → None ≡ needed
  none_needed is = needed_is None is

  pub needed_by : (u : ℕ) (test : Bool) → Some u ≡ type_of_field (typed_fields table graph v at) i
      → is_asked (node u) ≡ test → cond test (Some u) None ≡ needed
  needed_by u test is asked = ap (λ b. cond b (Some u) None) (sym asked) ∙ needed_is (Some u) is

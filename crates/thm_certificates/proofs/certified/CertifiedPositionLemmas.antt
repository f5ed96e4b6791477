-- If a path leads through a value with few objects, then the steps of the path and the number of
-- the reached object are small.
use Rattle.std.proofs.Common.{◌≡◌, ℕ, ◌<◌, List, [], ◌∷◌, Option, Some, None, ap, subst}
use Rattle.std.specs.Prelude.{option_map}
use Rattle.std.specs.List.{AllByRecursion}
use Rattle.std.proofs.lemmas.Option.{option_and_then_some, none-some, same_Some}
use Rattle.base_data.specs.declared.model.value.Obj.{Obj}
use Rattle.base_data.specs.declared.model.value.Val.{Val}
use Rattle.base_data.specs.declared.model.value.Val.TheVariants as vals
use Rattle.types_spec.specs.types.Fault.{field_of, type_of_field, step, value_at}
use Rattle.types_spec.specs.types.Shapes.{Shapes}
use Rattle.thm_certificates.proofs.certified.CertifiedGraphLemmas.{IsUpTo, AreFew}

module _ (n : ℕ) (graph : List Obj) (few : AreFew n graph) where
  field_small : (v : Val) (i : ℕ) (w : Val) → field_of graph v i ≡ Some w → (i < n) × IsUpTo n w
  field_small (vals.Int z) i w at = absurd (none-some w at)
  field_small (vals.Atom tag) i w at = absurd (none-some w at)
  field_small (vals.Ref o) i w at = few o i w at

  paired : {T : Type 0} (w : Val) (named : Option T) (next : Val × T)
      → option_map (λ u. (w, u)) named ≡ Some next → w ≡ next.0
  paired w None next same = absurd (none-some next same)
  paired w (Some u) next same = ap (λ p. p.0) (same_Some (w, u) next same)

  module _ {T : Type 0} (shapes : Shapes T) where
    step_small : (v : Val) (t : T) (i : ℕ) (next : Val × T) → step shapes graph v t i ≡ Some next
        → (i < n) × IsUpTo n next.0
    step_small v t i next stepped =
        option_and_then_some
        (λ w. option_map (λ u. (w, u)) (type_of_field (shapes.needs graph v t) i))
        (field_of graph v i) next stepped (λ w found typed.
        let small = field_small v i w found in (
          small.0,
          subst (IsUpTo n)
              (paired w (type_of_field (shapes.needs graph v t) i) next typed) small.1,
        ))

    pub path_small :
        (path : List ℕ) (v : Val) (t : T) (position : Val × T) → IsUpTo n v
        → value_at shapes graph v t path ≡ Some position
        → AllByRecursion (λ i. i < n) path × IsUpTo n position.0
    path_small [] v t position small at =
        (tt, subst (λ (p : Val × T). IsUpTo n p.0) (same_Some (v, t) position at) small)
    path_small (i ∷ path) v t position small at =
        option_and_then_some (λ next. value_at shapes graph next.0 next.1 path)
        (step shapes graph v t i) position at (λ next stepped rest.
        let first = step_small v t i next stepped in
        let more = path_small path next.0 next.1 position first.1 rest in
        ((first.0, more.0), more.1))

-- The objects that a search visits in a well-typed value.
use Rattle.std.proofs.Common.{ℕ, zero, suc, ◌<◌, ◌≤◌, ◌≡◌, ◌∙◌, ◌++◌, List, [], ◌∷◌, length, Some, None, refl, sym, ap, subst, arith}
use Rattle.std.proofs.lemmas.Option.{none-some, same_Some}
use Rattle.base_data.proofs.model.Options.{slice_get_there}
use Rattle.base_data.specs.declared.model.value.Val.{Val}
use Rattle.base_data.specs.declared.model.value.Val.TheVariants as vals
use Rattle.base_data.specs.declared.model.value.Obj.{Obj}
use Rattle.types_spec.specs.types.LawfulShapes.{Everything}
use Rattle.types_spec.specs.declared.types.fault.Fault.TheVariants.{Mismatch}
use Rattle.types_spec.specs.types.Fault.{value_at}
use Rattle.types_spec.specs.types.Table.{Table, table_shapes}
use Rattle.types_spec.specs.types.Typing.{HasType}
use Rattle.types_spec.proofs.types.TypeFaultLemmas.{fault_excludes_type}
use Rattle.types_theory.proofs.typing.SearchedLemmas.{seen_is_known}
use Rattle.types_table.specs.type_table.Made.{IsLawful}
use Rattle.check_heap.specs.declared.check.visits.Visit.{Visit}
use Rattle.check_heap.specs.check.KnownVisits.{AreOrdered, IsPathOf}
use Rattle.check_heap.specs.check.Explored.{root_of, IsExplored}
use Rattle.check_heap.specs.check.Search.{SearchesVisits}
use Rattle.check_heap.specs.check.Met.{AreAllMet}
use Rattle.check_heap.proofs.check.CheckVerdictLemmas.{all_searched}
use Rattle.check_heap.proofs.check.CheckDecideLemmas.{start, root_kept, mismatch_verdict}

-- Each visit has a path.
path_there : (all : List Visit) (fuel k : ℕ) → AreOrdered all → k < length all → k ≤ fuel → (path : List ℕ) × IsPathOf all k path
path_there all fuel zero ordered inside few = ([], λ known e are at_k. sym (are.root e at_k))
path_there all zero (suc k) ordered inside few = absurd (omega (arith, few))
path_there all (suc fuel) (suc k) ordered inside few =
    let v = slice_get_there all (suc k) inside in
    let less = ordered (suc k) v.0 (omega arith) v.1 in
    let back = path_there all fuel v.0.parent ordered (omega (arith, less, inside)) (omega (arith, less, few)) in (
      back.0 ++ v.0.step ∷ [],
      λ known e are at_k.
          let many = are.many in
          let p = slice_get_there known v.0.parent (omega (arith, less, inside, many)) in
          ap (λ q. q ++ v.0.step ∷ []) (back.1 known p.0 are p.1) ∙ sym (are.paths (suc k) v.0 e p.0 (omega arith) v.1 at_k p.1),
    )

module _ (table : Table) (graph : List Obj) (lawful : IsLawful table) where
  -- If an object has type 0, then a search from the object finds no mismatch.
  pub never_mismatch :
      (old new : List Visit) (o n step : ℕ) → old ≡ start table graph o ∷ [] → SearchesVisits table graph old new (Some (n, step))
      → HasType (table_shapes table) graph (vals.Ref o) 0 → ⊥
  never_mismatch old new o n step is searches has =
      let at = searches.tested in
      let path = path_there new n n at.ordered at.in_range (omega arith) in
      let least = mismatch_verdict table graph old new o n step path.0 (path.0 ++ step ∷ []) is searches path.1 refl in
      fault_excludes_type (table_shapes table) Everything lawful.lawful graph (vals.Ref o) 0 (Mismatch (path.0 ++ step ∷ [])) tt least.is_fault has

  explored_met :
      (all : List Visit) (n : ℕ) → IsExplored table graph all n 0 → length all ≤ n → AreAllMet table graph (vals.Ref (root_of all)) all
  explored_met all n x enough = record {
    known = x.known;
    are_known = x.are_known;
    ordered = x.ordered;
    leads = x.explored.leads;
    least = λ path o u leads.
        (seen_is_known (table_shapes table) lawful.lawful graph (vals.Ref (root_of all)) 0 x.known (λ p. Unit {0}) (all_searched table graph all n x enough)
        path (vals.Ref o) u tt leads).1;
    apart = x.explored.apart;
    increasing = x.explored.increasing;
  }

  pub all_met :
      (old new : List Visit) (o : ℕ) → old ≡ start table graph o ∷ [] → SearchesVisits table graph old new None → AreAllMet table graph (vals.Ref o) new
  all_met old new o is searches =
      subst (λ r. AreAllMet table graph (vals.Ref r) new) (root_kept table graph old new o is searches.grows)
      (explored_met new (length new) searches.tested (omega arith))

  -- If a value is no reference, then there are no visits.
  pub none_met : (root : Val) → ((o : ℕ) → root ≡ vals.Ref o → ⊥) → AreAllMet table graph root []
  none_met root other = record {
    known = [];
    are_known = record {
      many = refl;
      objects = λ k v e at_v at_e. absurd (none-some v at_v);
      types = λ k v e at_v at_e. absurd (none-some v at_v);
      root = λ e at_e. absurd (none-some e at_e);
      paths = λ k v e p later at_v at_e at_p. absurd (none-some v at_v);
    };
    ordered = λ k v later at_v. absurd (none-some v at_v);
    leads = λ k e at_k. absurd (none-some e at_k);
    least = λ path o u leads. absurd (nowhere root other path o u leads);
    apart = λ j k a b at_j at_k same equal. absurd (none-some a at_j);
    increasing = λ j k a b less at_j at_k. absurd (none-some a at_j);
  } where
    nowhere :
        (v : Val) → ((o : ℕ) → v ≡ vals.Ref o → ⊥) → (path : List ℕ) (o u : ℕ) → value_at (table_shapes table) graph v 0 path ≡ Some (vals.Ref o, u)
        → ⊥
    nowhere v other [] o u leads = other o (ap (λ (p : Val × ℕ). p.0) (same_Some (v, 0) (vals.Ref o, u) leads))
    nowhere (vals.Int z) other (i ∷ path) o u leads = none-some (vals.Ref o, u) leads
    nowhere (vals.Atom tag) other (i ∷ path) o u leads = none-some (vals.Ref o, u) leads
    nowhere (vals.Ref p) other (i ∷ path) o u leads = other p refl

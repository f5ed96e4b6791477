-- The start of a check, and its results.
use Rattle.std.proofs.Common.{ℕ, zero, suc, ◌<◌, ◌≡◌, ◌∙◌, inl, inr, List, [], ◌∷◌, ◌++◌, length, Some, None, refl, sym, ap, subst, arith}
use Rattle.std.specs.Prelude.{slice_get, Contains}
use Rattle.std.proofs.lemmas.Option.{same_Some, none-some}
use Rattle.base_data.specs.declared.model.value.Val.TheVariants as vals
use Rattle.base_data.specs.declared.model.value.Obj.{Obj}
use Rattle.types_spec.specs.declared.types.fault.Fault.{Fault}
use Rattle.types_spec.specs.declared.types.fault.Fault.TheVariants.{Mismatch}
use Rattle.types_spec.specs.types.Fault.{value_at}
use Rattle.types_spec.specs.types.LeastFault.{IsLeastFault}
use Rattle.types_spec.specs.types.SearchedPaths.{Entry}
use Rattle.types_spec.specs.types.Table.{Table, table_shapes}
use Rattle.types_spec.specs.types.Typing.{HasType}
use Rattle.types_table.specs.type_table.Made.{IsLawful}
use Rattle.check_heap.specs.scan.Paths.{HasPath}
use Rattle.check_heap.specs.declared.check.visits.Visit.{Visit}
use Rattle.check_heap.specs.check.KnownVisits.{IsPathOf, IsConflictOf}
use Rattle.check_heap.specs.check.Conflict.{NoneConflict, IsFirstConflict}
use Rattle.check_heap.specs.check.Explored.{root_of, ComesBefore, AreExplored, IsExplored}
use Rattle.check_heap.specs.check.Search.{GrowsVisits, SearchesVisits, pairs_of}
use Rattle.check_heap.specs.check.Verdict.{IsYes}
use Rattle.check_heap.proofs.check.CheckVisitLemmas.{root_still}
use Rattle.check_heap.proofs.check.CheckVerdictLemmas.{conflict_found, yes_found, paths_found}

only_first : {X : Type 0} (x y : X) (k : ℕ) → slice_get (x ∷ []) k ≡ Some y → (k ≡ 0) × (x ≡ y)
only_first x y zero at_k = (refl, same_Some x y at_k)
only_first x y (suc k) at_k = absurd (none-some y at_k)

module _ (table : Table) (graph : List Obj) where
  -- ---- the start

  abbrev pub start : ℕ → Visit
  start o = record { object = o; ty = 0; parent = 0; step = 0 }

  start_explored :
      (o : ℕ) → IsLawful table → o < length graph → (table_shapes table).fits graph (vals.Ref o) 0
      → AreExplored table graph o (record { path = []; object = o; type = 0 } ∷ []) 0 0
  start_explored o lawful object fit =
      let first : Entry ℕ = record { path = []; object = o; type = 0 } in
      record {
        rooted = refl;
        leads = λ k e at_k. subst (λ (f : Entry ℕ). value_at (table_shapes table) graph (vals.Ref o) 0 f.path ≡ Some (vals.Ref f.object, f.type)) (only_first first e k at_k).1 refl;
        fit = λ k e at_k. subst (λ (f : Entry ℕ). (table_shapes table).fits graph (vals.Ref f.object) f.type) (only_first first e k at_k).1 fit;
        increasing = λ j k a b less at_j at_k.
            let one = (only_first first a j at_j).0 in
            let two = (only_first first b k at_k).0 in
            absurd (omega (arith, less, one, two));
        apart = λ j k a b at_j at_k same equal. (only_first first a j at_j).0 ∙ sym (only_first first b k at_k).0;
        objects = λ k e at_k. subst (λ (f : Entry ℕ). f.object < length graph) (only_first first e k at_k).1 object;
        types = λ k e at_k. subst (λ (f : Entry ℕ). f.type < length table.nodes) (only_first first e k at_k).1 lawful.rooted;
        led = λ k e later at_k. let one = (only_first first e k at_k).0 in absurd (omega (arith, later, one));
        done = λ k j i a e before at_k at_j asked. absurd (never k j before);
      } where
        never : (k j : ℕ) → ComesBefore k j 0 0 → ⊥
        never k j (inl less) = omega arith
        never k j (inr same) = omega (arith, same.1)

  pub first_explored :
      (all : List Visit) (o : ℕ) → all ≡ start o ∷ [] → IsLawful table → o < length graph
      → (table_shapes table).fits graph (vals.Ref o) 0 → IsExplored table graph all 0 0
  first_explored all o is lawful object fit =
      let first : Entry ℕ = record { path = []; object = o; type = 0 } in
      subst (λ vs. IsExplored table graph vs 0 0) (sym is) (record {
        known = record { path = []; object = o; type = 0 } ∷ [];
        are_known = record {
          many = refl;
          objects = λ k v e at_v at_e. sym (ap (λ (f : Entry ℕ). f.object) (only_first first e k at_e).1) ∙ ap (λ (u : Visit). u.object) (only_first (start o) v k at_v).1;
          types = λ k v e at_v at_e. sym (ap (λ (f : Entry ℕ). f.type) (only_first first e k at_e).1) ∙ ap (λ (u : Visit). u.ty) (only_first (start o) v k at_v).1;
          root = λ e at_e. sym (ap (λ (f : Entry ℕ). f.path) (only_first first e 0 at_e).1);
          paths = λ k v e p later at_v at_e at_p. let one = (only_first (start o) v k at_v).0 in absurd (omega (arith, later, one));
        };
        ordered = λ k v later at_v. let one = (only_first (start o) v k at_v).0 in absurd (omega (arith, later, one));
        explored = start_explored o lawful object fit;
      })

  -- ---- an object

  pub root_kept : (old new : List Visit) (o : ℕ) → old ≡ start o ∷ [] → GrowsVisits old new → root_of new ≡ o
  root_kept old new o is grows =
      let some : 0 < length old = let one = ap length is in omega (arith, one) in
      root_still old new some grows ∙ ap root_of is

  pub mismatch_verdict :
      (old new : List Visit) (o n step : ℕ) (path longer : List ℕ) → old ≡ start o ∷ [] → SearchesVisits table graph old new (Some (n, step))
      → IsPathOf new n path → longer ≡ path ++ step ∷ [] → IsLeastFault (table_shapes table) graph (vals.Ref o) 0 (Mismatch longer)
  mismatch_verdict old new o n step path longer is searches leads long =
      subst (λ p. IsLeastFault (table_shapes table) graph (vals.Ref o) 0 (Mismatch p)) (sym long)
      (subst (λ r. IsLeastFault (table_shapes table) graph (vals.Ref r) 0 (Mismatch (path ++ step ∷ []))) (root_kept old new o is searches.grows)
      (searches.tested.least path leads))

  pub conflict_verdict :
      (old new : List Visit) (o i k : ℕ) (fault : Fault) → IsLawful table → old ≡ start o ∷ [] → SearchesVisits table graph old new None
      → IsFirstConflict table graph new i k → IsConflictOf new i k fault → IsLeastFault (table_shapes table) graph (vals.Ref o) 0 fault
  conflict_verdict old new o i k fault lawful is searches conflict paths =
      subst (λ r. IsLeastFault (table_shapes table) graph (vals.Ref r) 0 fault) (root_kept old new o is searches.grows)
      (conflict_found table graph new (length new) searches.tested (omega arith) lawful i k fault conflict paths)

  pub yes_verdict :
      (old new : List Visit) (o : ℕ) → old ≡ start o ∷ [] → SearchesVisits table graph old new None → NoneConflict table graph new (length new)
      → HasType (table_shapes table) graph (vals.Ref o) 0 × IsYes table graph (vals.Ref o) (pairs_of new)
  yes_verdict old new o is searches none =
      subst (λ r. HasType (table_shapes table) graph (vals.Ref r) 0 × IsYes table graph (vals.Ref r) (pairs_of new)) (root_kept old new o is searches.grows)
      (yes_found table graph new (length new) searches.tested (omega arith) none)

  pub yes_paths :
      (old new : List Visit) (o : ℕ) → old ≡ start o ∷ [] → SearchesVisits table graph old new None
      → (p t : ℕ) → Contains (pairs_of new) (p, t) → HasPath table graph (vals.Ref o) p t
  yes_paths old new o is searches p t among =
      subst (λ r. HasPath table graph (vals.Ref r) p t) (root_kept old new o is searches.grows)
      (paths_found table graph new (length new) searches.tested (omega arith) p t among)

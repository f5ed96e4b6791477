-- If exactly one mismatch was found, then the mismatch is the first fault.
use Rattle.std.proofs.Common.{ℕ, ◌≡◌, List, [], ◌∷◌, ◌++◌, Some, sym, ap, subst}
use Rattle.std.specs.Prelude.{Contains, IsTrue, All}
use Rattle.std.proofs.lemmas.List.Elements.{All-head, All-tail}
use Rattle.base_data.specs.declared.model.value.Val.{Val}
use Rattle.base_data.specs.declared.model.value.Val.TheVariants as vals
use Rattle.base_data.specs.declared.model.value.Obj.{Obj}
use Rattle.types_spec.specs.declared.types.fault.Fault.TheVariants.{Mismatch}
use Rattle.types_spec.specs.types.Fault.{step, value_at}
use Rattle.types_spec.specs.types.LeastFault.{IsLeastFault}
use Rattle.types_spec.specs.types.LawfulShapes.{Everything, AreLawful}
use Rattle.types_spec.specs.types.Table.{Table, table_shapes, is_asked_in}
use Rattle.check_stream.specs.mismatch_theory.OnlyWay.{path_of}
use Rattle.check_stream.specs.mismatch_theory.PassedBut.{MadeObject, Missed, Misses}
use Rattle.check_stream.specs.mismatch_theory.MissedLaw.{IsEncodedBy, IsLeastMissed}
use Rattle.check_stream.proofs.mismatch_theory.MismatchWayLemmas.{root_mismatch, hole_at, only_mismatch}
use Rattle.check_stream.proofs.mismatch_theory.BridgeLemmas.{IsMadeAt, typed_of, AreMade, held_but, way_of, only_of}
use Rattle.check_stream.proofs.mismatch_theory.MissLemmas.{misses_do_not_fit}

module _ (table : Table) (graph : List Obj) (root : Val) (missed : Missed) where
  -- The mismatch is at field `i` of object `o`.
  pub record IsMet (made : List MadeObject) (o i : ℕ) (trail : List (ℕ × ℕ)) : Type 0 where
    pub is : missed.trail ≡ (o, i) ∷ trail
    pub type : ℕ
    pub at : IsMadeAt made o type trail
    pub asked : IsTrue (is_asked_in table type)
    pub value : Val
    pub stepped : step (table_shapes table) graph (vals.Ref o) type i ≡ Some (value, missed.type)
    pub encoded : IsEncodedBy graph value missed.token

  pub field_least : (made : List MadeObject) (back : List ℕ) (noted : List (ℕ × ℕ)) (o i : ℕ) (trail : List (ℕ × ℕ)) → AreLawful (table_shapes table) Everything → AreMade table graph made back noted root missed.trail → Misses table missed.type missed.token → IsMet made o i trail → All (λ (link : ℕ × ℕ). Contains back link.0 → ⊥) missed.trail → IsLeastMissed table graph root missed
  field_least made back noted o i trail lawful are misses met others =
      let shapes = table_shapes table in
      let others' = subst (λ τ. All (λ (link : ℕ × ℕ). Contains back link.0 → ⊥) τ) met.is others in
      let held = held_but table graph made back noted root missed.trail lawful are o i trail met.is in
      let way = way_of table graph made back noted root missed.trail lawful are trail o met.type met.at met.asked in
      let only = only_of table graph made back noted root missed.trail lawful are trail o met.type met.at met.asked
      (All-head (λ (link : ℕ × ℕ). Contains back link.0 → ⊥) (o, i) trail others')
      (All-tail (λ (link : ℕ × ℕ). Contains back link.0 → ⊥) (o, i) trail others') in
      let not = misses_do_not_fit table graph met.value missed.type missed.token misses met.encoded in
      record {
        value = met.value;
        at = subst (λ τ. value_at shapes graph root 0 (path_of τ) ≡ Some (met.value, missed.type)) (sym met.is)
            (hole_at shapes lawful graph (typed_of made ++ noted) root 0 trail o i met.type missed.type met.value held way only met.stepped);
        encoded = met.encoded;
        least = subst (λ τ. IsLeastFault shapes graph root 0 (Mismatch (path_of τ))) (sym met.is)
            (only_mismatch shapes lawful graph (typed_of made ++ noted) root 0 trail o i met.type missed.type met.value held way only met.stepped not);
      }

  -- If the mismatch is at the root, then the mismatch is the first fault.
  pub root_least : missed.trail ≡ [] → missed.type ≡ 0 → Misses table missed.type missed.token → IsEncodedBy graph root missed.token → IsLeastMissed table graph root missed
  root_least is type misses encoded =
      let shapes = table_shapes table in
      let not = subst (λ t. shapes.fits graph root t → ⊥) type (misses_do_not_fit table graph root missed.type missed.token misses encoded) in
      record {
        value = root;
        at = subst (λ τ. value_at shapes graph root 0 (path_of τ) ≡ Some (root, missed.type)) (sym is) (ap (λ t. Some (root, t)) (sym type));
        encoded = encoded;
        least = subst (λ τ. IsLeastFault shapes graph root 0 (Mismatch (path_of τ))) (sym is) (root_mismatch shapes graph root 0 not);
      }

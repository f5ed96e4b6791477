-- If exactly one mismatch was found, then the mismatch is the first fault of the value.
use mathlib.Core.List.{cons≢nil}
use Rattle.std.proofs.Common.{ℕ, ◌≡◌, ◌∙◌, ⊎_elim, List, [], ◌∷◌, ◌++◌, length, Some, refl, sym, ap, subst, arith}
use Rattle.std.specs.Prelude.{Contains, IsTrue, All}
use Rattle.std.proofs.lemmas.List.{append-nil}
use Rattle.std.proofs.lemmas.Option.{slice_get_within}
use Rattle.base_data.specs.declared.model.value.Val.{Val}
use Rattle.base_data.specs.declared.model.value.Obj.{Obj}
use Rattle.types_spec.specs.types.LawfulShapes.{Everything, AreLawful}
use Rattle.types_spec.specs.types.Table.{Table, table_shapes, is_asked_in}
use Rattle.marshal_spec.specs.format.Tree.{Tree, IsTree, tokens, root, objects_of}
use Rattle.check_stream.specs.theory.AskedNeeds.{of_type}
use Rattle.check_stream.specs.mismatch_theory.MissedLaw.{IsEncodedBy, IsLeastMissed}
use Rattle.check_stream.specs.mismatch_theory.PassedBut.{OpenPosition, MadeObject, Missed, PassedBut}
use Rattle.check_stream.proofs.mismatch_theory.BridgeLemmas.{IsMadeAt, AreMade}
use Rattle.check_stream.proofs.mismatch_theory.MismatchEndLemmas.{IsMet, field_least, root_least}
use Rattle.check_stream.proofs.mismatch_theory.MismatchPrefixLemmas.{PassesBut, IsFromStart, passes_from_start}
use Rattle.check_stream.proofs.mismatch_theory.MismatchPlainLemmas.{plain_alone}
use Rattle.check_stream.proofs.mismatch_theory.MismatchReadLemmas.{Good, IsMetAs, IsReadBut, all_in, tree_read}
use Rattle.check_stream.proofs.mismatch_theory.RealLemmas.{IsReal}

module _ (table : Table) (lawful : AreLawful (table_shapes table) Everything) (back : List ℕ) (tree : Tree) (made : List MadeObject) (m : Missed) (is : IsTree tree)
    (passed : PassedBut back table (tokens tree) made [] (m ∷ [])) where
  abbrev graph : List Obj
  graph = objects_of tree 0

  abbrev whole : Val
  whole = root tree 0

  abbrev start : List OpenPosition
  start = record { asks = Some (of_type 0); trail = [] } ∷ []

  from : IsFromStart back table made (tokens tree) (m ∷ [])
  from = passes_from_start back table made (tokens tree) (m ∷ []) passed

  -- The pairs of an object and a second type of the object.
  abbrev noted : List (ℕ × ℕ)
  noted = from.noted

  goes : PassesBut back table noted made [] start (tokens tree ++ []) (m ∷ [])
  goes = subst (λ ts. PassesBut back table noted made [] start ts (m ∷ [])) (sym (append-nil (tokens tree))) from.passes

  read : IsReadBut back table noted made graph whole m 0 0 [] tree [] [] (m ∷ [])
  read = tree_read back table noted made graph whole m tree 0 [] [] [] [] (m ∷ []) is (refl, tt) (all_in [] graph) (λ asked. (refl, refl)) goes

  good : (o t : ℕ) (trail : List (ℕ × ℕ)) → IsMadeAt made o t trail → Good back table noted made graph whole m o t trail
  good o t trail at =
      let below = slice_get_within made o record { type = Some t; trail = trail } at in
      let long = ap length read.passes.0 in
      let many = read.many in
      read.good o (omega arith) (omega (arith, below, long, many)) t trail at

  met : IsMetAs back table noted made graph whole m m
  met = ⊎_elim (λ same. absurd (cons≢nil (same ∙ read.passes.1))) (λ is. is) read.met

  -- If an object has a type that is no wildcard, then the root's type is no wildcard.
  root_asked : (trail : List (ℕ × ℕ)) (o t : ℕ) → IsMadeAt made o t trail → IsTrue (is_asked_in table t) → IsTrue (is_asked_in table 0)
  root_asked [] o t at asked =
      let from = (good o t [] at).way asked in
      subst (λ u. IsTrue (is_asked_in table u)) (sym from.1) asked
  root_asked (link ∷ trail) o t at asked =
      let from = (good o t (link ∷ trail) at).way asked in
      root_asked trail link.0 from.0 from.1 from.2

  -- If the mismatch is not the root, then the root satisfies its requirement.
  all_made : (link : ℕ × ℕ) (trail : List (ℕ × ℕ)) → m.trail ≡ link ∷ trail → IsTrue (is_asked_in table 0) → AreMade table graph made back noted whole m.trail
  all_made link trail its asked = record {
    root_fine = ⊎_elim (λ fine. fine) (λ missed. absurd (cons≢nil (sym its ∙ missed.here))) (read.value asked);
    fits = λ o t trail at. (good o t trail at).fits;
    fields = λ o t trail i a at needed. (good o t trail at).fields i a needed;
    ways = λ o t trail at asked. (good o t trail at).way asked;
    again = λ o t among. plain_alone table tree o t is (from.each o t among);
  }

  pub only_missed : All (λ (link : ℕ × ℕ). Contains back link.0 → ⊥) m.trail → IsLeastMissed table graph whole m
  only_missed others = by m.trail refl met.real where
    by : (trail : List (ℕ × ℕ)) → m.trail ≡ trail → IsReal table graph made whole trail met.value m.type → IsLeastMissed table graph whole m
    by [] its real = root_least table graph whole m its (sym real.1) met.misses (subst (λ v. IsEncodedBy graph v m.token) (sym real.0) met.encoded)
    by ((o, i) ∷ trail) its real =
        let are = all_made (o, i) trail its (root_asked trail o real.0 real.1 real.2) in
        let is_met : IsMet table graph whole m made o i trail = record { is = its; type = real.0; at = real.1; asked = real.2; value = met.value; stepped = real.3; encoded = met.encoded } in
        field_least table graph whole m made back noted o i trail lawful are met.misses is_met others

-- If the pairs of a verdict are taken with least type numbers, then they are the pairs that paths
-- reach. The laws on certificate entries follow.
use Rattle.std.proofs.Common.{ℕ, ◌<◌, ◌≡◌, ◌∙◌, ⊎_elim, List, length, Some, sym, ap, subst, arith}
use Rattle.std.specs.Prelude.{slice_index, map, Contains, ◌↔◌}
use Rattle.base_data.proofs.model.Options.{Contains-map, map-Contains}
use Rattle.base_data.specs.declared.model.value.Val.{Val}
use Rattle.base_data.specs.declared.model.value.Val.TheVariants as vals
use Rattle.base_data.specs.declared.model.value.Obj.{Obj}
use Rattle.types_spec.specs.declared.types.fault.Fault.{Fault}
use Rattle.types_spec.specs.declared.types.fault.Fault.TheVariants as faults
use Rattle.types_spec.specs.types.Fault.{value_at}
use Rattle.types_spec.specs.types.LawfulShapes.{AreLawful, Everything}
use Rattle.types_spec.specs.types.LeastFault.{IsLeastFault}
use Rattle.types_spec.specs.types.Table.{Table, table_shapes}
use Rattle.types_spec.specs.types.Typing.{IsListed, HasType}
use Rattle.types_spec.proofs.types.TypeFaultLemmas.{fault_excludes_type}
use Rattle.types_theory.proofs.typing.TypingOnceLemmas.{least_once}
use Rattle.types_table.specs.type_table.Made.{IsLawful}
use Rattle.check_heap.specs.scan.Paths.{HasPath}
use Rattle.check_heap.specs.check.Verdict.{IsYes}
use Rattle.cert_format.specs.declared.section.Section.{Section}
use Rattle.cert_format.specs.declared.section.Section.TheVariants as sections
use Rattle.cert_format.specs.Increasing.{AreIncreasing}
use Rattle.cert_verify.specs.declared.certificate.verified.Verified.{Verified}
use Rattle.cert_verify.specs.certificate.AcceptedEntry.{AreAccepted, IsAccepted}
use Rattle.cert_verify.specs.certificate.Normal.{AreReached}
use Rattle.cert_verify.specs.certificate.Verified.{IsVerified, fault_section, shown_by}
use Rattle.cert_verify.proofs.certificate.EntryAcceptedLemmas.{accepted_hold_paths}
use Rattle.cert_verify.proofs.certificate.EntryReachedLemmas.{reached_pairs, reached_are_one}
use Rattle.cert_verify.proofs.certificate.VerifiedLemmas.{never_both, table_has}
use Rattle.cert_produce.specs.LeastFaults.{IsLeastOf, AreLeastFaults, at_least}
use Rattle.cert_produce.specs.CertifiedVerdict.{IsCertified}

-- ---- the pairs of a `Yes`

pub yes_accepted :
    (table : Table) (graph : List Obj) (root : Val) (typing : List (ℕ × ℕ)) → HasType (table_shapes table) graph root 0
    → IsYes table graph root typing → AreAccepted (table_shapes table) graph root 0 typing
yes_accepted table graph root typing has is = record { typing = is.typing; held = record { fits = has.fits; listed = is.rooted } }

-- The types of accepted pairs are in the table.
pub accepted_within :
    (table : Table) (graph : List Obj) (root : Val) (typing : List (ℕ × ℕ)) → IsLawful table
    → AreAccepted (table_shapes table) graph root 0 typing → (o t : ℕ) → Contains typing (o, t) → t < length table.classes
accepted_within table graph root typing lawful accepted o t among =
    let inside = table_has table graph o t (accepted.typing.fits o t among) in
    let classed = lawful.classed in
    omega (arith, inside, classed)

module _
    (table : Table) (graph : List Obj) (root : Val) (least_faults : List ℕ) (typing pairs : List (ℕ × ℕ)) (lawful : IsLawful table)
    (are : AreLeastFaults table least_faults) (accepted : AreAccepted (table_shapes table) graph root 0 typing)
    (paths : (o t : ℕ) → Contains typing (o, t) → HasPath table graph root o t) (increasing : AreIncreasing pairs)
    (same : (pair : ℕ × ℕ) → Contains pairs pair ↔ Contains (map (at_least least_faults) typing) pair) where
  own_least : (o t : ℕ) → Contains typing (o, t) → IsLeastOf table t (slice_index least_faults t)
  own_least o t among =
      let inside = accepted_within table graph root typing lawful accepted o t among in
      let many = are.many in
      are.least t (omega (arith, inside, many))

  -- The pair of object `o` and type `u` comes from a pair of the typing: `u` is the least number of
  -- a type equal to the type in that pair.
  record IsFrom (o u : ℕ) : Type 0 where
    type : ℕ
    among : Contains typing (o, type)
    least : IsLeastOf table type u

  from : (o u : ℕ) → Contains pairs (o, u) → IsFrom o u
  from o u among =
      let p = map-Contains (at_least least_faults) typing (o, u) ((same (o, u)).0 among) in
      let object : p.0.0 ≡ o = ap (λ (q : ℕ × ℕ). q.0) p.2 in
      let type : slice_index least_faults p.0.1 ≡ u = ap (λ (q : ℕ × ℕ). q.1) p.2 in
      record {
        type = p.0.1;
        among = subst (λ q. Contains typing (q, p.0.1)) object p.1;
        least = subst (IsLeastOf table p.0.1) type (own_least p.0.0 p.0.1 p.1);
      }

  there : (path : List ℕ) (o u : ℕ) → value_at (table_shapes table) graph root 0 path ≡ Some (vals.Ref o, u) → IsListed (table_shapes table) pairs (vals.Ref o) u
  there path o u leads =
      let held = accepted_hold_paths (table_shapes table) lawful.lawful graph root 0 typing accepted path o u leads in
      let own = own_least o held.0 held.1 in (
        slice_index least_faults held.0,
        (same (o, slice_index least_faults held.0)).1 (Contains-map (at_least least_faults) typing (o, held.0) held.1),
        own.1 ∙ held.2,
      )

  pub are_reached : AreReached table graph root pairs
  are_reached = record {
    normal = record { increasing = increasing; least = λ o u among. (from o u among).least.0 };
    led = λ o u among.
        let f = from o u among in
        let p = paths o f.type f.among in
        record { path = p.0; type = f.type; leads = p.1; same = sym f.least.1 };
    all = there;
  }

-- ---- laws

module _ (table : Table) (lawful : AreLawful (table_shapes table) Everything) (graph : List Obj) (root : Val) where
  pub certified_accepted : (section : Section) → IsCertified table graph root section → IsAccepted table graph root section
  certified_accepted (sections.Pairs pairs) is = reached_pairs table lawful graph root pairs is.0 is.1
  certified_accepted (sections.Mismatch path) is = is.is_fault
  certified_accepted (sections.Conflict first second) is = is.is_fault

  pub certified_shown :
      (section : Section) (answer : Verified) → IsCertified table graph root section → IsVerified table graph root section answer
      → answer ≡ shown_by section
  certified_shown section answer is verified = ⊎_elim
      (λ shown. shown.1)
      (λ rejected. absurd (never_both table graph root section rejected.0 rejected.1.is (certified_accepted section is)))
      verified

  never : (fault : Fault) → HasType (table_shapes table) graph root 0 → IsLeastFault (table_shapes table) graph root 0 fault → ⊥
  never fault has least = fault_excludes_type (table_shapes table) Everything lawful graph root 0 fault tt least.is_fault has

  of_one_fault :
      (one other : Fault) → IsLeastFault (table_shapes table) graph root 0 one → IsLeastFault (table_shapes table) graph root 0 other
      → fault_section one ≡ fault_section other
  of_one_fault one other is its = ap fault_section (least_once (table_shapes table) graph root 0 one other is its)

  pub certified_one : (one other : Section) → IsCertified table graph root one → IsCertified table graph root other → one ≡ other
  certified_one (sections.Pairs pairs) (sections.Pairs others) is its =
      ap (λ (ps : List (ℕ × ℕ)). sections.Pairs ps) (reached_are_one table lawful graph root pairs others is.1 its.1)
  certified_one (sections.Pairs pairs) (sections.Mismatch path) is its = absurd (never (faults.Mismatch path) is.0 its)
  certified_one (sections.Pairs pairs) (sections.Conflict first second) is its = absurd (never (faults.Conflict first second) is.0 its)
  certified_one (sections.Mismatch path) (sections.Pairs pairs) is its = absurd (never (faults.Mismatch path) its.0 is)
  certified_one (sections.Conflict first second) (sections.Pairs pairs) is its = absurd (never (faults.Conflict first second) its.0 is)
  certified_one (sections.Mismatch path) (sections.Mismatch other) is its = of_one_fault (faults.Mismatch path) (faults.Mismatch other) is its
  certified_one (sections.Mismatch path) (sections.Conflict first second) is its = of_one_fault (faults.Mismatch path) (faults.Conflict first second) is its
  certified_one (sections.Conflict first second) (sections.Mismatch path) is its = of_one_fault (faults.Conflict first second) (faults.Mismatch path) is its
  certified_one (sections.Conflict first second) (sections.Conflict one other) is its =
      of_one_fault (faults.Conflict first second) (faults.Conflict one other) is its

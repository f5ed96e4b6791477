-- The entries of encoded values can be written in a certificate.
use Rattle.std.proofs.Common.{◌≡◌, ℕ, ◌+◌, ◌<◌, ◌≤◌, ◌^◌, Bool, true, false, List, [], ◌∷◌, length, Option, Some, None, refl, sym, ap, ◌∙◌, length-append, arith}
use Rattle.std.specs.Prelude.{IsSomeAnd, nat_lt, All, Contains}
use Rattle.std.specs.List.{AllByRecursion, AllZip}
use Rattle.std.proofs.lemmas.Bool.{ltb-true, ltb-false}
use Rattle.std.proofs.lemmas.List.Elements.{All-from_recursion, All-weaker, All-contains_itself}
use Rattle.std.proofs.lemmas.Option.{slice_get_past}
use Rattle.base_data.specs.declared.model.value.Val.{Val}
use Rattle.base_data.specs.declared.model.value.Val.TheVariants as vals
use Rattle.marshal_spec.specs.format.Stream.{EncodeAll}
use Rattle.marshal_spec.specs.format.Tree.{Tree, root, objects_of}
use Rattle.run_spec.proofs.runs.LengthLemmas.{encoded_some}
use Rattle.types_spec.specs.declared.types.fault.Fault.{Fault}
use Rattle.types_spec.specs.declared.types.fault.Fault.TheVariants as faults
use Rattle.types_spec.specs.types.Equal.{declared_shapes}
use Rattle.types_spec.specs.types.Fault.{IsFault, value_at}
use Rattle.types_spec.specs.types.Shapes.{Shapes}
use Rattle.types_spec.specs.types.Table.{Table, table_shapes}
use Rattle.cert_format.specs.declared.section.Section.{Section}
use Rattle.cert_format.specs.declared.section.Section.TheVariants as sections
use Rattle.cert_format.specs.CertificateNumbers.{IsNumber}
use Rattle.cert_format.specs.Format.{IsStated, AreStated}
use Rattle.cert_verify.specs.certificate.Normal.{IsLeast}
use Rattle.cert_verify.specs.certificate.Verified.{fault_section}
use Rattle.cert_verify.specs.table_independence.ReachedTypes.{ReachedTypesAreOne, AreReachedAt}
use Rattle.run_types.specs.Language.{TypeOver, ReachesWithinTable}
use Rattle.run_types.proofs.RunTypesGivenLemmas.{lined}
use Rattle.cmd_certify.specs.command.CertifiedOutput.{IsSectionOf}
use Rattle.thm_certificates.proofs.certified.CertifiedGraphLemmas.{IsSmall, encoded_small}
use Rattle.thm_certificates.proofs.certified.CertifiedPositionLemmas.{path_small}

-- The list contains the certificate entry of each value, in the order of the values.
abbrev pub AreSections : TypeOver → List Tree → List Section → Type 0
AreSections t trees all =
    AllZip (λ tree section. IsSectionOf t (objects_of tree 0) (root tree 0) section) trees all

-- The entries of values do not depend on the setting for positions.
pub sections_lined : (t : TypeOver) (lines : Bool) (trees : List Tree) (all : List Section)
    → AreSections t trees all → AreSections (lined t lines) trees all
sections_lined t lines [] [] h = h
sections_lined t lines [] (s ∷ all) h = absurd h
sections_lined t lines (tree ∷ trees) [] h = absurd h
sections_lined t lines (tree ∷ trees) (s ∷ all) h =
    (at s h.0, sections_lined t lines trees all h.1) where
      at : (s : Section) → IsSectionOf t (objects_of tree 0) (root tree 0) s
          → IsSectionOf (lined t lines) (objects_of tree 0) (root tree 0) s
      at (sections.Pairs pairs) is = record { has = is.has; each = is.each; are = is.are }
      at (sections.Mismatch path) is = record { least = is.least; some_not = is.some_not }
      at (sections.Conflict first second) is = record { least = is.least; some_not = is.some_not }

-- ---- paths

some_of : {X : Type 0} (o : Option X) (P : X → Type 0) → IsSomeAnd o P → (x : X) × (o ≡ Some x)
some_of None P h = absurd h
some_of (Some x) P h = (x, refl)

module _ (tree : Tree) (small : IsSmall tree) where
  below : (path : List ℕ) → AllByRecursion (λ i. i < small.bound) path → All IsNumber path
  below path h =
      let bound = small.below in
      All-weaker (λ i. i < small.bound) IsNumber (λ i less. omega (arith, less, bound)) path
      (All-from_recursion (λ i. i < small.bound) path h)

  module _ {T : Type 0} (shapes : Shapes T) (t : T) where
    numbers_of : (path : List ℕ) (position : Val × T)
        → value_at shapes (objects_of tree 0) (root tree 0) t path ≡ Some position → All IsNumber path
    numbers_of path position at =
        below path
        (path_small small.bound (objects_of tree 0) small.fields shapes path (root tree 0) t position
        small.root at).0

    fault_stated : (fault : Fault) → IsFault shapes (objects_of tree 0) (root tree 0) t fault
        → IsStated (fault_section fault)
    fault_stated (faults.Mismatch path) is =
        let position = some_of (value_at shapes (objects_of tree 0) (root tree 0) t path)
        (λ position. ¬ shapes.fits (objects_of tree 0) position.0 position.1) is in
        numbers_of path position.0 position.1
    fault_stated (faults.Conflict first second) is = (
      numbers_of first (vals.Ref is.object, is.one) is.at_first,
      numbers_of second (vals.Ref is.object, is.other) is.at_second,
    )

-- ---- types

-- If type `u` is the least type of its class, then `u` is at most the number of types in the table.
least_type : (table : Table) (u : ℕ) → IsLeast table u → u ≤ length table.classes
least_type table u least = by (nat_lt (length table.classes) u) refl where
  by : (past : Bool) → nat_lt (length table.classes) u ≡ past → u ≤ length table.classes
  by true at =
      let n = length table.classes in
      let less = ltb-true n u at in
      absurd (least n less (slice_get_past table.classes n (omega arith)
      ∙ sym (slice_get_past table.classes u (omega (arith, less)))))
  by false at = ltb-false (length table.classes) u at

module _ (one_list : ReachedTypesAreOne) (t : TypeOver) (few : ReachesWithinTable t.decls t.type) where
  module _ (tree : Tree) (small : IsSmall tree) (pairs : List (ℕ × ℕ))
      (h : AreReachedAt t.decls t.type (objects_of tree 0) (root tree 0) pairs) where
    few_classes : length h.table.classes ≤ 65536
    few_classes =
        let same = one_list t.decls t.type h.types few.types h.reached few.reached in
        let many : length h.table.classes ≡ length few.types = h.made.many ∙ ap length same in
        omega (arith, many, few.few)

    pair_numbers : (pair : ℕ × ℕ) → Contains pairs pair → IsNumber pair.0 × IsNumber pair.1
    pair_numbers pair among =
        let led = h.are.led pair.0 pair.1 among in
        let object : pair.0 ≤ small.bound = (path_small small.bound (objects_of tree 0) small.fields
        (table_shapes h.table) led.path (root tree 0) 0 (vals.Ref pair.0, led.type) small.root
        led.leads).1 in
        let type = least_type h.table pair.1 (h.are.normal.least pair.0 pair.1 among) in
        (omega (arith, object, small.below), omega (arith, type, few_classes))

    pairs_stated : IsStated (sections.Pairs pairs)
    pairs_stated = (
      h.are.normal.increasing,
      All-weaker (Contains pairs) (λ (pair : ℕ × ℕ). IsNumber pair.0 × IsNumber pair.1)
          pair_numbers pairs (All-contains_itself pairs),
    )

  section_stated : (tree : Tree) → IsSmall tree → (section : Section)
      → IsSectionOf t (objects_of tree 0) (root tree 0) section → IsStated section
  section_stated tree small (sections.Pairs pairs) h = pairs_stated tree small pairs h.are
  section_stated tree small (sections.Mismatch path) h =
      fault_stated tree small (declared_shapes t.decls) t.type (faults.Mismatch path) h.least.is_fault
  section_stated tree small (sections.Conflict first second) h =
      fault_stated tree small (declared_shapes t.decls) t.type (faults.Conflict first second)
      h.least.is_fault

  -- ---- all entries

  all_stated : (limit : ℕ) (bytes rest : List ℕ) (trees : List Tree) (all : List Section)
      → EncodeAll limit bytes trees rest → AreSections t trees all → AllByRecursion IsStated all
  all_stated limit bytes rest [] [] encoded h = tt
  all_stated limit bytes rest [] (s ∷ all) encoded h = absurd h
  all_stated limit bytes rest (tree ∷ trees) [] encoded h = absurd h
  all_stated limit bytes rest (tree ∷ trees) (s ∷ all) (first, more, is, one, encoded) h = (
    section_stated tree (encoded_small limit first tree one) s h.0,
    all_stated limit more rest trees all encoded h.1,
  )

  all_few : (limit : ℕ) (bytes rest : List ℕ) (trees : List Tree) (all : List Section)
      → EncodeAll limit bytes trees rest → AreSections t trees all → length all ≤ length bytes
  all_few limit bytes rest [] [] encoded h = omega arith
  all_few limit bytes rest [] (s ∷ all) encoded h = absurd h
  all_few limit bytes rest (tree ∷ trees) [] encoded h = absurd h
  all_few limit bytes rest (tree ∷ trees) (s ∷ all) (first, more, is, one, encoded) h =
      let both : length bytes ≡ length first + length more =
      ap length is ∙ length-append first more in
      let some = encoded_some limit first tree one in
      let next = all_few limit more rest trees all encoded h.1 in
      omega (arith, both, some, next)

  pub are_stated : (limit : ℕ) (bytes rest : List ℕ) (trees : List Tree) (all : List Section)
      → EncodeAll limit bytes trees rest → length bytes < 2 ^ 48 → AreSections t trees all
      → AreStated all
  are_stated limit bytes rest trees all encoded short h = record {
    stated = All-from_recursion IsStated all (all_stated limit bytes rest trees all encoded h);
    few = omega (arith, all_few limit bytes rest trees all encoded h, short);
  }

-- The certificate entry of a value at a declared type.
use Rattle.std.specs.Prelude.{ℕ, ◌≡◌, Bool, true, false, List}
use Rattle.base_data.specs.declared.model.value.Val.{Val}
use Rattle.base_data.specs.declared.model.value.Obj.{Obj}
use Rattle.types_spec.specs.declared.types.fault.Fault.{Fault}
use Rattle.types_spec.specs.declared.types.fault.Fault.TheVariants as faults
use Rattle.types_spec.specs.types.Equal.{declared_shapes}
use Rattle.types_spec.specs.types.LeastFault.{IsLeastFault}
use Rattle.types_spec.specs.types.Typing.{HasType}
use Rattle.types_theory.specs.type_variables.TypeVariables.{HasEachInstance}
use Rattle.marshal_spec.specs.format.Tree.{root, objects_of}
use Rattle.cert_format.specs.declared.section.Section.{Section}
use Rattle.cert_format.specs.declared.section.Section.TheVariants as sections
use Rattle.cert_format.specs.Format.{section_text}
use Rattle.cert_verify.specs.table_independence.ReachedTypes.{AreReachedAt}
use Rattle.cli_spec.specs.Outcome.{Output}
use Rattle.run_spec.specs.runs.Commands.{Commands}
use Rattle.run_types.specs.Language.{TypeOver, declared_types}
use Rattle.cmd_certify.specs.spec.Certification.{Certification, OutputsSections, certifying}
use Rattle.opt_skip_only.specs.skip_spec.SkipRequests.{passed_by}
use Rattle.opt_skip_only.specs.skip_spec.Skipping.{SkippedBytes, skipping}

module _ (t : TypeOver) (graph : List Obj) (v : Val) where
  -- The value has the type and each closed instance of the type. By a table of the types that the
  -- type reaches, `pairs` are the pairs that paths reach. Each pair has the least number of its
  -- class of equal types. The pairs are in the order of an entry.
  pub record CertifiesType (pairs : List (ℕ × ℕ)) : Type 0 where
    pub has : HasType (declared_shapes t.decls) graph v t.type
    pub each : HasEachInstance t.decls graph v t.type
    pub are : AreReachedAt t.decls t.type graph v pairs

  -- The value lacks the type and some closed instance of the type, and `fault` is the value's first
  -- fault.
  pub record CertifiesFault (fault : Fault) : Type 0 where
    pub least : IsLeastFault (declared_shapes t.decls) graph v t.type fault
    pub some_not : ¬ HasEachInstance t.decls graph v t.type

  -- The entry is the certificate entry of the value at the type.
  abbrev pub IsSectionOf : Section → Type 0
  IsSectionOf (sections.Pairs pairs) = CertifiesType pairs
  IsSectionOf (sections.Mismatch path) = CertifiesFault (faults.Mismatch path)
  IsSectionOf (sections.Conflict first second) = CertifiesFault (faults.Conflict first second)

-- Returns true if the entry states that the value has the type.
abbrev pub is_yes : Section → Bool
is_yes (sections.Pairs pairs) = true
is_yes (sections.Mismatch path) = false
is_yes (sections.Conflict first second) = false

-- The output for a value with this number and entry: the text of the entry, and whether the value
-- is ok.
abbrev pub section_output : ℕ → Section → Output
section_output number section =
    record { text = section_text number section; ok = is_yes section }

-- The output for the value is the text of the value's entry, with the value's number.
abbrev pub OutputsSection : TypeOver → ℕ → List Obj → Val → Output → Type 0
OutputsSection t number graph v output =
    (section : Section) × IsSectionOf t graph v section × (output ≡ section_output number section)

-- The output for the value that the tree encodes, with the value's number.
abbrev pub declared_certificates : OutputsSections TypeOver
declared_certificates t number tree output =
    OutputsSection t number (objects_of tree 0) (root tree 0) output

-- `on_certified`: the command at declared types. `on_certified_after`: the command at declared
-- types after skipped bytes.
abbrev pub on_certified : Commands (Certification TypeOver)
on_certified = certifying declared_types declared_certificates

abbrev pub on_certified_after : Commands (SkippedBytes × Certification TypeOver)
on_certified_after = skipping passed_by on_certified

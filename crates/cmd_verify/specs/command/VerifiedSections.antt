-- The result of a certificate entry for a value at a declared type.
use Rattle.std.specs.Prelude.{ℕ, ◌≡◌, true, false, List, ◌++◌, Result, Ok, Err, codes, decimal}
use Rattle.base_data.specs.declared.model.value.Val.{Val}
use Rattle.base_data.specs.declared.model.value.Obj.{Obj}
use Rattle.types_spec.specs.declared.types.fault.Fault.{Fault}
use Rattle.types_spec.specs.types.Equal.{declared_shapes}
use Rattle.types_spec.specs.types.Fault.{IsFault}
use Rattle.types_spec.specs.types.TypeText.{type_text}
use Rattle.types_spec.specs.types.Typing.{HasType}
use Rattle.types_spec.specs.types.VerdictText.{IsFaultText}
use Rattle.types_theory.specs.type_variables.TypeVariables.{HasEachInstance}
use Rattle.marshal_spec.specs.format.Tree.{Tree, root, objects_of}
use Rattle.cert_format.specs.declared.section.Section.{Section}
use Rattle.cert_format.specs.Format.{IsCertificate, IsSyntaxAt}
use Rattle.cert_verify.specs.declared.certificate.verified.Why.{Why}
use Rattle.cert_verify.specs.declared.certificate.verified.Why.TheVariants.{Range, Unfit, Need}
use Rattle.cert_verify.specs.declared.certificate.verified.Why.TheVariants.{TwoTypes, Root}
use Rattle.cert_verify.specs.declared.certificate.verified.Why.TheVariants.{NotFault}
use Rattle.cert_verify.specs.declared.certificate.verified.Verified.{Verified}
use Rattle.cert_verify.specs.declared.certificate.verified.Verified.TheVariants.{Yes, No, Rejected}
use Rattle.cert_verify.specs.table_independence.ReachedTypes.{IsAnswerAt}
use Rattle.run_types.specs.Language.{TypeOver}
use Rattle.cmd_verify.specs.spec.Verification.{Shown, shows, rejects}

-- The text of a reason why an entry is rejected.
abbrev pub why_text : Why → List ℕ
why_text (Range i) = codes "Range(" ++ decimal i ++ codes ")"
why_text (Unfit i) = codes "Unfit(" ++ decimal i ++ codes ")"
why_text (Need i field) = codes "Need(" ++ decimal i ++ codes ", " ++ decimal field ++ codes ")"
why_text (TwoTypes i) = codes "TwoTypes(" ++ decimal i ++ codes ")"
why_text Root = codes "Root"
why_text NotFault = codes "NotFault"

module _ (t : TypeOver) (section : Section) (graph : List Obj) (v : Val) where
  -- The verifier returns this result for the certificate entry, by a table of the types that the
  -- type reaches.
  abbrev pub Answers : Verified → Type 0
  Answers = IsAnswerAt t.decls t.type graph v section

  -- The pairs of the entry are accepted. The value has the type and each closed instance of the
  -- type.
  pub record ShowsType (line : List ℕ) : Type 0 where
    pub accepted : Answers Yes
    pub has : HasType (declared_shapes t.decls) graph v t.type
    pub each : HasEachInstance t.decls graph v t.type
    pub is : line ≡ codes "yes"

  -- The paths of the entry are a fault. The value lacks the type and some closed instance of the
  -- type. If there are several faults, the entry may state any of the faults.
  pub record ShowsFault (line : List ℕ) : Type 0 where
    pub fault : Fault
    pub accepted : Answers (No fault)
    pub is_fault : IsFault (declared_shapes t.decls) graph v t.type fault
    pub has_not : ¬ HasType (declared_shapes t.decls) graph v t.type
    pub some_not : ¬ HasEachInstance t.decls graph v t.type
    pub text : List ℕ
    pub is_text : IsFaultText (declared_shapes t.decls) type_text graph v t.type fault text
    pub is : line ≡ codes "no " ++ text

  -- The entry is rejected, and `reason` is the text of the first reason.
  pub record IsRejected (reason : List ℕ) : Type 0 where
    pub why : Why
    pub rejected : Answers (Rejected why)
    pub is : reason ≡ why_text why

  abbrev pub IsShownAt : Shown → Type 0
  IsShownAt (shows line true) = ShowsType line
  IsShownAt (shows line false) = ShowsFault line
  IsShownAt (rejects reason) = IsRejected reason

-- What the entry shows about the value that the tree encodes.
abbrev pub declared_sections : TypeOver → Section → Tree → Shown → Type 0
declared_sections t section tree shown =
    IsShownAt t section (objects_of tree 0) (root tree 0) shown

-- If the result is `Ok`, the text is the certificate with these entries. If the result is a line
-- number, the first error of the text is in the line with this number.
abbrev pub reads_sections : List ℕ → Result (List Section) ℕ → Type 0
reads_sections text (Ok all) = IsCertificate text all
reads_sections text (Err line) = IsSyntaxAt text line

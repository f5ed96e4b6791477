-- The output of `check --cert` is the certificate of `verify`. For the same input, FILE and TYPE,
-- the certificate is accepted, and `verify` prints the lines of `check`.
use Rattle.std.specs.Prelude.{ℕ, ◌≤◌, ◌≡◌, ◌≢◌, ◌⊎◌, Bool, List, [], Some, Ok}
use Rattle.types_spec.specs.declared.types.decl.Decl.{Decl}
use Rattle.marshal_spec.specs.format.Stream.{EncodeAll}
use Rattle.marshal_spec.specs.format.Tree.{Tree}
use Rattle.cli_spec.specs.declared.status.Status.TheVariants.{AllOk, No, Memory}
use Rattle.cli_spec.specs.CommandLine.{reading_of}
use Rattle.cli_spec.specs.Outcome.{Request, all_under, asked_type, own, verify, Asks, the_verdict}
use Rattle.cli_spec.specs.Outcome.{reports, Output, texts_of, AllPrint}
use Rattle.base_io.specs.Files.{File, contents_of}
use Rattle.base_io.specs.Sink.{Writes}
use Rattle.run_spec.specs.runs.Call.{Call, HasWritten}
use Rattle.run_spec.specs.runs.Commands.{Commands}
use Rattle.run_spec.specs.runs.CommandLaws.{Follow}
use Rattle.run_spec.specs.runs.Environment.{IsHonest}
use Rattle.run_types.specs.Language.{TypeOver, ReadsDeclarations, ReadsType, declared_types}
use Rattle.cmd_certify.specs.spec.Certification.{CertifyArguments, certified_by}

-- The arguments ask to certify the values of the input at FILE and TYPE, from the first byte on.
-- The call reached the end of the input. The input, the contents of FILE and the output of the call
-- are known.
pub record CertifiesValues (arguments : List (List ℕ)) (call : Call)
    (asked : CertifyArguments) (contents input certificate : List ℕ) : Type 0 where
  pub request : Request
  pub asks : Asks arguments request
  pub is_asked : certified_by request ≡ Some asked
  pub at_once : (reading_of request).skip ≡ 0
  pub ended : (call.status ≡ AllOk) ⊎ (call.status ≡ No)
  pub files : List File
  pub map : call.files.before.map ≡ Some files
  pub holds : contents_of files asked.file ≡ Some contents
  pub input_is : call.input.before.bytes ≡ Some input
  pub writes : HasWritten call certificate

-- The arguments ask to verify a certificate of the values of this input at the FILE and TYPE of
-- `asked`. The limit is at least the limit of `asked`. FILE has the given contents, and CERT has
-- the contents `certificate`. No I/O call failed, nothing is too long, and memory did not run out.
pub record VerifiesValues (arguments : List (List ℕ)) (call : Call) (asked : CertifyArguments)
    (contents input certificate : List ℕ) : Type 0 where
  pub name : List ℕ
  pub lines : Bool
  pub limit : ℕ
  pub asks : Asks arguments (own (verify asked.file asked.type.text name lines (all_under limit)))
  pub covers : asked.limit ≤ limit
  pub files : List File
  pub holds : contents_of files asked.file ≡ Some contents
  pub has : contents_of files name ≡ Some certificate
  pub honest : IsHonest call input files
  pub suffices : call.status ≢ Memory

-- The contents of FILE are declarations, and TYPE denotes the type `t` over the declarations, for
-- some setting for positions.
pub record AreReadAs (contents type : List ℕ) (t : TypeOver) : Type 0 where
  pub lines : Bool
  pub decls : List Decl
  pub declared : ReadsDeclarations lines contents (Ok decls)
  pub written : ReadsType decls (asked_type type lines) (Ok t)

-- The input is consecutive values, each under the limit. The later call wrote the line of `check`
-- for each value, in the order of the values. The status of the later call is that of the first
-- call.
pub record ConfirmsAll (asked : CertifyArguments) (contents input : List ℕ) (call later : Call)
    : Type 0 where
  pub type : TypeOver
  pub read : AreReadAs contents asked.type.text type
  pub trees : List Tree
  pub values : EncodeAll asked.limit input trees []
  pub output : List Output
  pub lines : AllPrint declared_types (reports the_verdict type) [] trees output
  pub out : Writes later.out (texts_of output)
  pub err : Writes later.err []
  pub status : later.status ≡ call.status

-- Suppose the first call certifies values, and the second call verifies the output of the first
-- call. Then the certificate is accepted, and the lines of `check` are written.
abbrev pub VerifiesWhatWasWritten : List (List ℕ) → Call → List (List ℕ) → Call → Type 0
VerifiesWhatWasWritten arguments call later_arguments later =
    (asked : CertifyArguments) (contents input certificate : List ℕ)
    → CertifiesValues arguments call asked contents input certificate
    → VerifiesValues later_arguments later asked contents input certificate
    → ConfirmsAll asked contents input call later

-- `VerifiesWhatWasWritten` holds for each two calls of which the first satisfies the specification
-- `c` and the second satisfies the specification `d`.
abbrev pub WrittenCertificatesAreAccepted : {A B : Type 0} → Commands A → Commands B → Type 0
WrittenCertificatesAreAccepted c d =
    Follow c (λ arguments call. Follow d (VerifiesWhatWasWritten arguments call))

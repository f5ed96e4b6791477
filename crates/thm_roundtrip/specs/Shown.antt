-- The output of `show` is the input of `build`: `build` writes the canonical bytes of the printed
-- values.
use Rattle.std.specs.Prelude.{ℕ, ◌≡◌, ◌≢◌, Bool, true, false, List, [], map, Some}
use Rattle.std.specs.List.{concat}
use Rattle.marshal_spec.specs.format.Canonical.{canon}
use Rattle.marshal_spec.specs.format.Stream.{EncodeAll}
use Rattle.marshal_spec.specs.format.Tree.{Tree}
use Rattle.types_spec.specs.declared.types.decl.Decl.{Decl}
use Rattle.types_spec.specs.types.Ty.{Ty}
use Rattle.types_spec.specs.types.Reached.{IsReached, NoneIsWildcard}
use Rattle.types_wellformed.specs.declarations.Read.{IsDeclared, IsTypeOf}
use Rattle.cli_spec.specs.declared.status.Status.TheVariants.{AllOk, Memory}
use Rattle.cli_spec.specs.CommandLine.{styled_by}
use Rattle.cli_spec.specs.Outcome.{all_under, report, the_text, own, build, Asks}
use Rattle.base_io.specs.Files.{File, contents_of}
use Rattle.base_io.specs.Sink.{Writes}
use Rattle.run_spec.specs.runs.Call.{Call, HasWritten}
use Rattle.run_spec.specs.runs.Commands.{Commands}
use Rattle.run_spec.specs.runs.CommandLaws.{Follow}
use Rattle.run_spec.specs.runs.Environment.{IsHonest}

-- The arguments ask to show all values of the input at FILE and TYPE, with decimals or without.
-- Each value is under the limit and is printed on one line. The call ended without errors. The
-- input, the contents of FILE and the output of the call are known.
pub record Shows (arguments : List (List ℕ)) (call : Call) (file type : List ℕ) (limit : ℕ)
    (contents input shown : List ℕ) : Type 0 where
  pub lines : Bool
  pub decimal : Bool
  pub asks : Asks arguments
      (report (the_text (styled_by false decimal)) file type lines (all_under limit))
  pub ok : call.status ≡ AllOk
  pub files : List File
  pub map : call.files.before.map ≡ Some files
  pub holds : contents_of files file ≡ Some contents
  pub input_is : call.input.before.bytes ≡ Some input
  pub writes : HasWritten call shown

-- The arguments ask to build at FILE and TYPE, with decimals or without. FILE has the given
-- contents, and the whole input is the text `shown`. No I/O call failed, nothing is too long, and
-- memory did not run out.
pub record BuildsValues (arguments : List (List ℕ)) (call : Call)
    (file type contents shown : List ℕ)
    : Type 0 where
  pub lines : Bool
  pub decimal : Bool
  pub asks : Asks arguments (own (build file type lines decimal))
  pub files : List File
  pub holds : contents_of files file ≡ Some contents
  pub honest : IsHonest call shown files
  pub suffices : call.status ≢ Memory

-- The bytes are consecutive values, each under the limit. The call wrote the canonical bytes of
-- each value, in the order of the values, and ended without errors.
pub record WritesCanonical (limit : ℕ) (bytes : List ℕ) (call : Call) : Type 0 where
  pub trees : List Tree
  pub values : EncodeAll limit bytes trees []
  pub out : Writes call.out (concat (map canon trees))
  pub err : Writes call.err []
  pub status : call.status ≡ AllOk

-- No type that TYPE reaches, over the declarations of FILE, is `_`.
abbrev pub HidesNothing : List ℕ → List ℕ → Type 0
HidesNothing contents type =
    (decls : List Decl) (t : Ty) (types : List Ty) → IsDeclared contents decls
    → IsTypeOf decls type t → IsReached decls t types → NoneIsWildcard decls types

-- Suppose the first call shows values, and the second call builds the output of the first call at
-- the same FILE and TYPE. Suppose TYPE reaches no `_`, and the second call reads decimals if the
-- first call printed decimals. Then the second call writes the canonical bytes of the values.
abbrev pub BuildsWhatWasShown : List (List ℕ) → Call → List (List ℕ) → Call → Type 0
BuildsWhatWasShown arguments call later_arguments later =
    (file type : List ℕ) (limit : ℕ) (contents input shown : List ℕ)
    → (shows : Shows arguments call file type limit contents input shown)
    → HidesNothing contents type
    → (builds : BuildsValues later_arguments later file type contents shown)
    → (shows.decimal ≡ true → builds.decimal ≡ true) → WritesCanonical limit input later

-- `BuildsWhatWasShown` holds for each two calls of which the first satisfies the specification `c`
-- and the second satisfies the specification `d`.
abbrev pub ShownTextsAreBuilt : {A B : Type 0} → Commands A → Commands B → Type 0
ShownTextsAreBuilt c d = Follow c (λ arguments call. Follow d (BuildsWhatWasShown arguments call))

-- Canonical values that no line edits are written unchanged.
use Rattle.std.specs.Prelude.{ℕ, ◌≡◌, ◌≢◌, Bool, true, List, [], map, None, Ok}
use Rattle.std.specs.List.{concat, AllByRecursion}
use Rattle.types_spec.specs.types.Equal.{declared_shapes}
use Rattle.types_spec.specs.types.Typing.{HasType}
use Rattle.marshal_spec.specs.format.Canonical.{canon}
use Rattle.marshal_spec.specs.format.Compat.{too_large_for_32}
use Rattle.marshal_spec.specs.format.Encoded.{EncodedUnder}
use Rattle.marshal_spec.specs.format.Tree.{Tree, root, objects_of}
use Rattle.cli_spec.specs.declared.status.Status.TheVariants.{AllOk, Memory}
use Rattle.cli_spec.specs.Outcome.{all_under, asked_with, edit, Asks, ReadsTypeOf, ReadsScriptOf}
use Rattle.cli_spec.specs.Outcome.{fetches_of}
use Rattle.base_io.specs.Files.{File, contents_of}
use Rattle.base_io.specs.Sink.{Writes}
use Rattle.run_spec.specs.runs.Call.{Call}
use Rattle.run_types.specs.Language.{TypeOver, declared_types}
use Rattle.run_spec.specs.runs.Environment.{IsHonest}

-- The canonical bytes of the tree respect the limit, and the tree's value has the type. If `compat`
-- is true, a 32-bit reader can hold the value.
pub record IsCanonical (t : TypeOver) (compat : Bool) (limit : ℕ) (tree : Tree) : Type 0 where
  pub encoded : EncodedUnder limit (canon tree) tree
  pub has : HasType (declared_shapes t.decls) (objects_of tree 0) (root tree 0) t.type
  pub fits : compat ≡ true → too_large_for_32 tree ≡ None

-- The arguments request to edit all values by a SCRIPT without lines, FILE and TYPE are accepted,
-- and the input consists of canonical values.
pub record IsLeftAlone (arguments : List (List ℕ)) (input : List ℕ)
    (files : List File) : Type 0 where
  pub file : List ℕ
  pub type : List ℕ
  pub script : List ℕ
  pub compat : Bool
  pub lines : Bool
  pub decimal : Bool
  pub limit : ℕ
  pub asks : Asks arguments (edit file type script compat lines decimal (all_under limit))
  pub type_is : TypeOver
  pub typed : ReadsTypeOf declared_types (fetches_of (contents_of files)).file
      (file, asked_with type lines decimal) (Ok type_is)
  pub no_line : ReadsScriptOf declared_types lines decimal (fetches_of (contents_of files)).script
      script (Ok [])
  pub trees : List Tree
  pub bytes : input ≡ concat (map canon trees)
  pub canonical : AllByRecursion (IsCanonical type_is compat limit) trees

-- The output equals the input, byte for byte.
pub record WritesInput (call : Call) (input : List ℕ) : Type 0 where
  pub out : Writes call.out input
  pub err : Writes call.err []
  pub status : call.status ≡ AllOk

-- If the environment is honest, memory does not run out, and an empty SCRIPT is applied to
-- canonical input, then the output equals the input.
abbrev pub LeavesCanonical : List (List ℕ) → Call → Type 0
LeavesCanonical arguments call =
    (input : List ℕ) (files : List File) → IsHonest call input files → call.status ≢ Memory
    → IsLeftAlone arguments input files → WritesInput call input

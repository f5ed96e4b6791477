-- The type that a FILE and a TYPE denote.
use Rattle.std.specs.Prelude.{ℕ, ◌≡◌, ◌≢◌, ◌⊎◌, Bool, List, Result, Ok, Err, MatchOption}
use Rattle.types_spec.specs.declared.types.decl.Decl.{Decl}
use Rattle.types_spec.specs.types.WellFormed.{AreWellFormed, IsSoundType}
use Rattle.types_table.specs.type_table.Made.{IsTypeTable}
use Rattle.types_parse.specs.grammar.Grammar.{FileTree, Texpr}
use Rattle.types_wellformed.specs.declared.declarations.declaration_fault.DeclFault.{DeclFault}
use Rattle.types_wellformed.specs.declarations.DeclarationFault.{known}
use Rattle.types_wellformed.specs.declarations.DeclarationFaultText.{answer_text}
use Rattle.cli_spec.specs.Outcome.{Found, AskedType, ReadsTypeOf, ReadsScriptOf}
use Rattle.cli_spec.specs.declared.exit.Exit.{Exit}
use Rattle.cli_spec.specs.declared.exit.Exit.TheVariants.{BadPath as bad_path}
use Rattle.cli_spec.specs.declared.exit.Exit.TheVariants.{Declarations as declarations}
use Rattle.cli_spec.specs.declared.exit.Exit.TheVariants.{RequestedType as requested_type}
use Rattle.cli_spec.specs.declared.exit.Exit.TheVariants.{Script as script_line}
use Rattle.cli_spec.specs.declared.exit.Exit.TheVariants.{Memory as out_of_memory}
use Rattle.base_io.specs.StreamState.{FilesState, Change}
use Rattle.text_path.specs.declared.path_fault.PathFault.{PathFault}
use Rattle.text_path.specs.declared.path_fault.PathFault.TheVariants as path_faults
use Rattle.text_path.specs.declared.edits.Script.{Script}
use Rattle.text_path.specs.declared.edits.ScriptFault.{ScriptFault}
use Rattle.text_path.specs.ScriptAnswer.{edits_in}
use Rattle.cli_errors.specs.Exits.{IsOrMemory}
use Rattle.run_types.specs.declared.requested.Prepared.{Prepared}
use Rattle.run_spec.specs.runs.Given.{Fetched}
use Rattle.run_types.specs.Language.{TypeOver, declared_types, ReadsDeclarations, ReadsType}
use Rattle.run_types.specs.Language.{AreEditsOf, script_refusal}

-- The type of a `Prepared` record, without the table.
abbrev pub type_over : Prepared → TypeOver
type_over r = record { decls = r.decls; type = r.ty; lines = r.lines; decimal = r.decimal }

-- The type is sound over well-formed declarations, and the table is the table of the type.
pub record IsReady (r : Prepared) : Type 0 where
  pub ok : AreWellFormed r.decls
  pub sound : IsSoundType r.decls r.ty
  pub made : IsTypeTable r.decls r.ty r.table

-- ---- exit reasons

-- Memory ran out, or the exit reason reports a refusal.
abbrev pub ExitsBy : (List ℕ → Type 0) → (List ℕ → Exit) → Exit → Type 0
ExitsBy Refuses known exit =
    ((refusal : List ℕ) × Refuses refusal × (exit ≡ known refusal))
    ⊎ (exit ≡ out_of_memory)

-- Memory ran out, or the exit reason reports the text of the fault in the declarations.
abbrev pub IsDeclarationsExit : (lines : Bool) → List ℕ → DeclFault → Exit → Type 0
IsDeclarationsExit lines text fault exit =
    MatchOption (known {Tree = FileTree} fault) (exit ≡ out_of_memory)
    (λ answer. IsOrMemory (declarations (answer_text lines text answer)) exit)

abbrev pub IsTypeExit : (lines : Bool) → List ℕ → DeclFault → Exit → Type 0
IsTypeExit lines text fault exit =
    MatchOption (known {Tree = Texpr} fault) (exit ≡ out_of_memory)
    (λ answer. IsOrMemory (requested_type (answer_text lines text answer)) exit)

-- The exit reason for a fault in PATH: that memory ran out, or that the text is no path.
abbrev pub IsPathExit : PathFault → Exit → Type 0
IsPathExit fault exit =
    ((fault ≡ path_faults.Memory) × (exit ≡ out_of_memory))
    ⊎ ((fault ≢ path_faults.Memory) × (exit ≡ bad_path))

-- The exit reason for a fault in SCRIPT: that memory ran out, or the faulty line.
abbrev pub IsScriptExit : (lines : Bool) → ScriptFault → Exit → Type 0
IsScriptExit lines fault exit =
    MatchOption (script_refusal lines fault) (exit ≡ out_of_memory)
    (λ refusal. IsOrMemory (script_line refusal.0 refusal.1) exit)

-- ---- results

abbrev pub GivesDeclarations : (lines : Bool) → List ℕ → Result (List Decl) Exit → Type 0
GivesDeclarations lines text (Ok decls) =
    ReadsDeclarations lines text (Ok decls) × AreWellFormed decls
GivesDeclarations lines text (Err exit) =
    ExitsBy (λ refusal. ReadsDeclarations lines text (Err refusal)) declarations exit

abbrev pub GivesRequested : List Decl → AskedType → Result Prepared Exit → Type 0
GivesRequested decls asked (Ok r) = ReadsType decls asked (Ok (type_over r)) × IsReady r
GivesRequested decls asked (Err exit) =
    ExitsBy (λ refusal. ReadsType decls asked (Err refusal)) requested_type exit

-- The result of reading FILE and TYPE: the type, ready for checks, or an exit reason. The exit
-- reason is that of a refused text, or that memory ran out.
abbrev pub GivesType : List ℕ → AskedType → Found → Result Prepared Exit → Type 0
GivesType file type found (Ok r) =
    ReadsTypeOf declared_types (λ name. found) (file, type) (Ok (type_over r)) × IsReady r
GivesType file type found (Err exit) =
    ReadsTypeOf declared_types (λ name. found) (file, type) (Err exit)
    ⊎ (exit ≡ out_of_memory)

abbrev pub FindsTypeIn : Change FilesState → List ℕ → AskedType → Result Prepared Exit → Type 0
FindsTypeIn files file type result =
    (found : Found) × Fetched files file found × GivesType file type found result

-- The result of parsing a script's text.
abbrev pub IsAnswerOf : (decimal : Bool) → List ℕ → Result Script ScriptFault → Type 0
IsAnswerOf decimal text answer = AreEditsOf decimal text (edits_in answer)

-- The result of reading SCRIPT: the script's lines, or an exit reason. The exit reason is that of a
-- refused text, or that memory ran out.
abbrev pub GivesScript : (lines decimal : Bool) → List ℕ → Found → Result Script Exit → Type 0
GivesScript lines decimal name found (Ok script) =
    ReadsScriptOf declared_types lines decimal (λ name. found) name (Ok script.lines)
GivesScript lines decimal name found (Err exit) =
    ReadsScriptOf declared_types lines decimal (λ name. found) name (Err exit)
    ⊎ (exit ≡ out_of_memory)

abbrev pub FindsScriptIn : Change FilesState → (lines decimal : Bool) → List ℕ
    → Result Script Exit → Type 0
FindsScriptIn files lines decimal name result =
    (found : Found) × Fetched files name found × GivesScript lines decimal name found result

-- The types that FILE and TYPE denote.
use Rattle.std.proofs.Common.{◌≡◌, ◌⊎◌, ◌≤◌, ℕ, Bool, List, length, Some, None, Option, Result, Ok, Err, inl, inr, refl, ap, ◌∙◌, arith}
use Rattle.std.specs.Prelude.{◌≢◌, MatchOption, codes}
use Rattle.std.proofs.lemmas.List.{length-map}
use Rattle.types_spec.specs.types.TypeNodes.{type_at}
use Rattle.types_spec.specs.declared.types.decl.Decl.{Decl}
use Rattle.types_spec.specs.types.Ty.{Ty}
use Rattle.types_spec.specs.types.WellFormed.{AreWellFormed, IsSoundType}
use Rattle.types_spec.specs.types.Reached.{ReachesTooMany}
use Rattle.types_table.specs.declared.type_table.tabled.Tabled.{Tabled}
use Rattle.types_table.specs.type_table.Made.{types_of, IsTypeTable}
use Rattle.types_wellformed.specs.declared.declarations.declaration_fault.DeclFault.{DeclFault}
use Rattle.types_wellformed.specs.declared.declarations.declaration_fault.DeclFault.TheVariants as faults
use Rattle.types_wellformed.specs.declarations.DeclarationAnswer.{DeclarationAnswer, accepted, IsFileAnswer, IsTypeAnswer}
use Rattle.types_wellformed.specs.declarations.DeclarationFault.{known, IsRefused}
use Rattle.types_wellformed.specs.declarations.Read.{IsTypeOf}
use Rattle.types_wellformed.specs.declarations.DeclarationFaultText.{answer_text, lexer_text, placed_text, IsTextOf}
use Rattle.base_data.specs.lines.Lines.{position_on}
use Rattle.cli_spec.specs.Outcome.{at_end, Taken, Found, AskedType, opened, missing, failed, fault_of}
use Rattle.cli_spec.specs.declared.exit.Exit.{Exit}
use Rattle.cli_spec.specs.declared.exit.Exit.TheVariants.{CannotOpen as cannot_open, Declarations as declarations, RequestedType as requested_type, Script as script_line, Memory as out_of_memory}
use Rattle.run_types.specs.declared.requested.Prepared.{Prepared}
use Rattle.text_path.specs.ParserAnswer.{IsAnswer, UnlessMemory}
use Rattle.text_path.specs.declared.path_fault.PathFault.{PathFault}
use Rattle.text_path.specs.declared.path_fault.PathFault.TheVariants as path_faults
use Rattle.text_path.specs.ScriptAnswer.{UnlessMemory as UnlessMemoryInScript}
use Rattle.text_path.specs.declared.edits.Script.{Script}
use Rattle.text_path.specs.declared.edits.ScriptFault.{ScriptFault}
use Rattle.text_path.specs.declared.edits.ScriptFault.TheVariants as script_faults
use Rattle.run_types.specs.Language.{IsRefusal, ReadsPath, ReadsScript, script_refusal}
use Rattle.cli_errors.specs.Exits.{IsOrMemory}
use Rattle.run_types.specs.RequestedTexts.{ExitsBy, IsDeclarationsExit, IsTypeExit, IsScriptExit, IsAnswerOf, GivesDeclarations, GivesRequested, GivesType, GivesScript}

-- ---- faults

-- If a fault is reported, then the text is not accepted.
known_refuses : {Tree : Type 0} (fault : DeclFault) (tree : Tree) → known fault ≡ Some (accepted tree) → ⊥
known_refuses (faults.Lex fault) tree e = cc e
known_refuses (faults.Syntax position) tree e = cc e
known_refuses (faults.TooDeep position) tree e = cc e
known_refuses (faults.Twice position) tree e = cc e
known_refuses (faults.UnknownName position) tree e = cc e
known_refuses (faults.Arity position) tree e = cc e
known_refuses (faults.UnboundVar position) tree e = cc e
known_refuses (faults.Cyclic position) tree e = cc e
known_refuses (faults.Irregular position) tree e = cc e
known_refuses (faults.TooManyConstructors position) tree e = cc e
known_refuses (faults.NotVariant position) tree e = cc e
known_refuses (faults.TagClash position) tree e = cc e
known_refuses (faults.HashClash position one two) tree e = cc e
known_refuses (faults.FloatInGroup position) tree e = cc e
known_refuses (faults.MixedRecord position) tree e = cc e
known_refuses faults.Memory tree e = cc e

-- If the exit reason reports the text of the fault, then it is an exit reason for the fault.
module _ {Tree : Type 0} (lines : Bool) (text refusal : List ℕ) (exit : Exit) (refused : List ℕ → Exit)
    (is : exit ≡ refused refusal) where
  pub refusal_known : (found : Option (DeclarationAnswer Tree)) → IsTextOf lines text found refusal
      → MatchOption found (exit ≡ out_of_memory) (λ answer. IsOrMemory (refused (answer_text lines text answer)) exit)
  refusal_known None none = absurd none
  refusal_known (Some answer) encoded = inl (is ∙ ap refused encoded)

-- If memory ran out, then `out_of_memory` is an exit reason for each fault.
pub memory_known : {X : Type 0} (found : Option X) (known : X → Exit) → MatchOption found (out_of_memory ≡ out_of_memory) (λ x. IsOrMemory (known x) out_of_memory)
memory_known None known = refl
memory_known (Some x) known = inr refl

-- ---- exit reasons

-- The exit reason for a fault reports the refusal, or that memory ran out.
exits_by : {Tree : Type 0} (lines : Bool) (text : List ℕ) (fault : DeclFault) (Is : DeclarationAnswer Tree → Type 0) (reports : List ℕ → Exit) (exit : Exit) → IsRefused Is fault
    → MatchOption (known {Tree = Tree} fault) (exit ≡ out_of_memory) (λ answer. IsOrMemory (reports (answer_text lines text answer)) exit) → ExitsBy (IsRefusal lines text Is) reports exit
exits_by {Tree} lines text fault Is reports exit refused is = at (known fault) refl refused is where
  at : (found : Option (DeclarationAnswer Tree)) → known fault ≡ found → MatchOption found (Unit {0}) Is
      → MatchOption found (exit ≡ out_of_memory) (λ answer. IsOrMemory (reports (answer_text lines text answer)) exit) → ExitsBy (IsRefusal lines text Is) reports exit
  at None e refused is = inr is
  at (Some answer) e refused (inr memory) = inr memory
  at (Some answer) e refused (inl is) =
      inl (answer_text lines text answer, record { answer = answer; is = refused; refuses = λ tree same. known_refuses fault tree (e ∙ ap Some same); encoded = refl }, is)

pub declarations_refused : (lines : Bool) (text : List ℕ) (fault : DeclFault) (exit : Exit) → IsRefused (IsFileAnswer text) fault → IsDeclarationsExit lines text fault exit
    → GivesDeclarations lines text (Err exit)
declarations_refused lines text fault exit refused is = exits_by lines text fault (IsFileAnswer text) declarations exit refused is

pub type_refused : (decls : List Decl) (asked : AskedType) (fault : DeclFault) (exit : Exit) → IsRefused (IsTypeAnswer decls asked.text) fault
    → IsTypeExit asked.lines asked.text fault exit → GivesRequested decls asked (Err exit)
type_refused decls asked fault exit refused is = at (exits_by asked.lines asked.text fault (IsTypeAnswer decls asked.text) requested_type exit refused is) where
  at : ExitsBy (IsRefusal asked.lines asked.text (IsTypeAnswer decls asked.text)) requested_type exit → GivesRequested decls asked (Err exit)
  at (inl (refusal, is, same)) = inl (refusal, inl is, same)
  at (inr memory) = inr memory

pub type_too_many : (decls : List Decl) (asked : AskedType) (t : Ty) → IsTypeOf decls asked.text t → ReachesTooMany decls t
    → (exit : Exit) → IsOrMemory (requested_type (codes "TooManyTypes")) exit → GivesRequested decls asked (Err exit)
type_too_many decls asked t written many exit (inl is) =
    inl (codes "TooManyTypes", inr (record { type = t; written = written; many = many; encoded = refl }), is)
type_too_many decls asked t written many exit (inr memory) = inr memory

-- If the type is sound and has a table, then the type with the table is a result of parsing TYPE.
pub type_given : (decls : List Decl) (asked : AskedType) (t : Ty) (table : Tabled) → AreWellFormed decls → IsTypeOf decls asked.text t → IsSoundType decls t → IsTypeTable decls t table
    → GivesRequested decls asked (Ok (record { decls = decls; ty = t; table = table; lines = asked.lines; decimal = asked.decimal }))
type_given decls asked t table ok written sound made = (
  record {
    over = refl;
    written = written;
    few = record { types = types_of table; reached = made.reached; few = few_types };
    lined = refl;
    decimaled = refl;
  },
  record { ok = ok; sound = sound; made = made },
) where
  few_types : length (types_of table) ≤ 65536
  few_types = let size : length (types_of table) ≡ length table.stored = length-map table.stored (type_at table.store) in let few = made.few in omega (arith, size, few)

-- ---- FILE and TYPE

module _ (file : List ℕ) (type : AskedType) where
  abbrev pub Gives : Found → Result Prepared Exit → Type 0
  Gives found result = GivesType file type found result

  pub reads_missing : (exit : Exit) → IsOrMemory (cannot_open file) exit → Gives missing (Err exit)
  reads_missing exit (inl e) = inl (Err (cannot_open file), refl, ap Err e)
  reads_missing exit (inr memory) = inr memory

  pub reads_failed : (exit : Exit) → IsOrMemory (cannot_open file) exit → Gives failed (Err exit)
  reads_failed exit (inl e) = inl (Err (cannot_open file), refl, ap Err e)
  reads_failed exit (inr memory) = inr memory

  module _ (taken : Taken) where
    pub reads_fault : (exit : Exit) → fault_of taken.until ≡ Some exit → Gives (opened taken) (Err exit)
    reads_fault exit e = inl (Err exit, e, refl)

    abbrev same : taken.until ≡ at_end → opened taken ≡ opened (record { bytes = taken.bytes; until = at_end })
    same e = ap (λ u. opened (record { bytes = taken.bytes; until = u })) e

    pub reads_declarations : taken.until ≡ at_end → (exit : Exit) → GivesDeclarations type.lines taken.bytes (Err exit) → Gives (opened taken) (Err exit)
    reads_declarations e exit (inl (refusal, refuses, is)) =
        inl (Ok taken.bytes, same e, (Err (declarations refusal), (refusal, refuses, refl), ap Err is))
    reads_declarations e exit (inr memory) = inr memory

    pub reads_type : taken.until ≡ at_end → (decls : List Decl) → GivesDeclarations type.lines taken.bytes (Ok decls) → (result : Result Prepared Exit) → GivesRequested decls type result
        → Gives (opened taken) result
    reads_type e decls declared (Ok r) gives = ((Ok taken.bytes, same e, (Ok decls, declared.0, gives.0)), gives.1)
    reads_type e decls declared (Err exit) (inl (refusal, refuses, is)) = inl (Ok taken.bytes, same e, (Ok decls, declared.0, (refusal, refuses, is)))
    reads_type e decls declared (Err exit) (inr memory) = inr memory

-- The parsed type has the setting for positions of the request.
pub given_lines : (file : List ℕ) (type : AskedType) (found : Found) (r : Prepared) → GivesType file type found (Ok r) → r.lines ≡ type.lines
given_lines file type found r ((Err exit, fault, e), ready) = absurd (cc e)
given_lines file type found r ((Ok text, read, (Err exit, refusal, e)), ready) = absurd (cc e)
given_lines file type found r ((Ok text, read, (Ok decls, declared, is)), ready) = is.lined

-- The parsed type has the setting for decimals of the request.
pub given_decimal : (file : List ℕ) (type : AskedType) (found : Found) (r : Prepared) → GivesType file type found (Ok r) → r.decimal ≡ type.decimal
given_decimal file type found r ((Err exit, fault, e), ready) = absurd (cc e)
given_decimal file type found r ((Ok text, read, (Err exit, refusal, e)), ready) = absurd (cc e)
given_decimal file type found r ((Ok text, read, (Ok decls, declared, is)), ready) = is.decimaled

-- ---- PATH

-- If the fault is not that memory ran out, then the text is no path.
pub path_refused : (text : List ℕ) (fault : PathFault) → fault ≢ path_faults.Memory → UnlessMemory (λ f. IsAnswer text (Err f)) fault → ReadsPath text None
path_refused text path_faults.Lex some is = (path_faults.Lex, some, is)
path_refused text (path_faults.Syntax position) some is = (path_faults.Syntax position, some, is)
path_refused text path_faults.Memory some is = absurd (some refl)

-- ---- SCRIPT

-- The exit reason reports the faulty line of the text.
abbrev ExitsByLine : (lines decimal : Bool) → List ℕ → Exit → Type 0
ExitsByLine lines decimal text exit = (refusal : ℕ × List ℕ) × ReadsScript lines decimal text (Err refusal) × (exit ≡ script_line refusal.0 refusal.1)

-- If the fault is not that memory ran out, then the text is no script. The exit reason reports the
-- faulty line, or that memory ran out.
lines_refused : (lines decimal : Bool) (text : List ℕ) (fault : ScriptFault) → UnlessMemoryInScript (λ f. IsAnswerOf decimal text (Err f)) fault → (exit : Exit) → IsScriptExit lines fault exit
    → ExitsByLine lines decimal text exit ⊎ (exit ≡ out_of_memory)
lines_refused lines decimal text fault refused exit is = at fault refused is where
  by_line : (fault : ScriptFault) (refusal : ℕ × List ℕ) → script_refusal lines fault ≡ Some refusal → IsAnswerOf decimal text (Err fault) → IsOrMemory (script_line refusal.0 refusal.1) exit
      → ExitsByLine lines decimal text exit ⊎ (exit ≡ out_of_memory)
  by_line fault refusal is answer (inl reports) = inl (refusal, (fault, answer, is), reports)
  by_line fault refusal is answer (inr memory) = inr memory

  at : (fault : ScriptFault) → UnlessMemoryInScript (λ f. IsAnswerOf decimal text (Err f)) fault → IsScriptExit lines fault exit → ExitsByLine lines decimal text exit ⊎ (exit ≡ out_of_memory)
  at (script_faults.Lex number fault) refused is = by_line (script_faults.Lex number fault) (number, lexer_text (position_on lines number) fault) refl refused is
  at (script_faults.Syntax number position) refused is = by_line (script_faults.Syntax number position) (number, placed_text (codes "Syntax") (position_on lines number position)) refl refused is
  at (script_faults.Later number) refused is = by_line (script_faults.Later number) (number, codes "Later") refl refused is
  at script_faults.Memory refused is = inr is

module _ (lines decimal : Bool) (name : List ℕ) where
  abbrev pub GivesLines : Found → Result Script Exit → Type 0
  GivesLines found result = GivesScript lines decimal name found result

  pub script_missing : (exit : Exit) → IsOrMemory (cannot_open name) exit → GivesLines missing (Err exit)
  script_missing exit (inl e) = inl (Err (cannot_open name), refl, ap Err e)
  script_missing exit (inr memory) = inr memory

  pub script_failed : (exit : Exit) → IsOrMemory (cannot_open name) exit → GivesLines failed (Err exit)
  script_failed exit (inl e) = inl (Err (cannot_open name), refl, ap Err e)
  script_failed exit (inr memory) = inr memory

  module _ (taken : Taken) where
    pub script_fault : (exit : Exit) → fault_of taken.until ≡ Some exit → GivesLines (opened taken) (Err exit)
    script_fault exit e = inl (Err exit, e, refl)

    abbrev all_taken : taken.until ≡ at_end → opened taken ≡ opened (record { bytes = taken.bytes; until = at_end })
    all_taken e = ap (λ u. opened (record { bytes = taken.bytes; until = u })) e

    pub script_read : taken.until ≡ at_end → (script : Script) → IsAnswerOf decimal taken.bytes (Ok script) → GivesLines (opened taken) (Ok script)
    script_read e script is = (Ok taken.bytes, all_taken e, is)

    pub script_refused : taken.until ≡ at_end → (fault : ScriptFault) → UnlessMemoryInScript (λ f. IsAnswerOf decimal taken.bytes (Err f)) fault → (exit : Exit) → IsScriptExit lines fault exit
        → GivesLines (opened taken) (Err exit)
    script_refused e fault refused exit is = at (lines_refused lines decimal taken.bytes fault refused exit is) where
      at : ExitsByLine lines decimal taken.bytes exit ⊎ (exit ≡ out_of_memory) → GivesLines (opened taken) (Err exit)
      at (inl (refusal, reads, same)) = inl (Ok taken.bytes, all_taken e, (refusal, reads, same))
      at (inr memory) = inr memory

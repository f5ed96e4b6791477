-- Each text is read or refused: as declarations, as a type, as a script and as a path.
use Rattle.std.proofs.Common.{◌≡◌, ◌≢◌, ℕ, suc, Bool, true, false, List, [], ◌∷◌, length, Some, None, Result, Ok, Err, inl, inr, refl, ◌∙◌}
use Rattle.std.specs.Prelude.{codes}
use Rattle.base_data.specs.lines.Lines.{position_on}
use Rattle.types_lex.specs.declared.lexeme.Lexeme.{Lexeme}
use Rattle.types_lex.specs.declared.lexeme.LexFault.{LexFault}
use Rattle.types_lex.specs.LexText.{Outcome, HasOneOutcome}
use Rattle.types_spec.specs.declared.types.decl.Decl.{Decl}
use Rattle.types_spec.specs.types.Scope.{Rule, BreaksInFile, BreaksInType}
use Rattle.types_parse.specs.grammar.Grammar.{Kinds, Texpr, texpr, FileTree, file_kinds}
use Rattle.types_parse.specs.grammar.Depths.{texpr_ends, file_ends}
use Rattle.types_parse.specs.grammar.Laws.{HasOneReading}
use Rattle.types_parse.specs.grammar.LexemeKinds.{kinds_of}
use Rattle.types_parse.specs.grammar.Refusals.{TextReading, text_read, syntax_at, too_deep_at, IsReading}
use Rattle.types_parse.specs.parse.Parsed.{byte_of}
use Rattle.types_parse.specs.parse.WrittenTrees.{declarations_of, type_of_texpr}
use Rattle.types_resolve.specs.occurrences.InFile.{file_positions}
use Rattle.types_resolve.specs.occurrences.InText.{in_texpr}
use Rattle.types_wellformed.specs.declarations.DeclarationAnswer.{DeclarationAnswer, accepted, no_lexemes, no_text, too_deep, broken, IsAnswer, IsFileAnswer, IsTypeAnswer}
use Rattle.types_wellformed.specs.declarations.DeclarationFaultText.{answer_text, lexer_text, placed_text}
use Rattle.text_path.specs.ParserAnswer as path
use Rattle.text_path.specs.ScriptAnswer.{LineAnswer, IsLineAnswer, AreAnswers, ScriptEdits, in_prefix, edits_of, lines_of, AreEdits, edits_in, HasOneScriptAnswer}
use Rattle.text_path.specs.declared.edits.ScriptFault.TheVariants as script_faults
use Rattle.text_path.specs.declared.edits.ScriptLine.{ScriptLine}
use Rattle.text_path.specs.declared.path_fault.PathFault.{PathFault}
use Rattle.text_path.specs.declared.path_fault.PathFault.TheVariants as path_faults
use Rattle.text_decimal.specs.scripts.Scripts.{plain_script, decimals_of, given_edits}
use Rattle.text_decimal.specs.declared.texts.decimals.Decimal.{Decimal}
use Rattle.cli_spec.specs.Outcome.{AskedType}
use Rattle.run_types.specs.Language.{ReadsDeclarations, ReadsType, ReadsPath, AreEditsOf, ReadsScript}
use Rattle.thm_outcome.specs.Total.{NotNone}
use Rattle.thm_outcome.proofs.FewTypesLemmas.{few_or_many}
use Rattle.thm_outcome.proofs.LeastRuleLemmas.{kept_or_first}

-- ---- paths

-- Lack of memory is no answer to a text.
path_not_memory : (text : List ℕ) (fault : PathFault) → path.IsAnswer text (Err fault) → fault ≢ path_faults.Memory
path_not_memory text path_faults.Lex is e = cc e
path_not_memory text (path_faults.Syntax position) is e = cc e
path_not_memory text path_faults.Memory (Ok lexemes, lexed, never) e = never
path_not_memory text path_faults.Memory (Err fault, lexed, same) e = cc same

pub path_some : ((text : List ℕ) → path.HasOneAnswer text) → (text : List ℕ) → NotNone (ReadsPath text)
path_some law text none = let one = law text in by one.0 one.1 where
  by : (answer : Result (List ℕ) PathFault) → path.IsAnswer text answer → ⊥
  by (Ok path) is = none (Some path) is
  by (Err fault) is = none None (fault, path_not_memory text fault is, is)

-- ---- scripts

line_not_memory : (number : ℕ) (line : List ℕ) → IsLineAnswer number line (Err script_faults.Memory) → ⊥
line_not_memory number line (Ok lexemes, lexed, never) = never
line_not_memory number line (Err fault, lexed, same) = cc same

prefix_not_memory :
    (edit : ScriptLine) (rest : ScriptEdits) → (rest ≡ Err script_faults.Memory → ⊥)
    → in_prefix (Some edit) rest ≡ Err script_faults.Memory → ⊥
prefix_not_memory edit (Ok edits) known e = cc e
prefix_not_memory edit (Err fault) known e = known e

answers_not_memory :
    (number : ℕ) (lines : List (List ℕ)) (answers : List LineAnswer)
    → AreAnswers number lines answers → edits_of answers ≡ Err script_faults.Memory → ⊥
answers_not_memory number [] [] are e = cc e
answers_not_memory number [] (answer ∷ answers) are e = absurd are
answers_not_memory number (line ∷ lines) [] are e = absurd are
answers_not_memory number (line ∷ lines) (Ok None ∷ answers) (is, are) e =
    answers_not_memory (suc number) lines answers are e
answers_not_memory number (line ∷ lines) (Ok (Some edit) ∷ answers) (is, are) e =
    prefix_not_memory edit (edits_of answers) (answers_not_memory (suc number) lines answers are) e
answers_not_memory number (line ∷ lines) (Err script_faults.Memory ∷ answers) (is, are) e = line_not_memory number line is
answers_not_memory number (line ∷ lines) (Err (script_faults.Lex n fault) ∷ answers) (is, are) e = cc e
answers_not_memory number (line ∷ lines) (Err (script_faults.Syntax n position) ∷ answers) (is, are) e = cc e
answers_not_memory number (line ∷ lines) (Err (script_faults.Later n) ∷ answers) (is, are) e = cc e

edits_not_memory : (text : List ℕ) (all : ScriptEdits) → AreEdits 1 text all → all ≡ Err script_faults.Memory → ⊥
edits_not_memory text all (answers, are, is) e = answers_not_memory 1 (lines_of text) answers are (is ∙ e)

given_not_memory :
    (decimals : List (List Decimal)) (plain : ScriptEdits) → (plain ≡ Err script_faults.Memory → ⊥)
    → given_edits decimals plain ≡ Err script_faults.Memory → ⊥
given_not_memory decimals (Ok lines) known e = cc e
given_not_memory decimals (Err (script_faults.Lex n fault)) known e = cc e
given_not_memory decimals (Err (script_faults.Syntax n position)) known e = cc e
given_not_memory decimals (Err (script_faults.Later n)) known e = cc e
given_not_memory decimals (Err script_faults.Memory) known e = known refl

-- If a text has edits or a fault, and the fault is not a lack of memory, then the text is read or
-- refused.
script_given :
    (lined decimal : Bool) (text : List ℕ) (all : ScriptEdits) → AreEditsOf decimal text all
    → (all ≡ Err script_faults.Memory → ⊥) → NotNone (ReadsScript lined decimal text)
script_given lined decimal text (Ok lines) are known none = none (Ok lines) are
script_given lined decimal text (Err (script_faults.Lex n fault)) are known none =
    none (Err (n, lexer_text (position_on lined n) fault)) (script_faults.Lex n fault, are, refl)
script_given lined decimal text (Err (script_faults.Syntax n position)) are known none =
    none (Err (n, placed_text (codes "Syntax") (position_on lined n position))) (script_faults.Syntax n position, are, refl)
script_given lined decimal text (Err (script_faults.Later n)) are known none =
    none (Err (n, codes "Later")) (script_faults.Later n, are, refl)
script_given lined decimal text (Err script_faults.Memory) are known none = known refl

pub script_some :
    ((text : List ℕ) → HasOneScriptAnswer text)
    → (lined decimal : Bool) (text : List ℕ) → NotNone (ReadsScript lined decimal text)
script_some law lined false text =
    let one = law text in
    let all : ScriptEdits = edits_in one.0 in
    script_given lined false text all one.1 (edits_not_memory text all one.1)
script_some law lined true text =
    let one = law (plain_script text) in
    let plain : ScriptEdits = edits_in one.0 in
    script_given lined true text (given_edits (decimals_of text) plain) (plain, one.1, refl)
    (given_not_memory (decimals_of text) plain (edits_not_memory (plain_script text) plain one.1))

-- ---- declarations and types

module _ (lexed : (text : List ℕ) → HasOneOutcome text) where
  answer_some :
      {Tree : Type 0} (encoded : Tree → Kinds) (ends : Tree → List ℕ) (Breaks : Tree → Rule → ℕ → Type 0)
      → HasOneReading encoded ends → (text : List ℕ) → NotNone (IsAnswer encoded ends Breaks text)
  answer_some {Tree} encoded ends Breaks reads text none = let one = lexed text in by one.0 one.1 where
    read : (lexemes : List Lexeme) → Outcome text (Ok lexemes)
        → (reading : TextReading Tree) → IsReading encoded ends (kinds_of lexemes) reading → ⊥
    read lexemes o (syntax_at k) is =
        none (no_text (byte_of lexemes (length text) k)) (Ok lexemes, o, (syntax_at k, is, refl))
    read lexemes o (too_deep_at k) is =
        none (too_deep (byte_of lexemes (length text) k)) (Ok lexemes, o, (too_deep_at k, is, refl))
    read lexemes o (text_read tree) is =
        kept_or_first (Breaks tree)
        (λ keeps. none (accepted tree) (Ok lexemes, o, (text_read tree, is, (refl, keeps))))
        (λ rule k first.
        none (broken rule (byte_of lexemes (length text) k)) (Ok lexemes, o, (text_read tree, is, (k, first, refl))))

    by : (outcome : Result (List Lexeme) LexFault) → Outcome text outcome → ⊥
    by (Ok lexemes) o = let r = reads (kinds_of lexemes) in read lexemes o r.0 r.1
    by (Err fault) o = none (no_lexemes fault) (Err fault, o, refl)

  pub declarations_some :
      HasOneReading file_kinds file_ends
      → (lined : Bool) (text : List ℕ) → NotNone (ReadsDeclarations lined text)
  declarations_some reads lined text none =
      answer_some file_kinds file_ends (λ tree. BreaksInFile (file_positions tree)) reads text by where
        refused : (answer : DeclarationAnswer FileTree) → IsFileAnswer text answer
            → ((tree : FileTree) → answer ≢ accepted tree) → ⊥
        refused answer is refuses =
            none (Err (answer_text lined text answer))
            (record { answer = answer; is = is; refuses = refuses; encoded = refl })

        by : (answer : DeclarationAnswer FileTree) → IsFileAnswer text answer → ⊥
        by (accepted tree) is =
            none (Ok (declarations_of tree)) (record { tree = tree; answer = is; stand = refl })
        by (no_lexemes fault) is = refused (no_lexemes fault) is (λ tree e. cc e)
        by (no_text position) is = refused (no_text position) is (λ tree e. cc e)
        by (too_deep position) is = refused (too_deep position) is (λ tree e. cc e)
        by (broken rule position) is = refused (broken rule position) is (λ tree e. cc e)

  pub type_some :
      HasOneReading texpr texpr_ends
      → (decls : List Decl) (asked : AskedType) → NotNone (ReadsType decls asked)
  type_some reads decls asked none =
      answer_some texpr texpr_ends (λ tree. BreaksInType decls (in_texpr 0 false tree)) reads asked.text by where
        refused : (answer : DeclarationAnswer Texpr) → IsTypeAnswer decls asked.text answer
            → ((tree : Texpr) → answer ≢ accepted tree) → ⊥
        refused answer is refuses =
            none (Err (answer_text asked.lines asked.text answer))
            (inl (record { answer = answer; is = is; refuses = refuses; encoded = refl }))

        by : (answer : DeclarationAnswer Texpr) → IsTypeAnswer decls asked.text answer → ⊥
        by (accepted tree) is =
            few_or_many decls (type_of_texpr tree)
            (λ few.
            none
            (Ok (record { decls = decls; type = type_of_texpr tree; lines = asked.lines; decimal = asked.decimal }))
            (record {
              over = refl;
              written = record { tree = tree; answer = is; stands = refl };
              few = few;
              lined = refl;
              decimaled = refl;
            }))
            (λ many.
            none (Err (codes "TooManyTypes"))
            (inr (record {
              type = type_of_texpr tree;
              written = record { tree = tree; answer = is; stands = refl };
              many = many;
              encoded = refl;
            })))
        by (no_lexemes fault) is = refused (no_lexemes fault) is (λ tree e. cc e)
        by (no_text position) is = refused (no_text position) is (λ tree e. cc e)
        by (too_deep position) is = refused (too_deep position) is (λ tree e. cc e)
        by (broken rule position) is = refused (broken rule position) is (λ tree e. cc e)

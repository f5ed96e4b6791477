-- The texts of faults: what is wrong, and a position. If the caller chooses lines and columns, the
-- text of a broken rule also contains the name that breaks the rule.
use Rattle.std.specs.Prelude.{ℕ, ◌≡◌, Bool, true, false, List, [], ◌++◌, take, drop, Option, Some}
use Rattle.std.specs.Prelude.{None, Result, Ok, Err, codes}
use Rattle.base_data.specs.lines.Lines.{position_in}
use Rattle.types_lex.specs.declared.lexeme.LexFault.{LexFault}
use Rattle.types_lex.specs.declared.lexeme.LexFault.TheVariants as lexer
use Rattle.types_lex.specs.declared.found_lexeme.LexStep.{LexStep}
use Rattle.types_lex.specs.declared.found_lexeme.LexStep.TheVariants.{Gap, Word}
use Rattle.types_lex.specs.Lexer.{step_at}
use Rattle.types_spec.specs.types.Scope as scope
use Rattle.types_wellformed.specs.declarations.DeclarationAnswer.{DeclarationAnswer, accepted}
use Rattle.types_wellformed.specs.declarations.DeclarationAnswer.{no_lexemes, no_text}
use Rattle.types_wellformed.specs.declarations.DeclarationAnswer.{too_deep, broken}

-- The text of a name and a printed position.
abbrev pub placed_text : (name position : List ℕ) → List ℕ
placed_text name position = name ++ codes " at " ++ position

-- The text of a fault of the lexer: the fault's name and position. A memory fault has an empty
-- text, because a memory fault is not an answer.
abbrev pub lexer_text : (known : ℕ → List ℕ) → LexFault → List ℕ
lexer_text known (lexer.BadByte position) = placed_text (codes "BadByte") (known position)
lexer_text known (lexer.OpenString position) = placed_text (codes "OpenString") (known position)
lexer_text known (lexer.OpenComment position) = placed_text (codes "OpenComment") (known position)
lexer_text known (lexer.TooBig position) = placed_text (codes "TooBig") (known position)
lexer_text known lexer.Memory = []

-- The first lexeme of a text in parentheses, given the first token of the text. If the text begins
-- with no lexeme, the empty text.
abbrev pub name_of_step : List ℕ → Result LexStep LexFault → List ℕ
name_of_step text (Ok (Word word)) = codes "(" ++ take word.len text ++ codes ")"
name_of_step text (Ok (Gap len)) = []
name_of_step text (Err fault) = []

abbrev pub name_at : List ℕ → ℕ → List ℕ
name_at text position = name_of_step (drop position text) (step_at (drop position text))

-- The printed form of the name at an offset of a text. The name is printed only if `lines` is true.
abbrev pub name_in : (lines : Bool) → (text : List ℕ) → ℕ → List ℕ
name_in false text position = []
name_in true text position = name_at text position

-- The text of a broken rule, given the printed form of the name that breaks the rule. The lexeme
-- that breaks a rule on the items of a bracket may begin a type and be no name, so no name is
-- printed.
abbrev pub rule_text : scope.Rule → (name : List ℕ) → List ℕ
rule_text scope.twice name = codes "Twice" ++ name
rule_text scope.unknown_name name = codes "UnknownName" ++ name
rule_text scope.arity name = codes "Arity" ++ name
rule_text scope.unbound_variable name = codes "UnboundVar" ++ name
rule_text scope.cyclic name = codes "Cyclic" ++ name
rule_text scope.irregular name = codes "Irregular" ++ name
rule_text scope.too_many_constructors name = codes "TooManyConstructors" ++ name
rule_text scope.not_variant name = codes "NotVariant"
rule_text scope.tag_clash name = codes "TagClash"
rule_text scope.hash_clash name = codes "HashClash"
rule_text scope.float_in_group name = codes "FloatInGroup" ++ name
rule_text scope.mixed_record name = codes "MixedRecord" ++ name

-- The text of an answer that is a fault of `text`. If `lines` is true, positions are printed by
-- line and column, and names are printed.
abbrev pub answer_text : {Tree : Type 0} → (lines : Bool) (text : List ℕ) → DeclarationAnswer Tree
    → List ℕ
answer_text lines text (accepted tree) = []
answer_text lines text (no_lexemes fault) = lexer_text (position_in lines text) fault
answer_text lines text (no_text position) =
    placed_text (codes "Syntax") (position_in lines text position)
answer_text lines text (too_deep position) =
    placed_text (codes "TooDeep") (position_in lines text position)
answer_text lines text (broken rule position) =
    placed_text (rule_text rule (name_in lines text position)) (position_in lines text position)

-- `refusal` is the text of the answer. If there is no answer, then no text satisfies the
-- definition.
abbrev pub IsTextOf : {Tree : Type 0} → (lines : Bool) (text : List ℕ)
    → Option (DeclarationAnswer Tree)
    → List ℕ → Type 0
IsTextOf lines text None refusal = ⊥
IsTextOf lines text (Some answer) refusal = refusal ≡ answer_text lines text answer

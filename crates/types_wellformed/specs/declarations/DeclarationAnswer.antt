-- The answer to a text of declarations or of a type: a tree of the grammar that breaks no scope
-- rule, or a fault. The stages run in the order lexer, grammar, scope rules.
use Rattle.std.specs.Prelude.{ℕ, ◌≡◌, List, length, Result, Ok, Err, false}
use Rattle.types_lex.specs.declared.lexeme.Lexeme.{Lexeme}
use Rattle.types_lex.specs.declared.lexeme.LexFault.{LexFault}
use Rattle.types_lex.specs.LexText.{Outcome}
use Rattle.types_spec.specs.declared.types.decl.Decl.{Decl}
use Rattle.types_spec.specs.types.Scope.{Rule, IsFirst, KeepsAll, BreaksInFile, BreaksInType}
use Rattle.types_parse.specs.grammar.Grammar.{Kinds, Texpr, texpr, FileTree, file_kinds}
use Rattle.types_parse.specs.grammar.Depths.{texpr_ends, file_ends}
use Rattle.types_parse.specs.grammar.Refusals.{TextReading, text_read, syntax_at, too_deep_at}
use Rattle.types_parse.specs.grammar.Refusals.{IsReading}
use Rattle.types_parse.specs.grammar.LexemeKinds.{kinds_of}
use Rattle.types_parse.specs.parse.Parsed.{byte_of}
use Rattle.types_resolve.specs.occurrences.InFile.{file_positions}
use Rattle.types_resolve.specs.occurrences.InText.{in_texpr}

-- An accepted tree, or a fault with its position as an offset in bytes.
pub data DeclarationAnswer (Tree : Type 0) : Type 0 where
  accepted : Tree → DeclarationAnswer Tree
  no_lexemes : LexFault → DeclarationAnswer Tree
  no_text : ℕ → DeclarationAnswer Tree
  too_deep : ℕ → DeclarationAnswer Tree
  broken : Rule → ℕ → DeclarationAnswer Tree

module _ {Tree : Type 0} (encoded : Tree → Kinds) (ends : Tree → List ℕ)
    (Breaks : Tree → Rule → ℕ → Type 0) where
  -- The answer that the scope rules give to a tree with the lexemes `lexemes`, in a text of `end`
  -- bytes.
  abbrev pub IsJudged : List Lexeme → ℕ → Tree → DeclarationAnswer Tree → Type 0
  IsJudged lexemes end tree (accepted other) = (tree ≡ other) × KeepsAll (Breaks tree)
  IsJudged lexemes end tree (no_lexemes fault) = ⊥
  IsJudged lexemes end tree (no_text position) = ⊥
  IsJudged lexemes end tree (too_deep position) = ⊥
  IsJudged lexemes end tree (broken rule position) =
      (k : ℕ) × IsFirst (Breaks tree) rule k × (byte_of lexemes end k ≡ position)

  -- The answer that follows from the result of the grammar.
  abbrev pub IsRead : List Lexeme → ℕ → TextReading Tree → DeclarationAnswer Tree → Type 0
  IsRead lexemes end (text_read tree) answer = IsJudged lexemes end tree answer
  IsRead lexemes end (syntax_at k) answer = no_text (byte_of lexemes end k) ≡ answer
  IsRead lexemes end (too_deep_at k) answer = too_deep (byte_of lexemes end k) ≡ answer

  -- The answer that follows from the result of the lexer.
  abbrev pub IsLexed : ℕ → Result (List Lexeme) LexFault → DeclarationAnswer Tree → Type 0
  IsLexed end (Ok lexemes) answer =
      (reading : TextReading Tree) × IsReading encoded ends (kinds_of lexemes) reading
      × IsRead lexemes end reading answer
  IsLexed end (Err fault) answer = no_lexemes fault ≡ answer

  -- `answer` is the answer to the text `text`.
  abbrev pub IsAnswer : List ℕ → DeclarationAnswer Tree → Type 0
  IsAnswer text answer =
      (outcome : Result (List Lexeme) LexFault) × Outcome text outcome
      × IsLexed (length text) outcome answer

-- The answer to a text of declarations, by the grammar and the scope rules of files.
abbrev pub IsFileAnswer : List ℕ → DeclarationAnswer FileTree → Type 0
IsFileAnswer = IsAnswer file_kinds file_ends (λ tree. BreaksInFile (file_positions tree))

-- The answer to the text of a type over declarations, by the grammar and the scope rules of types.
abbrev pub IsTypeAnswer : List Decl → List ℕ → DeclarationAnswer Texpr → Type 0
IsTypeAnswer decls = IsAnswer texpr texpr_ends (λ tree. BreaksInType decls (in_texpr 0 false tree))

-- Each text has at most one answer.
abbrev pub HasOneAnswer : {Tree : Type 0} → (List ℕ → DeclarationAnswer Tree → Type 0) → Type 0
HasOneAnswer {Tree} Is =
    (text : List ℕ) (one other : DeclarationAnswer Tree) → Is text one → Is text other → one ≡ other

-- If a stage refuses the text, then the fault of the stage is the answer to the text.
use Rattle.std.proofs.Common.{ℕ, ◌≡◌, ◌∙◌, false, List, length, refl, sym, ap}
use Rattle.std.specs.Prelude.{Ok, Err}
use Rattle.types_lex.specs.declared.lexeme.Lexeme.{Lexeme}
use Rattle.types_lex.specs.declared.lexeme.LexFault.{LexFault}
use Rattle.types_lex.specs.declared.lexeme.LexFault.TheVariants as lexer
use Rattle.types_lex.specs.LexText.{Lexes, Faults, UnlessMemory}
use Rattle.types_spec.specs.types.Scope.{Rule, IsFirst}
use Rattle.types_spec.specs.declared.types.decl.Decl.{Decl}
use Rattle.types_parse.specs.grammar.Grammar.{Kinds, FileTree, file_kinds, Texpr, texpr}
use Rattle.types_parse.specs.grammar.Refusals.{IsText, text_read, syntax_at, too_deep_at}
use Rattle.types_parse.specs.declared.parse.refused.ParseFault.{ParseFault}
use Rattle.types_parse.specs.declared.parse.refused.ParseFault.TheVariants as parser
use Rattle.types_parse.specs.grammar.LexemeKinds.{kinds_of}
use Rattle.types_parse.specs.parse.Parsed.{byte_of, IsFault}
use Rattle.types_parse.specs.parse.WrittenTrees.{declarations_of, type_of_texpr}
use Rattle.types_resolve.specs.occurrences.Counted.{marks, in_type}
use Rattle.types_resolve.specs.occurrences.CountedFile.{counted_file}
use Rattle.types_resolve.specs.occurrences.InFile.{file_positions}
use Rattle.types_resolve.specs.occurrences.InText.{in_texpr}
use Rattle.types_spec.specs.types.Ty.{Ty}
use Rattle.types_resolve.proofs.occurrences.GroupLaws.{files_are_counted}
use Rattle.types_resolve.proofs.occurrences.TypeLaws.{types_are_counted}
use Rattle.types_wellformed.specs.declarations.DeclarationAnswer.{IsAnswer}
use Rattle.types_wellformed.specs.declarations.DeclarationFault.{lexed, parsed, broken_at, IsRefused}
use Rattle.types_resolve.specs.scope.Breaks.{rule_of}
use Rattle.types_resolve.specs.declared.scope.rule.NameRule.{NameRule}
use Rattle.types_resolve.specs.declared.scope.rule.NameRule.TheVariants as names

module _ {Tree : Type 0} (encoded : Tree → Kinds) (ends : Tree → List ℕ) (Breaks : Tree → Rule → ℕ → Type 0)
    (text : List ℕ) where
  pub lexer_refuses :
      (fault : LexFault) → UnlessMemory (Faults text) fault
      → IsRefused (IsAnswer encoded ends Breaks text) (lexed fault)
  lexer_refuses lexer.Memory is = tt
  lexer_refuses (lexer.BadByte position) is = (Err (lexer.BadByte position), is, refl)
  lexer_refuses (lexer.OpenString position) is = (Err (lexer.OpenString position), is, refl)
  lexer_refuses (lexer.OpenComment position) is = (Err (lexer.OpenComment position), is, refl)
  lexer_refuses (lexer.TooBig position) is = (Err (lexer.TooBig position), is, refl)

  module _ (lexemes : List Lexeme) (lexes : Lexes text lexemes) where
    pub grammar_refuses :
        (fault : ParseFault) → IsFault encoded ends (kinds_of lexemes) fault
        → IsRefused (IsAnswer encoded ends Breaks text) (parsed lexemes (length text) fault)
    grammar_refuses (parser.Syntax k) is = (Ok lexemes, lexes, (syntax_at k, is, refl))
    grammar_refuses (parser.TooDeep k) is = (Ok lexemes, lexes, (too_deep_at k, is, refl))
    grammar_refuses parser.Memory is = tt

    pub scope_refuses :
        (tree : Tree) → IsText encoded ends (kinds_of lexemes) tree → (rule : NameRule) (k : ℕ)
        → IsFirst (Breaks tree) (rule_of rule) k
        → IsRefused (IsAnswer encoded ends Breaks text) (broken_at rule (byte_of lexemes (length text) k))
    scope_refuses tree reads names.Twice k is = (Ok lexemes, lexes, (text_read tree, reads, (k, is, refl)))
    scope_refuses tree reads names.UnknownName k is = (Ok lexemes, lexes, (text_read tree, reads, (k, is, refl)))
    scope_refuses tree reads names.Arity k is = (Ok lexemes, lexes, (text_read tree, reads, (k, is, refl)))
    scope_refuses tree reads names.UnboundVariable k is = (Ok lexemes, lexes, (text_read tree, reads, (k, is, refl)))
    scope_refuses tree reads names.Cyclic k is = (Ok lexemes, lexes, (text_read tree, reads, (k, is, refl)))
    scope_refuses tree reads names.Irregular k is = (Ok lexemes, lexes, (text_read tree, reads, (k, is, refl)))
    scope_refuses tree reads names.TooManyConstructors k is = (Ok lexemes, lexes, (text_read tree, reads, (k, is, refl)))

-- The occurrences that counting finds are the occurrences in the text.
pub positions_are :
    (lexemes : List Lexeme) (decls : List Decl) (positions : List ℕ) (tree : FileTree)
    → file_kinds tree ≡ kinds_of lexemes → decls ≡ declarations_of tree
    → positions ≡ marks 0 false (kinds_of lexemes) → counted_file positions decls ≡ file_positions tree
positions_are lexemes decls positions tree encodes stand marked =
    ap (λ ms. counted_file ms decls) (marked ∙ ap (marks 0 false) (sym encodes))
    ∙ ap (counted_file (marks 0 false (file_kinds tree))) stand ∙ files_are_counted.counted tree

pub occurrences_are :
    (lexemes : List Lexeme) (t : Ty) (positions : List ℕ) (tree : Texpr)
    → texpr tree ≡ kinds_of lexemes → t ≡ type_of_texpr tree
    → positions ≡ marks 0 false (kinds_of lexemes) → in_type positions false t ≡ in_texpr 0 false tree
occurrences_are lexemes t positions tree encodes stands marked =
    ap (λ ms. in_type ms false t) (marked ∙ ap (marks 0 false) (sym encodes))
    ∙ ap (in_type (marks 0 false (texpr tree)) false) stands ∙ types_are_counted 0 false tree

-- The results of the parsers.
use Rattle.std.specs.Prelude.{ℕ, ◌≡◌, List, ⊤, unwrap_or, option_map, slice_get}
use Rattle.types_lex.specs.declared.lexeme.Lexeme.{Lexeme}
use Rattle.types_parse.specs.grammar.Grammar.{Kinds, Texpr, texpr, FileTree, file_kinds}
use Rattle.types_parse.specs.grammar.Depths.{texpr_ends, file_ends}
use Rattle.types_parse.specs.grammar.Refusals.{IsText, syntax_at, too_deep_at, IsReading}
use Rattle.types_spec.specs.types.Ty.{Ty}
use Rattle.types_parse.specs.parse.WrittenTrees.{type_of_texpr, declarations_of}
use Rattle.types_spec.specs.declared.types.decl.Decl.{Decl}
use Rattle.types_parse.specs.declared.parse.refused.ParseFault.{ParseFault}
use Rattle.types_parse.specs.declared.parse.refused.ParseFault.TheVariants as faults

-- The fault is the error that the grammar's reading reports.
abbrev pub IsFault : {Text : Type 0} → (Text → Kinds) → (Text → List ℕ) → Kinds → ParseFault
    → Type 0
IsFault encoded ends lexemes (faults.Syntax k) = IsReading encoded ends lexemes (syntax_at k)
IsFault encoded ends lexemes (faults.TooDeep k) = IsReading encoded ends lexemes (too_deep_at k)
IsFault encoded ends lexemes faults.Memory = ⊤

-- The lexemes are a type of the grammar that is nowhere too deep, and `t` is the meaning of the
-- type.
pub record IsTypeOf (lexemes : Kinds) (t : Ty) : Type 0 where
  pub tree : Texpr
  pub reads : IsText texpr texpr_ends lexemes tree
  pub stands : t ≡ type_of_texpr tree

-- The lexemes are a file of the grammar in which nothing is too deep, and `all` is the list of the
-- file's declarations.
pub record AreDeclarationsOf (lexemes : Kinds) (all : List Decl) : Type 0 where
  pub tree : FileTree
  pub reads : IsText file_kinds file_ends lexemes tree
  pub stand : all ≡ declarations_of tree

-- The byte offset at which lexeme `k` begins in a text of `end` bytes. If no lexeme has the index
-- `k`, the byte offset is `end`.
abbrev pub byte_of : List Lexeme → ℕ → ℕ → ℕ
byte_of lexemes end k =
    unwrap_or (option_map (λ (l : Lexeme). l.span.first) (slice_get lexemes k)) end

-- Declarations and types that break no scope rule on names.
use Rattle.std.specs.Prelude.{ℕ, ◌≡◌, List, false}
use Rattle.types_lex.specs.LexText.{Lexes}
use Rattle.types_spec.specs.types.Scope.{BreaksInFile, BreaksInType}
use Rattle.types_spec.specs.declared.types.decl.Decl.{Decl}
use Rattle.types_parse.specs.grammar.Grammar.{FileTree, file_kinds, Texpr, texpr}
use Rattle.types_parse.specs.grammar.Depths.{file_ends, texpr_ends}
use Rattle.types_parse.specs.grammar.Refusals.{IsText}
use Rattle.types_parse.specs.grammar.LexemeKinds.{kinds_of}
use Rattle.types_parse.specs.parse.WrittenTrees.{declarations_of, type_of_texpr}
use Rattle.types_resolve.specs.occurrences.Counted.{marks}
use Rattle.types_resolve.specs.occurrences.InFile.{file_positions}
use Rattle.types_resolve.specs.occurrences.InText.{in_texpr}
use Rattle.types_resolve.specs.scope.First.{KeepsBefore}
use Rattle.types_wellformed.specs.declared.declarations.named_declarations.Named.{Named}
use Rattle.types_wellformed.specs.declared.declarations.named_declarations.NamedType.{NamedType}

-- The text is a file that breaks no rule on names. `named` contains the lexemes, marks and
-- declarations of the text.
pub record IsNamed (text : List ℕ) (named : Named) : Type 0 where
  pub tree : FileTree
  pub lexed : Lexes text named.lexemes.items
  pub reads : IsText file_kinds file_ends (kinds_of named.lexemes.items) tree
  pub marked : named.marks.items ≡ marks 0 false (kinds_of named.lexemes.items)
  pub declared : named.decls ≡ declarations_of tree
  pub keeps : KeepsBefore (BreaksInFile (file_positions tree)) 7

-- The text is a type that breaks no rule on names over the declarations `decls`. `named` contains
-- the lexemes, marks and type of the text.
pub record IsNamedType (decls : List Decl) (text : List ℕ) (named : NamedType) : Type 0 where
  pub tree : Texpr
  pub lexed : Lexes text named.lexemes.items
  pub reads : IsText texpr texpr_ends (kinds_of named.lexemes.items) tree
  pub marked : named.marks.items ≡ marks 0 false (kinds_of named.lexemes.items)
  pub stands : named.ty ≡ type_of_texpr tree
  pub keeps : KeepsBefore (BreaksInType decls (in_texpr 0 false tree)) 7

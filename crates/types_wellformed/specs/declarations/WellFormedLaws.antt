-- If a text breaks no scope rule, then its declarations or its type are well-formed.
use Rattle.std.specs.Prelude.{List, false}
use Rattle.types_parse.specs.grammar.Depths.{file_ends}
use Rattle.types_parse.specs.grammar.Grammar.{Kinds, Texpr, FileTree, file_kinds}
use Rattle.types_parse.specs.grammar.Refusals.{IsText}
use Rattle.types_spec.specs.declared.types.decl.Decl.{Decl}
use Rattle.types_spec.specs.types.WellFormed.{AreSound, AreWellFormed, IsSoundType}
use Rattle.types_spec.specs.types.Scope.{BreaksInFile, BreaksInType, KeepsAll}
use Rattle.types_resolve.specs.scope.First.{KeepsBefore}
use Rattle.types_parse.specs.parse.WrittenTrees.{type_of_texpr, declarations_of}
use Rattle.types_resolve.specs.occurrences.InFile.{file_positions}
use Rattle.types_resolve.specs.occurrences.InText.{in_texpr}

abbrev pub FilesAreWellFormed : Type 0
FilesAreWellFormed =
    (lexemes : Kinds) (tree : FileTree) → IsText file_kinds file_ends lexemes tree
    → KeepsAll (BreaksInFile (file_positions tree))
    → AreWellFormed (declarations_of tree)

-- If a text breaks none of the first seven rules, which are the rules on names, then the text's
-- declarations are sound.
abbrev pub NamesMakeSound : Type 0
NamesMakeSound =
    (lexemes : Kinds) (tree : FileTree) → IsText file_kinds file_ends lexemes tree
    → KeepsBefore (BreaksInFile (file_positions tree)) 7
    → AreSound (declarations_of tree)

-- If the text of a type breaks no scope rule over well-formed declarations, then the type is sound.
abbrev pub TypesAreSound : Type 0
TypesAreSound =
    (decls : List Decl) (tree : Texpr) → AreWellFormed decls
    → KeepsAll (BreaksInType decls (in_texpr 0 false tree))
    → IsSoundType decls (type_of_texpr tree)

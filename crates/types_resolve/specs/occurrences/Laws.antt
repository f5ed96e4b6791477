-- Two definitions of occurrences agree: occurrences by the index of a mark, and occurrences by the
-- tree of the grammar.
use Rattle.std.specs.Prelude.{ℕ, ◌≡◌, Bool, false}
use Rattle.types_parse.specs.grammar.Grammar.{Texpr, texpr, FileTree, file_kinds}
use Rattle.types_spec.specs.types.Scope.{decls_of}
use Rattle.types_parse.specs.parse.WrittenTrees.{type_of_texpr, declarations_of}
use Rattle.types_resolve.specs.occurrences.InText.{in_texpr}
use Rattle.types_resolve.specs.occurrences.InFile.{file_positions}
use Rattle.types_resolve.specs.occurrences.CountedFile.{counted_file}
use Rattle.types_resolve.specs.occurrences.Counted.{marks, in_type}

-- The occurrences in a type by the tree of the type are the occurrences in the type's text.
abbrev pub TypesAreCounted : Type 0
TypesAreCounted =
    (k : ℕ) (in_tag : Bool) (t : Texpr)
    → in_type (marks k false (texpr t)) in_tag (type_of_texpr t) ≡ in_texpr k in_tag t

-- The occurrences in declarations by the declarations themselves are the occurrences in the
-- declarations' text. The declarations of the located occurrences are the declarations of the text.
pub record FilesAreCounted : Type 0 where
  pub declared : (tree : FileTree) → decls_of (file_positions tree) ≡ declarations_of tree
  pub counted :
      (tree : FileTree)
      → counted_file (marks 0 false (file_kinds tree)) (declarations_of tree) ≡ file_positions tree

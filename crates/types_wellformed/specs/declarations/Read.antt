-- The declarations and types that texts denote.
use Rattle.std.specs.Prelude.{ℕ, ◌≡◌, List}
use Rattle.types_spec.specs.types.Ty.{Ty}
use Rattle.types_spec.specs.declared.types.decl.Decl.{Decl}
use Rattle.types_parse.specs.grammar.Grammar.{FileTree, Texpr}
use Rattle.types_parse.specs.parse.WrittenTrees.{declarations_of, type_of_texpr}
use Rattle.types_wellformed.specs.declarations.DeclarationAnswer.{accepted, IsFileAnswer}
use Rattle.types_wellformed.specs.declarations.DeclarationAnswer.{IsTypeAnswer}

-- The text is accepted as a tree whose declarations are `decls`.
pub record IsDeclared (text : List ℕ) (decls : List Decl) : Type 0 where
  pub tree : FileTree
  pub answer : IsFileAnswer text (accepted tree)
  pub stand : decls ≡ declarations_of tree

-- The text is accepted, over the declarations `decls`, as a tree whose type is `t`.
pub record IsTypeOf (decls : List Decl) (text : List ℕ) (t : Ty) : Type 0 where
  pub tree : Texpr
  pub answer : IsTypeAnswer decls text (accepted tree)
  pub stands : t ≡ type_of_texpr tree

-- The occurrences in the text of a type, by the tree of the grammar: names, variables and brackets,
-- each with the index of its lexeme.
use Rattle.std.specs.Prelude.{ℕ, ◌+◌, Bool, true, List, [], ◌∷◌, ◌++◌, length}
use Rattle.types_parse.specs.grammar.Grammar.{Texpr, App, Simple, Texprs, Items, ItemTree, texpr}
use Rattle.types_parse.specs.grammar.Grammar.{app}
use Rattle.types_parse.specs.grammar.Grammar.{texprs}
use Rattle.types_parse.specs.grammar.Grammar.{items, bar_if}
use Rattle.types_parse.specs.grammar.Grammar as trees
use Rattle.types_spec.specs.types.Ty.{bracket}
use Rattle.types_spec.specs.types.Occurrence.{Occurrence, PlacedItem, use_of, variable_at}
use Rattle.types_spec.specs.types.Occurrence.{bracket_of}
use Rattle.types_parse.specs.parse.WrittenTrees.{type_of_texpr, type_of_app, with_item}
use Rattle.types_parse.specs.parse.TypeShown.{types_of_texprs}

-- The items of a bracket, each with its first lexeme. The first item begins with lexeme `k`.
abbrev pub placed_items : ℕ → Items → List PlacedItem
placed_items k (trees.one i) = (k, with_item bracket i) ∷ []
placed_items k (trees.more all i) =
    placed_items k all ++ (k + length (items all) + 1, with_item bracket i) ∷ []

-- The occurrences in the text of a type that begins with lexeme `k`. The occurrence of a name comes
-- before the occurrences in its arguments.
abbrev mutual
  pub in_texpr : ℕ → Bool → Texpr → List Occurrence
  in_texpr k in_tag (trees.single a) = in_app k in_tag a
  in_texpr k in_tag (trees.starred t a) =
      in_texpr k in_tag t ++ in_app (k + length (texpr t) + 1) in_tag a

  pub in_app : ℕ → Bool → App → List Occurrence
  in_app k in_tag (trees.simple s) = in_simple k in_tag s
  in_app k in_tag (trees.applied a name) =
      use_of (k + length (app a)) name (type_of_app a ∷ []) in_tag ∷ in_app k in_tag a

  pub in_simple : ℕ → Bool → Simple → List Occurrence
  in_simple k in_tag (trees.variable name) = variable_at k name ∷ []
  in_simple k in_tag (trees.named name) = use_of k name [] in_tag ∷ []
  in_simple k in_tag (trees.grouped t) = in_texpr (k + 1) in_tag t
  in_simple k in_tag (trees.arguments ts t name) =
      use_of (k + length (texprs ts) + length (texpr t) + 3) name
      (types_of_texprs ts ++ type_of_texpr t ∷ []) in_tag
      ∷ (in_texprs (k + 1) in_tag ts ++ in_texpr (k + length (texprs ts) + 2) in_tag t)
  in_simple k in_tag (trees.bracket bar all) =
      bracket_of (placed_items (k + length (bar_if bar) + 1) all)
      ∷ in_items (k + length (bar_if bar) + 1) in_tag all

  pub in_texprs : ℕ → Bool → Texprs → List Occurrence
  in_texprs k in_tag (trees.first t) = in_texpr k in_tag t
  in_texprs k in_tag (trees.further ts t) =
      in_texprs k in_tag ts ++ in_texpr (k + length (texprs ts) + 1) in_tag t

  pub in_items : ℕ → Bool → Items → List Occurrence
  in_items k in_tag (trees.one i) = in_item k in_tag i
  in_items k in_tag (trees.more all i) =
      in_items k in_tag all ++ in_item (k + length (items all) + 1) in_tag i

  pub in_item : ℕ → Bool → ItemTree → List Occurrence
  in_item k in_tag (trees.tag name) = []
  in_item k in_tag (trees.tag_of name t) = in_texpr (k + 2) true t
  in_item k in_tag (trees.included a) = in_app k in_tag a

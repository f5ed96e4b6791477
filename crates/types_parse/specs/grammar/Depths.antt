-- The depth of a type, and the depth of the types that end at each lexeme.
use Rattle.std.specs.Prelude.{ℕ, suc, max, List, [], ◌∷◌, ◌++◌, length, replicate}
use Rattle.std.specs.List.{flat_map}
use Rattle.types_lex.specs.declared.lexeme.Keyword.TheVariants as keywords
use Rattle.types_lex.specs.declared.lexeme.Symbol.TheVariants as symbols
use Rattle.types_parse.specs.grammar.Grammar.{App, ArgumentsTree, BodyTree, ConstrTree, DeclTree}
use Rattle.types_parse.specs.grammar.Grammar.{FieldTree}
use Rattle.types_parse.specs.grammar.Grammar.{FileTree, GroupTree, ItemTree, Items, Kinds}
use Rattle.types_parse.specs.grammar.Grammar.{RecordTree}
use Rattle.types_parse.specs.grammar.Grammar.{Simple}
use Rattle.types_parse.specs.grammar.Grammar.{Texpr, Texprs, applied, arguments, bar_if, bracket}
use Rattle.types_parse.specs.grammar.Grammar.{first}
use Rattle.types_parse.specs.grammar.Grammar.{further, grouped, included, inline, listed, lower}
use Rattle.types_parse.specs.grammar.Grammar.{mark}
use Rattle.types_parse.specs.grammar.Grammar.{mark_if, more, named, no_arguments, one, params_kinds}
use Rattle.types_parse.specs.grammar.Grammar.{record_body, simple, single, starred, tag, tag_of}
use Rattle.types_parse.specs.grammar.Grammar.{type_body}
use Rattle.types_parse.specs.grammar.Grammar.{variable, variant_body, word, word_if}

-- ---- depth of a type

abbrev mutual
  pub texpr_depth : Texpr → ℕ
  texpr_depth (single a) = app_depth a
  texpr_depth (starred t a) = suc (max (part_depth t) (app_depth a))

  -- The depth of the deepest component among the components read so far.
  pub part_depth : Texpr → ℕ
  part_depth (single a) = app_depth a
  part_depth (starred t a) = max (part_depth t) (app_depth a)

  pub app_depth : App → ℕ
  app_depth (simple s) = simple_depth s
  app_depth (applied a name) = suc (app_depth a)

  pub simple_depth : Simple → ℕ
  simple_depth (variable name) = 1
  simple_depth (named name) = 1
  simple_depth (grouped t) = suc (texpr_depth t)
  simple_depth (arguments ts t name) = suc (max (texprs_depth ts) (texpr_depth t))
  simple_depth (bracket bar all) = suc (items_depth all)

  pub texprs_depth : Texprs → ℕ
  texprs_depth (first t) = texpr_depth t
  texprs_depth (further ts t) = max (texprs_depth ts) (texpr_depth t)

  pub items_depth : Items → ℕ
  items_depth (one i) = item_depth i
  items_depth (more all i) = max (items_depth all) (item_depth i)

  pub item_depth : ItemTree → ℕ
  item_depth (tag name) = 0
  item_depth (tag_of name t) = texpr_depth t
  item_depth (included a) = app_depth a

-- For each lexeme, the depth of the deepest type of the tree that ends at the lexeme, or 0 if no
-- type ends at the lexeme. A prefix of an application or of a tuple counts as a type. The tuple `a
-- * b` in `a * b c` does not count, because `a * b` is a type only in another tree.

-- The list of depths for lexemes of which the last one ends a type of depth `n`.
abbrev pub at_last : ℕ → List ℕ → List ℕ
at_last n [] = []
at_last n (m ∷ []) = max m n ∷ []
at_last n (m ∷ k ∷ ms) = m ∷ at_last n (k ∷ ms)

abbrev pub no_end : List ℕ
no_end = 0 ∷ []

abbrev mutual
  pub texpr_ends : Texpr → List ℕ
  texpr_ends (single a) = app_ends a
  texpr_ends (starred t a) = at_last (texpr_depth (starred t a)) (texpr_ends t ++ no_end
      ++ app_ends a)

  pub app_ends : App → List ℕ
  app_ends (simple s) = simple_ends s
  app_ends (applied a name) = app_ends a ++ suc (app_depth a) ∷ []

  pub simple_ends : Simple → List ℕ
  simple_ends (variable name) = 1 ∷ []
  simple_ends (named name) = 1 ∷ []
  simple_ends (grouped t) = no_end ++ texpr_ends t ++ suc (texpr_depth t) ∷ []
  simple_ends (arguments ts t name) = no_end ++ texprs_ends ts ++ no_end ++ texpr_ends t ++ no_end
      ++ simple_depth (arguments ts t name) ∷ []
  simple_ends (bracket bar all) = no_end ++ replicate (length (bar_if bar)) 0 ++ items_ends all
      ++ suc (items_depth all) ∷ []

  pub texprs_ends : Texprs → List ℕ
  texprs_ends (first t) = texpr_ends t
  texprs_ends (further ts t) = texprs_ends ts ++ no_end ++ texpr_ends t

  pub items_ends : Items → List ℕ
  items_ends (one i) = item_ends i
  items_ends (more all i) = items_ends all ++ no_end ++ item_ends i

  pub item_ends : ItemTree → List ℕ
  item_ends (tag name) = no_end
  item_ends (tag_of name t) = no_end ++ no_end ++ texpr_ends t
  item_ends (included a) = app_ends a

-- ---- depths of the types that end at each lexeme

abbrev pub silent : Kinds → List ℕ
silent [] = []
silent (kind ∷ rest) = 0 ∷ silent rest

abbrev pub each_ends : {X : Type 0} → Kinds → (X → List ℕ) → List X → List ℕ
each_ends between ends all = flat_map (λ x. silent between ++ ends x) all

abbrev pub field_ends : FieldTree → List ℕ
field_ends f = silent (word_if f.mutable keywords.Mutable ++ lower f.name ++ mark symbols.Colon)
    ++ texpr_ends f.type

abbrev pub record_ends : RecordTree → List ℕ
record_ends r = silent (mark symbols.OpenBrace) ++ field_ends r.first
    ++ each_ends (mark symbols.Semicolon) field_ends r.more
    ++ silent (mark_if r.closed symbols.Semicolon) ++ silent (mark symbols.CloseBrace)

abbrev pub arguments_ends : ArgumentsTree → List ℕ
arguments_ends no_arguments = []
arguments_ends (inline r) = silent (word keywords.Of) ++ record_ends r
arguments_ends (listed a others) = silent (word keywords.Of) ++ app_ends a
    ++ each_ends (mark symbols.Star) app_ends others

abbrev pub constr_ends : ConstrTree → List ℕ
constr_ends c = 0 ∷ arguments_ends c.arguments

abbrev pub body_ends : BodyTree → List ℕ
body_ends (record_body r) = record_ends r
body_ends (variant_body bar c cs) = silent (mark_if bar symbols.Bar) ++ constr_ends c
    ++ each_ends (mark symbols.Bar) constr_ends cs
body_ends (type_body t) = texpr_ends t

abbrev pub decl_ends : DeclTree → List ℕ
decl_ends d = silent (params_kinds d.params ++ lower d.name ++ mark symbols.Equals)
    ++ body_ends d.body

abbrev pub group_ends : GroupTree → List ℕ
group_ends g = silent (word keywords.Type) ++ decl_ends g.first ++ each_ends (word keywords.And)
    decl_ends g.more ++ silent (mark_if g.ended symbols.DoubleSemicolon)

abbrev pub file_ends : FileTree → List ℕ
file_ends groups = flat_map group_ends groups

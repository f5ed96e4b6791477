-- The grammar of declarations and types, as trees of lexemes. The grammar covers a part of the
-- syntax of type definitions and type expressions in OCaml's reference manual. A tree has one case
-- for each production. A name in a tree is any list of bytes; the lexer only produces valid names.
use Rattle.std.specs.Prelude.{ℕ, Bool, true, false, List, [], ◌∷◌, ◌++◌}
use Rattle.std.specs.List.{flat_map}
use Rattle.types_lex.specs.declared.lexeme.LexemeKind.{LexemeKind}
use Rattle.types_lex.specs.declared.lexeme.LexemeKind.TheVariants as kinds
use Rattle.types_lex.specs.declared.lexeme.Keyword.{Keyword}
use Rattle.types_lex.specs.declared.lexeme.Keyword.TheVariants as keywords
use Rattle.types_lex.specs.declared.lexeme.Symbol.{Symbol}
use Rattle.types_lex.specs.declared.lexeme.Symbol.TheVariants as symbols

abbrev pub Name : Type 0
Name = List ℕ

-- ---- types

mutual
  -- app { "*" app }
  pub data Texpr : Type 0 where
    single : App → Texpr
    starred : Texpr → App → Texpr

  -- simple { LIDENT }
  pub data App : Type 0 where
    simple : Simple → App
    applied : App → Name → App

  pub data Simple : Type 0 where
    variable : Name → Simple
    named : Name → Simple
    grouped : Texpr → Simple
    -- Two or more arguments in parentheses, and the name of the type constructor.
    arguments : Texprs → Texpr → Name → Simple
    -- The items in brackets, with a leading bar if the first argument is true.
    bracket : Bool → Items → Simple

  -- texpr { "," texpr }
  pub data Texprs : Type 0 where
    first : Texpr → Texprs
    further : Texprs → Texpr → Texprs

  -- item { "|" item }
  pub data Items : Type 0 where
    one : ItemTree → Items
    more : Items → ItemTree → Items

  pub data ItemTree : Type 0 where
    tag : Name → ItemTree
    tag_of : Name → Texpr → ItemTree
    included : App → ItemTree

-- ---- the lexemes of a tree

abbrev pub Kinds : Type 0
Kinds = List LexemeKind

abbrev pub mark : Symbol → Kinds
mark symbol = kinds.Symbol symbol ∷ []

abbrev pub lower : Name → Kinds
lower name = kinds.Lower name ∷ []

abbrev pub bar_if : Bool → Kinds
bar_if true = mark symbols.Bar
bar_if false = []

abbrev mutual
  pub texpr : Texpr → Kinds
  texpr (single a) = app a
  texpr (starred t a) = texpr t ++ mark symbols.Star ++ app a

  pub app : App → Kinds
  app (simple s) = simple_kinds s
  app (applied a name) = app a ++ lower name

  pub simple_kinds : Simple → Kinds
  simple_kinds (variable name) = kinds.Variable name ∷ []
  simple_kinds (named name) = lower name
  simple_kinds (grouped t) = mark symbols.OpenParen ++ texpr t ++ mark symbols.CloseParen
  simple_kinds (arguments ts t name) = mark symbols.OpenParen ++ texprs ts ++ mark symbols.Comma
      ++ texpr t ++ mark symbols.CloseParen ++ lower name
  simple_kinds (bracket bar all) = mark symbols.OpenBracket ++ bar_if bar ++ items all
      ++ mark symbols.CloseBracket

  pub texprs : Texprs → Kinds
  texprs (first t) = texpr t
  texprs (further ts t) = texprs ts ++ mark symbols.Comma ++ texpr t

  pub items : Items → Kinds
  items (one i) = item i
  items (more all i) = items all ++ mark symbols.Bar ++ item i

  pub item : ItemTree → Kinds
  item (tag name) = kinds.Tag name ∷ []
  item (tag_of name t) = kinds.Tag name ∷ kinds.Keyword keywords.Of ∷ texpr t
  item (included a) = app a

-- ---- declarations

-- The parameters of a declaration: nothing, a VAR, or names in parentheses, separated by commas.
pub data Params : Type 0 where
  no_params : Params
  param : Name → Params
  params : Name → List Name → Params

pub record FieldTree : Type 0 where
  pub mutable : Bool
  pub name : Name
  pub type : Texpr

-- The fields of a record. `closed` is true if a semicolon follows the last field.
pub record RecordTree : Type 0 where
  pub first : FieldTree
  pub more : List FieldTree
  pub closed : Bool

pub data ArgumentsTree : Type 0 where
  no_arguments : ArgumentsTree
  inline : RecordTree → ArgumentsTree
  listed : App → List App → ArgumentsTree

pub record ConstrTree : Type 0 where
  pub name : Name
  pub arguments : ArgumentsTree

pub data BodyTree : Type 0 where
  record_body : RecordTree → BodyTree
  variant_body : Bool → ConstrTree → List ConstrTree → BodyTree
  type_body : Texpr → BodyTree

pub record DeclTree : Type 0 where
  pub params : Params
  pub name : Name
  pub body : BodyTree

-- A group of declarations. `ended` is true if `;;` follows the group.
pub record GroupTree : Type 0 where
  pub first : DeclTree
  pub more : List DeclTree
  pub ended : Bool

abbrev pub FileTree : Type 0
FileTree = List GroupTree

abbrev pub word : Keyword → Kinds
word keyword = kinds.Keyword keyword ∷ []

abbrev pub mark_if : Bool → Symbol → Kinds
mark_if true symbol = mark symbol
mark_if false symbol = []

abbrev pub word_if : Bool → Keyword → Kinds
word_if true keyword = word keyword
word_if false keyword = []

abbrev pub variable_kind : Name → Kinds
variable_kind name = kinds.Variable name ∷ []

-- The lexemes of the elements of `all`, where the lexemes `before` precede each element.
abbrev pub each_after : {X : Type 0} → Kinds → (X → Kinds) → List X → Kinds
each_after before encoded all = flat_map (λ x. before ++ encoded x) all

abbrev pub params_kinds : Params → Kinds
params_kinds no_params = []
params_kinds (param name) = variable_kind name
params_kinds (params name names) = mark symbols.OpenParen ++ variable_kind name
    ++ each_after (mark symbols.Comma) variable_kind names ++ mark symbols.CloseParen

abbrev pub field_kinds : FieldTree → Kinds
field_kinds f = word_if f.mutable keywords.Mutable ++ lower f.name ++ mark symbols.Colon
    ++ texpr f.type

abbrev pub record_kinds : RecordTree → Kinds
record_kinds r = mark symbols.OpenBrace ++ field_kinds r.first
    ++ each_after (mark symbols.Semicolon) field_kinds r.more ++ mark_if r.closed symbols.Semicolon
    ++ mark symbols.CloseBrace

abbrev pub arguments_kinds : ArgumentsTree → Kinds
arguments_kinds no_arguments = []
arguments_kinds (inline r) = word keywords.Of ++ record_kinds r
arguments_kinds (listed a others) = word keywords.Of ++ app a ++ each_after (mark symbols.Star) app
    others

abbrev pub constr_kinds : ConstrTree → Kinds
constr_kinds c = kinds.Upper c.name ∷ arguments_kinds c.arguments

abbrev pub body_kinds : BodyTree → Kinds
body_kinds (record_body r) = record_kinds r
body_kinds (variant_body bar c cs) = mark_if bar symbols.Bar ++ constr_kinds c
    ++ each_after (mark symbols.Bar) constr_kinds cs
body_kinds (type_body t) = texpr t

abbrev pub decl_kinds : DeclTree → Kinds
decl_kinds d = params_kinds d.params ++ lower d.name ++ mark symbols.Equals ++ body_kinds d.body

abbrev pub group_kinds : GroupTree → Kinds
group_kinds g = word keywords.Type ++ decl_kinds g.first ++ each_after (word keywords.And)
    decl_kinds g.more ++ mark_if g.ended symbols.DoubleSemicolon

abbrev pub file_kinds : FileTree → Kinds
file_kinds groups = flat_map group_kinds groups

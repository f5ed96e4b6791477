-- The types and declarations that the trees of the grammar mean. Parentheses and leading bars have
-- no meaning.
use Rattle.std.specs.Prelude.{ℕ, List, [], ◌∷◌, ◌++◌, length, map}
use Rattle.types_parse.specs.grammar.Grammar.{
  Name,
  Texpr,
  App,
  Simple,
  Texprs,
  Items,
  ItemTree,
  Params,
  no_params,
  param,
  params,
  FieldTree,
  RecordTree,
  ArgumentsTree,
  ConstrTree,
  BodyTree,
  record_body,
  variant_body,
  type_body,
  DeclTree,
  GroupTree,
  FileTree,
}
use Rattle.types_parse.specs.grammar.Grammar as trees
use Rattle.types_spec.specs.types.Ty.{
  Ty,
  variable,
  named,
  tuple,
  bracket,
  part,
  tag,
  tag_of,
  including,
}
use Rattle.types_spec.specs.declared.types.decl.Field.{Field}
use Rattle.types_spec.specs.declared.types.decl.Arguments.{Arguments}
use Rattle.types_spec.specs.declared.types.decl.Arguments.TheVariants as arguments
use Rattle.types_spec.specs.declared.types.decl.Constructor.{Constructor}
use Rattle.types_spec.specs.declared.types.decl.Body.{Body}
use Rattle.types_spec.specs.declared.types.decl.Body.TheVariants as bodies
use Rattle.types_spec.specs.declared.types.decl.Decl.{Decl}

-- ---- types

abbrev mutual
  pub type_of_texpr : Texpr → Ty
  type_of_texpr (trees.single a) = type_of_app a
  type_of_texpr (trees.starred t a) = part (tuple_of t) (type_of_app a)

  -- The tuple of the components read so far.
  pub tuple_of : Texpr → Ty
  tuple_of (trees.single a) = part tuple (type_of_app a)
  tuple_of (trees.starred t a) = part (tuple_of t) (type_of_app a)

  pub type_of_app : App → Ty
  type_of_app (trees.simple s) = type_of_simple s
  type_of_app (trees.applied a name) = part (named name) (type_of_app a)

  pub type_of_simple : Simple → Ty
  type_of_simple (trees.variable name) = variable name
  type_of_simple (trees.named name) = named name
  type_of_simple (trees.grouped t) = type_of_texpr t
  type_of_simple (trees.arguments ts t name) = part (applied_to name ts) (type_of_texpr t)
  type_of_simple (trees.bracket bar all) = type_of_items all

  -- The type name applied to its first arguments.
  pub applied_to : Name → Texprs → Ty
  applied_to name (trees.first t) = part (named name) (type_of_texpr t)
  applied_to name (trees.further ts t) = part (applied_to name ts) (type_of_texpr t)

  pub type_of_items : Items → Ty
  type_of_items (trees.one i) = with_item bracket i
  type_of_items (trees.more all i) = with_item (type_of_items all) i

  pub with_item : Ty → ItemTree → Ty
  with_item whole (trees.tag name) = tag whole name
  with_item whole (trees.tag_of name t) = tag_of whole name (type_of_texpr t)
  with_item whole (trees.included a) = including whole (type_of_app a)

-- ---- declarations

abbrev pub parameters_of : Params → List Name
parameters_of no_params = []
parameters_of (param name) = name ∷ []
parameters_of (params name names) = name ∷ names

abbrev pub field_of_tree : FieldTree → Field
field_of_tree f = record { name = f.name; mutable = f.mutable; ty = type_of_texpr f.type }

abbrev pub fields_of_tree : RecordTree → List Field
fields_of_tree r = map field_of_tree (r.first ∷ r.more)

abbrev pub arguments_of_tree : ArgumentsTree → Arguments
arguments_of_tree trees.no_arguments = arguments.Constant
arguments_of_tree (trees.inline r) = arguments.Inline (fields_of_tree r)
arguments_of_tree (trees.listed a others) = arguments.Listed (map type_of_app (a ∷ others))

abbrev pub constructor_of_tree : ConstrTree → Constructor
constructor_of_tree c = record { name = c.name; arguments = arguments_of_tree c.arguments }

abbrev pub body_of_tree : BodyTree → Body
body_of_tree (record_body r) = bodies.Record (fields_of_tree r)
body_of_tree (variant_body bar c cs) = bodies.Variant (map constructor_of_tree (c ∷ cs))
body_of_tree (type_body t) = bodies.Abbreviation (type_of_texpr t)

abbrev pub declaration_of_tree : ℕ → DeclTree → Decl
declaration_of_tree group d =
    record {
      name = d.name;
      parameters = parameters_of d.params;
      body = body_of_tree d.body;
      group = group;
    }

-- A group's number is the number of declarations before it.
abbrev pub with_group : List Decl → GroupTree → List Decl
with_group before g = before ++ map (declaration_of_tree (length before)) (g.first ∷ g.more)

abbrev pub declarations_after : List Decl → FileTree → List Decl
declarations_after before [] = before
declarations_after before (g ∷ groups) = declarations_after (with_group before g) groups

abbrev pub declarations_of : FileTree → List Decl
declarations_of groups = declarations_after [] groups

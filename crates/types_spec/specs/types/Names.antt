-- The constructor, field and tag names of a type, in the order of the declaration.
use Rattle.std.specs.Prelude.{ℕ, List, [], map, Option, Some, None, if◌then◌else◌}
use Rattle.std.specs.List.{filter_map}
use Rattle.types_spec.specs.tag_hash.TagHash.{tag_hash}
use Rattle.types_spec.specs.declared.types.decl.Predeclared.{Predeclared}
use Rattle.types_spec.specs.declared.types.decl.Predeclared.TheVariants as bases
use Rattle.types_spec.specs.declared.types.decl.Field.{Field}
use Rattle.types_spec.specs.declared.types.decl.Arguments.{Arguments}
use Rattle.types_spec.specs.declared.types.decl.Arguments.TheVariants as arguments
use Rattle.types_spec.specs.declared.types.decl.Constructor.{Constructor}
use Rattle.types_spec.specs.declared.types.decl.Body.{Body}
use Rattle.types_spec.specs.declared.types.decl.Body.TheVariants as bodies
use Rattle.types_spec.specs.declared.types.decl.Decl.{Decl}
use Rattle.types_spec.specs.declared.types.head.TagOf.{TagOf}
use Rattle.types_spec.specs.declared.types.head.HeadOf.{HeadOf}
use Rattle.types_spec.specs.declared.types.head.HeadOf.TheVariants as heads
use Rattle.types_spec.specs.declared.types.names.ConstrNames.{ConstrNames}
use Rattle.types_spec.specs.declared.types.names.TagName.{TagName}
use Rattle.types_spec.specs.declared.types.names.Names.{Names}
use Rattle.types_spec.specs.types.Predeclared.{Sum, SumBlock, sum_at}
use Rattle.types_spec.specs.types.Ty.{Ty}
use Rattle.types_spec.specs.types.Declarations.{declaration_of}
use Rattle.types_spec.specs.types.Shape.{is_constant}
use Rattle.types_spec.specs.types.Head.{head}

-- ---- the parts

abbrev pub no_names : Names
no_names = record { constants = []; constructors = []; fields = []; tags = [] }

abbrev pub field_names : List Field → List (List ℕ)
field_names fields = map (λ (field : Field). field.name) fields

-- The name of a constant constructor, or `None` if the constructor has arguments.
abbrev pub constant_name : Constructor → Option (List ℕ)
constant_name constructor =
    if is_constant constructor.arguments then Some constructor.name else None

-- The name of a constructor with arguments, and the field names of the constructor's inline record.
-- The result for a constant constructor is `None`.
abbrev pub carrying_names : List ℕ → Arguments → Option ConstrNames
carrying_names name arguments.Constant = None
carrying_names name (arguments.Listed types) = Some (record { name = name; fields = [] })
carrying_names name (arguments.Inline fields) =
    Some (record { name = name; fields = field_names fields })

abbrev pub constr_names : Constructor → Option ConstrNames
constr_names constructor = carrying_names constructor.name constructor.arguments

abbrev pub tag_name : TagOf Ty → TagName
tag_name tag = record { name = tag.name; hash = tag_hash tag.name }

-- ---- types

abbrev pub body_names : Body → Names
body_names (bodies.Abbreviation t) = no_names
body_names (bodies.Record fields) = record no_names { fields = field_names fields }
body_names (bodies.Variant constructors) = record no_names {
  constants = filter_map constant_name constructors;
  constructors = filter_map constr_names constructors;
}

abbrev pub declared_body_names : Option Decl → Names
declared_body_names None = no_names
declared_body_names (Some decl) = body_names decl.body

-- The names of a constructor with arguments and without an inline record.
abbrev pub plain_constr : List ℕ → ConstrNames
plain_constr name = record { name = name; fields = [] }

-- The names of the variant in a row of the table.
abbrev pub sum_names : Option Sum → Names
sum_names None = no_names
sum_names (Some known) = record no_names {
  constants = known.constants;
  constructors = map (λ (block : SumBlock). plain_constr block.name) known.blocks;
}

-- The names of a predeclared type. A predeclared variant has the names of its constructors, as a
-- declared variant has. Other predeclared types have no names.
abbrev pub predeclared_type_names : Predeclared → Names
predeclared_type_names (bases.Sum k) = sum_names (sum_at k)
predeclared_type_names base = no_names

abbrev pub head_names : List Decl → HeadOf Ty → Names
head_names decls (heads.Predeclared base ts) = predeclared_type_names base
head_names decls (heads.Datatype name ts) = declared_body_names (declaration_of decls name)
head_names decls (heads.Variants tags) = record no_names { tags = map tag_name tags }
head_names decls other = no_names

-- The names of constructors, fields and tags that the head of the type `t` declares.
abbrev pub names_of : List Decl → Ty → Names
names_of decls t = head_names decls (head decls t)

-- The state of the table of declarations that the data of the code represent.
use Rattle.std.specs.Prelude.{◌≡◌, List, [], ◌∷◌, ◌++◌, length, map, ⊤}
use Rattle.types_parse.specs.grammar.Grammar.{FieldTree}
use Rattle.types_parse.specs.grammar.Holes.{outside}
use Rattle.types_parse.specs.grammar.File.{
  Before,
  nothing,
  so_far,
  GroupHole,
  BodyHole,
  ConstrHole,
  RecordHole,
  body_record,
  inline_record,
  TypeOutside,
  body_type,
  field_type,
  PartOutside,
  listed_part,
  Outside,
  file_due,
  decl_due,
  param_due,
  param_read,
  params_read,
  name_read,
  body_due,
  constr_due,
  upper_read,
  of_read,
  field_due,
  mutable_read,
  field_named,
  record_read,
  FileState,
}
use Rattle.types_spec.specs.types.TypeNodes.{AreOrdered}
use Rattle.types_spec.specs.declared.types.ty.TypeTreeNode.{TypeTreeNode}
use Rattle.types_parse.specs.parse.WrittenTrees.{type_of_app, parameters_of, field_of_tree}
use Rattle.types_parse.specs.parse.WrittenTrees.{fields_of_tree}
use Rattle.types_parse.specs.parse.WrittenTrees.{constructor_of_tree, declaration_of_tree}
use Rattle.types_parse.specs.parse.WrittenTrees.{declarations_of}
use Rattle.types_parse.specs.declared.parse.open.OpenConstruct.{OpenConstruct}
use Rattle.types_parse.specs.declared.parse.open.ParsePhase.{ParsePhase}
use Rattle.types_parse.specs.declared.parse.open.TypeStep.{TypeStep}
use Rattle.types_parse.specs.declared.parse.open.TypeStep.TheVariants as steps
use Rattle.types_parse.specs.declared.parse.declarations_so_far.Group.{Group}
use Rattle.types_parse.specs.declared.parse.declarations_so_far.Declared.{Declared}
use Rattle.types_parse.specs.declared.parse.declarations_so_far.Constructors.{Constructors}
use Rattle.types_parse.specs.declared.parse.declarations_so_far.RecordOf.{RecordOf}
use Rattle.types_parse.specs.declared.parse.declarations_so_far.RecordOf.TheVariants as positions
use Rattle.types_parse.specs.declared.parse.declarations_so_far.Fields.{Fields}
use Rattle.types_parse.specs.declared.parse.declarations_so_far.Around.{Around}
use Rattle.types_parse.specs.declared.parse.declarations_so_far.Around.TheVariants as arounds
use Rattle.types_parse.specs.declared.parse.declarations_so_far.FilePhase.{FilePhase}
use Rattle.types_parse.specs.declared.parse.declarations_so_far.FilePhase.TheVariants as files
use Rattle.types_parse.specs.parse.TypeShown.{Bottom, at_type, at_part, type_shown}

-- The items of a list with separators that were read so far.
abbrev pub row_list : {X : Type 0} → Before X → List X
row_list nothing = []
row_list (so_far x more) = x ∷ more

abbrev pub group_of : GroupHole → Group
group_of g =
    record {
      decls = declarations_of g.groups ++ map
          (declaration_of_tree (length (declarations_of g.groups))) (row_list g.decls);
      group = length (declarations_of g.groups);
    }

abbrev pub declared_of : BodyHole → Declared
declared_of b = record {
  group = group_of b.group;
  parameters = parameters_of b.params;
  name =
      b.name;
}

abbrev pub constructors_of : ConstrHole → Constructors
constructors_of c = record {
  declared = declared_of c.body;
  constructors =
      map constructor_of_tree (row_list c.before);
}

abbrev pub record_of : RecordHole → RecordOf
record_of (body_record b) = positions.Body (declared_of b)
record_of (inline_record c x) = positions.Inline (constructors_of c) x

abbrev pub fields_of : RecordHole → Before FieldTree → Fields
fields_of r b = record { position = record_of r; fields = map field_of_tree (row_list b) }

abbrev pub around_of : Bottom TypeOutside PartOutside → Around
around_of (at_type (body_type b)) = arounds.Body (declared_of b)
around_of (at_type (field_type r b mutable x)) = arounds.Field (fields_of r b) mutable x
around_of (at_part (listed_part c x b)) = arounds.Argument (constructors_of c) x
    (map type_of_app (row_list b))

abbrev pub phase_of : Outside → FilePhase
phase_of (file_due gs) = files.FileDue (declarations_of gs)
phase_of (decl_due g) = files.DeclDue (group_of g)
phase_of (param_due g b) = files.ParamDue (group_of g) (row_list b)
phase_of (param_read g b x) = files.ParamRead (group_of g) (row_list b ++ x ∷ [])
phase_of (params_read g ps) = files.ParamsRead (group_of g) (parameters_of ps)
phase_of (name_read g ps x) = files.NameRead
    (record { group = group_of g; parameters = parameters_of ps; name = x })
phase_of (body_due b) = files.BodyDue (declared_of b)
phase_of (constr_due c) = files.ConstrDue (constructors_of c)
phase_of (upper_read c x) = files.UpperRead (constructors_of c) x
phase_of (of_read c x) = files.OfRead (constructors_of c) x
phase_of (field_due r b) = files.FieldDue (fields_of r b)
phase_of (mutable_read r b) = files.MutableRead (fields_of r b)
phase_of (field_named r b mutable x) = files.FieldNamed (fields_of r b) mutable x
phase_of (record_read r t) = files.RecordRead
    (record { position = record_of r; fields = fields_of_tree t })

-- The nodes, the frames and the phase represent the state `s`, in which a type is being read.
pub record IsInType (ns : List TypeTreeNode) (fs : List OpenConstruct) (phase : FilePhase)
    (s : FileState) : Type 0
  where
    pub bottom : Bottom TypeOutside PartOutside
    pub around : Around
    pub inner : ParsePhase
    pub phase_is : phase ≡ files.InType around inner
    pub around_is : around ≡ around_of bottom
    pub shown : type_shown bottom ns fs inner s
    pub ordered : AreOrdered ns

abbrev pub file_shown : List TypeTreeNode → List OpenConstruct → FilePhase → FileState → Type 0
file_shown ns fs phase (outside q) = (ns ≡ []) × (fs ≡ []) × (phase ≡ phase_of q)
file_shown ns fs phase s = IsInType ns fs phase s

-- The nodes, the frames and the phase represent some state of the table.
abbrev pub IsReadable : List TypeTreeNode → List OpenConstruct → FilePhase → Type 0
IsReadable ns fs phase = (s : FileState) × file_shown ns fs phase s

-- If the step ended a type, then the nodes of the type are ordered.
abbrev pub IfEnded : TypeStep → List TypeTreeNode → Type 0
IfEnded steps.Ended ns = AreOrdered ns
IfEnded step ns = ⊤

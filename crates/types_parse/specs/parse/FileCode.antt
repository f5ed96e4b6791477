-- The parsing table of declarations on the data of the code: what the code does at a lexeme.
use Rattle.std.specs.Prelude.{ℕ, ◌≡◌, Bool, true, false, Option, Some, None, Result, Ok, Err, List}
use Rattle.std.specs.Prelude.{[], ◌∷◌, ◌++◌, length, ⊤}
use Rattle.types_lex.specs.declared.lexeme.LexemeKind.{LexemeKind}
use Rattle.types_lex.specs.declared.lexeme.LexemeKind.TheVariants as kinds
use Rattle.types_lex.specs.declared.lexeme.Keyword.TheVariants as keywords
use Rattle.types_lex.specs.declared.lexeme.Symbol.TheVariants as symbols
use Rattle.types_spec.specs.types.Ty.{Ty}
use Rattle.types_spec.specs.types.TypeNodes.{type_of}
use Rattle.types_spec.specs.declared.types.ty.TypeTreeNode.{TypeTreeNode}
use Rattle.types_spec.specs.declared.types.decl.Field.{Field}
use Rattle.types_spec.specs.declared.types.decl.Arguments.{Arguments}
use Rattle.types_spec.specs.declared.types.decl.Arguments.TheVariants as arguments
use Rattle.types_spec.specs.declared.types.decl.Constructor.{Constructor}
use Rattle.types_spec.specs.declared.types.decl.Body.{Body}
use Rattle.types_spec.specs.declared.types.decl.Body.TheVariants as bodies
use Rattle.types_spec.specs.declared.types.decl.Decl.{Decl}
use Rattle.types_parse.specs.declared.parse.open.OpenConstruct.{OpenConstruct}
use Rattle.types_parse.specs.declared.parse.open.ParsePhase.TheVariants as phases
use Rattle.types_parse.specs.declared.parse.open.TypeStep.{TypeStep}
use Rattle.types_parse.specs.declared.parse.open.TypeStep.TheVariants as steps
use Rattle.types_parse.specs.declared.parse.declarations_so_far.Group.{Group}
use Rattle.types_parse.specs.declared.parse.declarations_so_far.Declared.{Declared}
use Rattle.types_parse.specs.declared.parse.declarations_so_far.Constructors.{Constructors}
use Rattle.types_parse.specs.declared.parse.declarations_so_far.RecordOf.{RecordOf}
use Rattle.types_parse.specs.declared.parse.declarations_so_far.RecordOf.TheVariants as positions
use Rattle.types_parse.specs.declared.parse.declarations_so_far.Fields.{Fields}
use Rattle.types_parse.specs.declared.parse.declarations_so_far.Around.{Around}
use Rattle.types_parse.specs.declared.parse.declarations_so_far.Around.TheVariants as arounds
use Rattle.types_parse.specs.declared.parse.declarations_so_far.FilePhase.{FilePhase}
use Rattle.types_parse.specs.declared.parse.declarations_so_far.FilePhase.TheVariants as files
use Rattle.types_parse.specs.parse.TypeCode.{StepCode, goes, ended, stops, begin_code, step_code}
use Rattle.types_parse.specs.parse.TypeCode.{depth_code}
use Rattle.types_parse.specs.parse.TypeCode.{whole_code}

pub data FileStep : Type 0 where
  file_goes : (nodes : List TypeTreeNode) (frames : List OpenConstruct) (phase : FilePhase)
      → FileStep
  file_stops : FileStep

abbrev pub outside_of : List TypeTreeNode → List OpenConstruct → Option FilePhase → FileStep
outside_of ns fs (Some phase) = file_goes ns fs phase
outside_of ns fs None = file_stops

-- ---- results

abbrev pub group_code : List Decl → Group
group_code decls = record { decls = decls; group = length decls }

abbrev pub more_decls : Group → Decl → List Decl
more_decls g d = g.decls ++ d ∷ []

abbrev pub decl_code : Declared → Body → Decl
decl_code b body = record {
  name = b.name;
  parameters = b.parameters;
  body = body;
  group =
      b.group.group;
}

abbrev pub declared_code : Group → List (List ℕ) → List ℕ → Declared
declared_code g ps x = record { group = g; parameters = ps; name = x }

abbrev pub constructors_code : Declared → List Constructor → Constructors
constructors_code b all = record { declared = b; constructors = all }

abbrev pub constr_code : List ℕ → Arguments → Constructor
constr_code x all = record { name = x; arguments = all }

abbrev pub fields_code : RecordOf → List Field → Fields
fields_code r all = record { position = r; fields = all }

abbrev pub field_code : Bool → List ℕ → Ty → Field
field_code mutable x t = record { name = x; mutable = mutable; ty = t }

-- ---- after a declaration and its parts

abbrev pub after_decl_code : Group → Decl → LexemeKind → Option FilePhase
after_decl_code g d (kinds.Keyword keywords.And) =
    Some (files.DeclDue (record { decls = more_decls g d; group = g.group }))
after_decl_code g d (kinds.Keyword keywords.Type) =
    Some (files.DeclDue (group_code (more_decls g d)))
after_decl_code g d (kinds.Symbol symbols.DoubleSemicolon) = Some (files.FileDue (more_decls g d))
after_decl_code g d kind = None

abbrev pub after_constr_code : Constructors → Constructor → LexemeKind → Option FilePhase
after_constr_code c k (kinds.Symbol symbols.Bar) =
    Some (files.ConstrDue (constructors_code c.declared (c.constructors ++ k ∷ [])))
after_constr_code c k kind = after_decl_code c.declared.group
    (decl_code c.declared (bodies.Variant (c.constructors ++ k ∷ []))) kind

abbrev pub after_record_code : RecordOf → List Field → LexemeKind → Option FilePhase
after_record_code (positions.Body b) all kind = after_decl_code b.group
    (decl_code b (bodies.Record all)) kind
after_record_code (positions.Inline c x) all kind =
    after_constr_code c (constr_code x (arguments.Inline all)) kind

abbrev pub after_field_code : Fields → Field → LexemeKind → Option FilePhase
after_field_code f field (kinds.Symbol symbols.Semicolon) =
    Some (files.FieldDue (fields_code f.position (f.fields ++ field ∷ [])))
after_field_code f field (kinds.Symbol symbols.CloseBrace) =
    Some (files.RecordRead (fields_code f.position (f.fields ++ field ∷ [])))
after_field_code f field kind = None

abbrev pub listed_code : Constructors → List ℕ → List Ty → LexemeKind → Option FilePhase
listed_code c x all (kinds.Symbol symbols.Star) =
    Some (files.InType (arounds.Argument c x all) phases.Due)
listed_code c x all kind = after_constr_code c (constr_code x (arguments.Listed all)) kind

-- The phase after a complete type in its context and one lexeme, or `None` on a syntax error.
abbrev pub after_type_code : Around → Ty → LexemeKind → Option FilePhase
after_type_code (arounds.Body b) t kind = after_decl_code b.group
    (decl_code b (bodies.Abbreviation t)) kind
after_type_code (arounds.Field f mutable x) t kind = after_field_code f (field_code mutable x t)
    kind
after_type_code (arounds.Argument c x all) t kind = listed_code c x (all ++ t ∷ []) kind

abbrev pub is_argument : Around → Bool
is_argument (arounds.Argument c x all) = true
is_argument around = false

abbrev pub in_type_code : Around → LexemeKind → StepCode → FileStep
in_type_code around kind (goes ns fs phase) = file_goes ns fs (files.InType around phase)
in_type_code around kind (ended ns fs) = outside_of [] fs (after_type_code around (type_of ns) kind)
in_type_code around kind stops = file_stops

-- ---- steps on a lexeme

abbrev pub begin_file_code : List Decl → LexemeKind → Option FilePhase
begin_file_code ds (kinds.Keyword keywords.Type) = Some (files.DeclDue (group_code ds))
begin_file_code ds kind = None

abbrev pub begin_decl_code : Group → LexemeKind → Option FilePhase
begin_decl_code g (kinds.Variable x) = Some (files.ParamsRead g (x ∷ []))
begin_decl_code g (kinds.Symbol symbols.OpenParen) = Some (files.ParamDue g [])
begin_decl_code g (kinds.Lower x) = Some (files.NameRead (declared_code g [] x))
begin_decl_code g kind = None

abbrev pub take_param_code : Group → List (List ℕ) → LexemeKind → Option FilePhase
take_param_code g ps (kinds.Variable x) = Some (files.ParamRead g (ps ++ x ∷ []))
take_param_code g ps kind = None

abbrev pub after_param_code : Group → List (List ℕ) → LexemeKind → Option FilePhase
after_param_code g ps (kinds.Symbol symbols.Comma) = Some (files.ParamDue g ps)
after_param_code g ps (kinds.Symbol symbols.CloseParen) = Some (files.ParamsRead g ps)
after_param_code g ps kind = None

abbrev pub take_decl_name_code : Group → List (List ℕ) → LexemeKind → Option FilePhase
take_decl_name_code g ps (kinds.Lower x) = Some (files.NameRead (declared_code g ps x))
take_decl_name_code g ps kind = None

abbrev pub take_equals_code : Declared → LexemeKind → Option FilePhase
take_equals_code b (kinds.Symbol symbols.Equals) = Some (files.BodyDue b)
take_equals_code b kind = None

abbrev pub begin_body_code : List TypeTreeNode → List OpenConstruct → Declared → LexemeKind
    → FileStep
begin_body_code ns fs b (kinds.Symbol symbols.OpenBrace) =
    file_goes ns fs (files.FieldDue (fields_code (positions.Body b) []))
begin_body_code ns fs b (kinds.Symbol symbols.Bar) =
    file_goes ns fs (files.ConstrDue (constructors_code b []))
begin_body_code ns fs b (kinds.Upper x) =
    file_goes ns fs (files.UpperRead (constructors_code b []) x)
begin_body_code ns fs b kind = in_type_code (arounds.Body b) kind (begin_code ns fs kind)

abbrev pub take_upper_code : Constructors → LexemeKind → Option FilePhase
take_upper_code c (kinds.Upper x) = Some (files.UpperRead c x)
take_upper_code c kind = None

abbrev pub after_upper_code : Constructors → List ℕ → LexemeKind → Option FilePhase
after_upper_code c x (kinds.Keyword keywords.Of) = Some (files.OfRead c x)
after_upper_code c x kind = after_constr_code c (constr_code x arguments.Constant) kind

abbrev pub begin_arguments_code : List TypeTreeNode → List OpenConstruct → Constructors → List ℕ
    → LexemeKind →
    FileStep
begin_arguments_code ns fs c x (kinds.Symbol symbols.OpenBrace) =
    file_goes ns fs (files.FieldDue (fields_code (positions.Inline c x) []))
begin_arguments_code ns fs c x kind = in_type_code (arounds.Argument c x []) kind
    (begin_code ns fs kind)

-- The phase after the closing brace of a record that directly follows a semicolon, or `None` if the
-- record has no field.
abbrev pub close_record_code : Fields → List Field → Option FilePhase
close_record_code f [] = None
close_record_code f (field ∷ more) = Some (files.RecordRead f)

abbrev pub begin_field_code : Fields → LexemeKind → Option FilePhase
begin_field_code f (kinds.Keyword keywords.Mutable) = Some (files.MutableRead f)
begin_field_code f (kinds.Lower x) = Some (files.FieldNamed f false x)
begin_field_code f (kinds.Symbol symbols.CloseBrace) = close_record_code f f.fields
begin_field_code f kind = None

abbrev pub take_field_name_code : Fields → LexemeKind → Option FilePhase
take_field_name_code f (kinds.Lower x) = Some (files.FieldNamed f true x)
take_field_name_code f kind = None

abbrev pub take_colon_code : Fields → Bool → List ℕ → LexemeKind → Option FilePhase
take_colon_code f mutable x (kinds.Symbol symbols.Colon) =
    Some (files.InType (arounds.Field f mutable x) phases.Due)
take_colon_code f mutable x kind = None

abbrev pub file_step_code : List TypeTreeNode → List OpenConstruct → FilePhase → LexemeKind
    → FileStep
file_step_code ns fs (files.FileDue ds) kind = outside_of ns fs (begin_file_code ds kind)
file_step_code ns fs (files.DeclDue g) kind = outside_of ns fs (begin_decl_code g kind)
file_step_code ns fs (files.ParamDue g ps) kind = outside_of ns fs (take_param_code g ps kind)
file_step_code ns fs (files.ParamRead g ps) kind = outside_of ns fs (after_param_code g ps kind)
file_step_code ns fs (files.ParamsRead g ps) kind = outside_of ns fs (take_decl_name_code g ps kind)
file_step_code ns fs (files.NameRead b) kind = outside_of ns fs (take_equals_code b kind)
file_step_code ns fs (files.BodyDue b) kind = begin_body_code ns fs b kind
file_step_code ns fs (files.ConstrDue c) kind = outside_of ns fs (take_upper_code c kind)
file_step_code ns fs (files.UpperRead c x) kind = outside_of ns fs (after_upper_code c x kind)
file_step_code ns fs (files.OfRead c x) kind = begin_arguments_code ns fs c x kind
file_step_code ns fs (files.FieldDue f) kind = outside_of ns fs (begin_field_code f kind)
file_step_code ns fs (files.MutableRead f) kind = outside_of ns fs (take_field_name_code f kind)
file_step_code ns fs (files.FieldNamed f mutable x) kind =
    outside_of ns fs (take_colon_code f mutable x kind)
file_step_code ns fs (files.RecordRead f) kind =
    outside_of ns fs (after_record_code f.position f.fields kind)
file_step_code ns fs (files.InType around phase) kind = in_type_code around kind
    (step_code (is_argument around) ns fs phase kind)

abbrev pub file_depth_code : List OpenConstruct → FilePhase → ℕ
file_depth_code fs (files.InType around phase) = depth_code fs phase
file_depth_code fs phase = 0

-- ---- the end of the file

abbrev pub closed_record_code : RecordOf → List Field → List Decl
closed_record_code (positions.Body b) all = more_decls b.group (decl_code b (bodies.Record all))
closed_record_code (positions.Inline c x) all = more_decls c.declared.group
    (decl_code c.declared (bodies.Variant
    (c.constructors ++ constr_code x (arguments.Inline all) ∷ [])))

abbrev pub closed_constr_code : Constructors → Constructor → List Decl
closed_constr_code c k = more_decls c.declared.group
    (decl_code c.declared (bodies.Variant (c.constructors ++ k ∷ [])))

-- The declarations of a file that ends with a complete type, or `None` if a record is open.
abbrev pub closed_type_code : Around → Ty → Option (List Decl)
closed_type_code (arounds.Body b) t =
    Some (more_decls b.group (decl_code b (bodies.Abbreviation t)))
closed_type_code (arounds.Field f mutable x) t = None
closed_type_code (arounds.Argument c x all) t =
    Some (closed_constr_code c (constr_code x (arguments.Listed (all ++ t ∷ []))))

-- ---- the result of a step, unless memory runs out

abbrev pub FileStepIs : Option FilePhase → List TypeTreeNode → List OpenConstruct → FileStep
    → Type 0
FileStepIs (Some phase) ns fs next = next ≡ file_goes ns fs phase
FileStepIs None ns fs next = next ≡ file_stops

abbrev pub FileSteps : {E : Type 0} → Result (Option FilePhase) E → List TypeTreeNode
    → List OpenConstruct →
    FileStep → Type 0
FileSteps (Ok phase) ns fs next = FileStepIs phase ns fs next
FileSteps (Err e) ns fs next = ⊤

-- The step of the file parser that corresponds to a step of the type parser in the context of the
-- type.
abbrev pub after_step : Around → LexemeKind → List OpenConstruct → TypeStep → List TypeTreeNode
    → FileStep
after_step around kind fs (steps.Goes phase) ns = file_goes ns fs (files.InType around phase)
after_step around kind fs steps.Ended ns =
    outside_of [] fs (after_type_code around (type_of ns) kind)
after_step around kind fs steps.Stops ns = file_stops

-- The declarations of a file that ends while a type is being read, or `None` if the type is not
-- complete.
abbrev pub in_type_whole : Around → Option (List TypeTreeNode) → Option (List Decl)
in_type_whole around (Some all) = closed_type_code around (type_of all)
in_type_whole around None = None

abbrev pub file_whole_code : List TypeTreeNode → List OpenConstruct → FilePhase → Option (List Decl)
file_whole_code ns fs (files.FileDue ds) = Some ds
file_whole_code ns fs (files.UpperRead c x) =
    Some (closed_constr_code c (constr_code x arguments.Constant))
file_whole_code ns fs (files.RecordRead f) = Some (closed_record_code f.position f.fields)
file_whole_code ns fs (files.InType around phase) = in_type_whole around (whole_code ns fs phase)
file_whole_code ns fs phase = None

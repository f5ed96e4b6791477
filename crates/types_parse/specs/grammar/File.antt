-- The states of the parsing table for a file of declarations, outside of types.
use Rattle.std.specs.Prelude.{ℕ, Bool, true, false, Option, Some, None, List, [], ◌∷◌, ◌++◌}
use Rattle.types_lex.specs.declared.lexeme.LexemeKind.{LexemeKind}
use Rattle.types_lex.specs.declared.lexeme.LexemeKind.TheVariants as kinds
use Rattle.types_lex.specs.declared.lexeme.Keyword.TheVariants as keywords
use Rattle.types_lex.specs.declared.lexeme.Symbol.TheVariants as symbols
use Rattle.types_parse.specs.grammar.Grammar.{
  Name,
  Kinds,
  Texpr,
  App,
  single,
  starred,
  mark,
  lower,
  app,
  Params,
  no_params,
  param,
  params,
  FieldTree,
  RecordTree,
  ArgumentsTree,
  no_arguments,
  inline,
  listed,
  ConstrTree,
  BodyTree,
  record_body,
  variant_body,
  type_body,
  DeclTree,
  GroupTree,
  FileTree,
  word,
  mark_if,
  word_if,
  variable_kind,
  each_after,
  params_kinds,
  field_kinds,
  record_kinds,
  constr_kinds,
  decl_kinds,
  file_kinds,
}
use Rattle.types_parse.specs.grammar.Holes.{
  Outer,
  HoleState,
  due,
  read,
  outside,
  first_part,
  next_part,
  whole,
  alone,
  begin,
}

-- ---- lists with separators

pub data Before (X : Type 0) : Type 0 where
  nothing : Before X
  so_far : X → List X → Before X

module _ {X : Type 0} where
  abbrev pub head_of : Before X → X → X
  head_of nothing x = x
  head_of (so_far f m) x = f

  abbrev pub rest_of : Before X → X → List X
  rest_of nothing x = []
  rest_of (so_far f m) x = m ++ x ∷ []

  abbrev pub with_one : Before X → X → Before X
  with_one b x = so_far (head_of b x) (rest_of b x)

  abbrev pub row_prefix : Kinds → (X → Kinds) → Before X → Kinds
  row_prefix between encoded nothing = []
  row_prefix between encoded (so_far f m) = encoded f ++ each_after between encoded m ++ between

-- ---- constructs that are still open

pub record GroupHole : Type 0 where
  pub groups : List GroupTree
  pub decls : Before DeclTree

pub record BodyHole : Type 0 where
  pub group : GroupHole
  pub params : Params
  pub name : Name

pub record ConstrHole : Type 0 where
  pub body : BodyHole
  pub bar : Bool
  pub before : Before ConstrTree

pub data RecordHole : Type 0 where
  body_record : BodyHole → RecordHole
  inline_record : ConstrHole → Name → RecordHole

pub data TypeOutside : Type 0 where
  body_type : BodyHole → TypeOutside
  field_type : RecordHole → Before FieldTree → Bool → Name → TypeOutside

pub data PartOutside : Type 0 where
  listed_part : ConstrHole → Name → Before App → PartOutside

pub data Outside : Type 0 where
  file_due : List GroupTree → Outside
  decl_due : GroupHole → Outside
  param_due : GroupHole → Before Name → Outside
  param_read : GroupHole → Before Name → Name → Outside
  params_read : GroupHole → Params → Outside
  name_read : GroupHole → Params → Name → Outside
  body_due : BodyHole → Outside
  constr_due : ConstrHole → Outside
  upper_read : ConstrHole → Name → Outside
  of_read : ConstrHole → Name → Outside
  field_due : RecordHole → Before FieldTree → Outside
  mutable_read : RecordHole → Before FieldTree → Outside
  field_named : RecordHole → Before FieldTree → Bool → Name → Outside
  record_read : RecordHole → RecordTree → Outside

abbrev pub FileState : Type 0
FileState = HoleState TypeOutside PartOutside Outside

-- ---- trees of constructs that end here

abbrev pub group_with : GroupHole → DeclTree → Bool → List GroupTree
group_with g d ended = g.groups ++ record {
  first = head_of g.decls d;
  more = rest_of g.decls d;
  ended = ended;
} ∷ []

abbrev pub decl_with : BodyHole → BodyTree → DeclTree
decl_with b body = record { params = b.params; name = b.name; body = body }

abbrev pub variant_with : ConstrHole → ConstrTree → DeclTree
variant_with c k = decl_with c.body (variant_body c.bar (head_of c.before k) (rest_of c.before k))

abbrev pub constr_with : Name → ArgumentsTree → ConstrTree
constr_with x arguments = record { name = x; arguments = arguments }

abbrev pub field_with : Bool → Name → Texpr → FieldTree
field_with mutable x t = record { mutable = mutable; name = x; type = t }

abbrev pub record_with : Before FieldTree → FieldTree → Bool → RecordTree
record_with b f closed = record { first = head_of b f; more = rest_of b f; closed = closed }

-- ---- the table

abbrev pub after_decl : GroupHole → DeclTree → LexemeKind → Option FileState
after_decl g d (kinds.Keyword keywords.And) =
    Some (outside (decl_due (record { groups = g.groups; decls = with_one g.decls d })))
after_decl g d (kinds.Keyword keywords.Type) =
    Some (outside (decl_due (record { groups = group_with g d false; decls = nothing })))
after_decl g d (kinds.Symbol symbols.DoubleSemicolon) =
    Some (outside (file_due (group_with g d true)))
after_decl g d kind = None

abbrev pub after_constr : ConstrHole → ConstrTree → LexemeKind → Option FileState
after_constr c k (kinds.Symbol symbols.Bar) =
    Some (outside (constr_due (record {
      body = c.body;
      bar = c.bar;
      before =
          with_one c.before k;
    })))
after_constr c k kind = after_decl c.body.group (variant_with c k) kind

abbrev pub after_record : RecordHole → RecordTree → LexemeKind → Option FileState
after_record (body_record b) r kind = after_decl b.group (decl_with b (record_body r)) kind
after_record (inline_record c x) r kind = after_constr c (constr_with x (inline r)) kind

abbrev pub after_field : RecordHole → Before FieldTree → FieldTree → LexemeKind → Option FileState
after_field r b f (kinds.Symbol symbols.Semicolon) = Some (outside (field_due r (with_one b f)))
after_field r b f (kinds.Symbol symbols.CloseBrace) =
    Some (outside (record_read r (record_with b f false)))
after_field r b f kind = None

abbrev pub outer_type_step : TypeOutside → Texpr → LexemeKind → Option FileState
outer_type_step (body_type b) t kind = after_decl b.group (decl_with b (type_body t)) kind
outer_type_step (field_type r b mutable x) t kind = after_field r b (field_with mutable x t) kind

abbrev pub outer_part_step : PartOutside → App → LexemeKind → Option FileState
outer_part_step (listed_part c x b) a (kinds.Symbol symbols.Star) =
    Some (due (alone (listed_part c x (with_one b a))))
outer_part_step (listed_part c x b) a kind =
    after_constr c (constr_with x (listed (head_of b a) (rest_of b a))) kind

abbrev pub begin_decl : GroupHole → LexemeKind → Option FileState
begin_decl g (kinds.Variable x) = Some (outside (params_read g (param x)))
begin_decl g (kinds.Symbol symbols.OpenParen) = Some (outside (param_due g nothing))
begin_decl g (kinds.Lower x) = Some (outside (name_read g no_params x))
begin_decl g kind = None

abbrev pub begin_file : List GroupTree → LexemeKind → Option FileState
begin_file gs (kinds.Keyword keywords.Type) =
    Some (outside (decl_due (record { groups = gs; decls = nothing })))
begin_file gs kind = None

abbrev pub take_param : GroupHole → Before Name → LexemeKind → Option FileState
take_param g b (kinds.Variable x) = Some (outside (param_read g b x))
take_param g b kind = None

abbrev pub after_param : GroupHole → Before Name → Name → LexemeKind → Option FileState
after_param g b x (kinds.Symbol symbols.Comma) = Some (outside (param_due g (with_one b x)))
after_param g b x (kinds.Symbol symbols.CloseParen) =
    Some (outside (params_read g (params (head_of b x) (rest_of b x))))
after_param g b x kind = None

abbrev pub take_decl_name : GroupHole → Params → LexemeKind → Option FileState
take_decl_name g ps (kinds.Lower x) = Some (outside (name_read g ps x))
take_decl_name g ps kind = None

abbrev pub take_equals : GroupHole → Params → Name → LexemeKind → Option FileState
take_equals g ps x (kinds.Symbol symbols.Equals) =
    Some (outside (body_due (record { group = g; params = ps; name = x })))
take_equals g ps x kind = None

abbrev pub begin_body : BodyHole → LexemeKind → Option FileState
begin_body b (kinds.Symbol symbols.OpenBrace) = Some (outside (field_due (body_record b) nothing))
begin_body b (kinds.Symbol symbols.Bar) =
    Some (outside (constr_due (record { body = b; bar = true; before = nothing })))
begin_body b (kinds.Upper x) = Some
    (outside (upper_read (record { body = b; bar = false; before = nothing }) x))
begin_body b kind = begin (first_part (whole (body_type b))) kind

abbrev pub take_upper : ConstrHole → LexemeKind → Option FileState
take_upper c (kinds.Upper x) = Some (outside (upper_read c x))
take_upper c kind = None

abbrev pub after_upper : ConstrHole → Name → LexemeKind → Option FileState
after_upper c x (kinds.Keyword keywords.Of) = Some (outside (of_read c x))
after_upper c x kind = after_constr c (constr_with x no_arguments) kind

abbrev pub begin_arguments : ConstrHole → Name → LexemeKind → Option FileState
begin_arguments c x (kinds.Symbol symbols.OpenBrace) =
    Some (outside (field_due (inline_record c x) nothing))
begin_arguments c x kind = begin (alone (listed_part c x nothing)) kind

abbrev pub close_record : RecordHole → Before FieldTree → LexemeKind → Option FileState
close_record r (so_far f m) (kinds.Symbol symbols.CloseBrace) =
    Some (outside (record_read r (record { first = f; more = m; closed = true })))
close_record r b kind = None

abbrev pub begin_field : RecordHole → Before FieldTree → LexemeKind → Option FileState
begin_field r b (kinds.Keyword keywords.Mutable) = Some (outside (mutable_read r b))
begin_field r b (kinds.Lower x) = Some (outside (field_named r b false x))
begin_field r b kind = close_record r b kind

abbrev pub take_field_name : RecordHole → Before FieldTree → LexemeKind → Option FileState
take_field_name r b (kinds.Lower x) = Some (outside (field_named r b true x))
take_field_name r b kind = None

abbrev pub take_colon : RecordHole → Before FieldTree → Bool → Name → LexemeKind → Option FileState
take_colon r b mutable x (kinds.Symbol symbols.Colon) =
    Some (due (first_part (whole (field_type r b mutable x))))
take_colon r b mutable x kind = None

abbrev pub outer_step : Outside → LexemeKind → Option FileState
outer_step (file_due gs) kind = begin_file gs kind
outer_step (decl_due g) kind = begin_decl g kind
outer_step (param_due g b) kind = take_param g b kind
outer_step (param_read g b x) kind = after_param g b x kind
outer_step (params_read g ps) kind = take_decl_name g ps kind
outer_step (name_read g ps x) kind = take_equals g ps x kind
outer_step (body_due b) kind = begin_body b kind
outer_step (constr_due c) kind = take_upper c kind
outer_step (upper_read c x) kind = after_upper c x kind
outer_step (of_read c x) kind = begin_arguments c x kind
outer_step (field_due r b) kind = begin_field r b kind
outer_step (mutable_read r b) kind = take_field_name r b kind
outer_step (field_named r b mutable x) kind = take_colon r b mutable x kind
outer_step (record_read r t) kind = after_record r t kind

-- ---- the lexemes read so far

abbrev pub group_prefix : GroupHole → Kinds
group_prefix g = file_kinds g.groups ++ (word keywords.Type ++ row_prefix (word keywords.And)
    decl_kinds g.decls)

abbrev pub body_prefix : BodyHole → Kinds
body_prefix b =
    group_prefix b.group ++ (params_kinds b.params ++ lower b.name ++ mark symbols.Equals)

abbrev pub constr_prefix : ConstrHole → Kinds
constr_prefix c = body_prefix c.body ++ (mark_if c.bar symbols.Bar ++ row_prefix (mark symbols.Bar)
    constr_kinds c.before)

abbrev pub record_prefix : RecordHole → Kinds
record_prefix (body_record b) = body_prefix b
record_prefix (inline_record c x) = constr_prefix c ++ (kinds.Upper x ∷ word keywords.Of)

abbrev pub fields_prefix : RecordHole → Before FieldTree → Kinds
fields_prefix r b =
    record_prefix r ++ (mark symbols.OpenBrace ++ row_prefix (mark symbols.Semicolon)
    field_kinds b)

abbrev pub outer_type_prefix : TypeOutside → Kinds
outer_type_prefix (body_type b) = body_prefix b
outer_type_prefix (field_type r b mutable x) =
    fields_prefix r b ++ (word_if mutable keywords.Mutable
    ++ lower x ++ mark symbols.Colon)

abbrev pub outer_part_prefix : PartOutside → Kinds
outer_part_prefix (listed_part c x b) = constr_prefix c ++ (kinds.Upper x ∷ word keywords.Of
    ++ row_prefix (mark symbols.Star) app b)

abbrev pub outer_prefix : Outside → Kinds
outer_prefix (file_due gs) = file_kinds gs
outer_prefix (decl_due g) = group_prefix g
outer_prefix (param_due g b) = group_prefix g
    ++ (mark symbols.OpenParen ++ row_prefix (mark symbols.Comma) variable_kind b)
outer_prefix (param_read g b x) = group_prefix g
    ++ (mark symbols.OpenParen ++ row_prefix (mark symbols.Comma) variable_kind b
    ++ variable_kind x)
outer_prefix (params_read g ps) = group_prefix g ++ params_kinds ps
outer_prefix (name_read g ps x) = group_prefix g ++ (params_kinds ps ++ lower x)
outer_prefix (body_due b) = body_prefix b
outer_prefix (constr_due c) = constr_prefix c
outer_prefix (upper_read c x) = constr_prefix c ++ kinds.Upper x ∷ []
outer_prefix (of_read c x) = constr_prefix c ++ (kinds.Upper x ∷ word keywords.Of)
outer_prefix (field_due r b) = fields_prefix r b
outer_prefix (mutable_read r b) = fields_prefix r b ++ word keywords.Mutable
outer_prefix (field_named r b mutable x) = fields_prefix r b ++ (word_if mutable keywords.Mutable
    ++ lower x)
outer_prefix (record_read r t) = record_prefix r ++ record_kinds t

abbrev pub outer_type_open : TypeOutside → ℕ
outer_type_open (body_type b) = 0
outer_type_open (field_type r b mutable x) = 1

abbrev pub outer_open : Outside → ℕ
outer_open (param_due g b) = 1
outer_open (param_read g b x) = 1
outer_open (field_due r b) = 1
outer_open (mutable_read r b) = 1
outer_open (field_named r b mutable x) = 1
outer_open q = 0

-- ---- files obtained by closing every open construct at once

abbrev pub closed_decl : GroupHole → DeclTree → FileTree
closed_decl g d = group_with g d false

abbrev pub closed_constr : ConstrHole → ConstrTree → FileTree
closed_constr c k = closed_decl c.body.group (variant_with c k)

abbrev pub closed_record : RecordHole → RecordTree → FileTree
closed_record (body_record b) r = closed_decl b.group (decl_with b (record_body r))
closed_record (inline_record c x) r = closed_constr c (constr_with x (inline r))

abbrev pub closed_outer_type : TypeOutside → Texpr → FileTree
closed_outer_type (body_type b) t = closed_decl b.group (decl_with b (type_body t))
closed_outer_type (field_type r b mutable x) t =
    closed_record r (record_with b (field_with mutable x t) false)

abbrev pub closed_outer_part : PartOutside → App → FileTree
closed_outer_part (listed_part c x b) a =
    closed_constr c (constr_with x (listed (head_of b a) (rest_of b a)))

abbrev pub declarations : Outer TypeOutside PartOutside Outside FileTree
declarations = record {
  type_step = outer_type_step;
  part_step = outer_part_step;
  outside_step = outer_step;
  prefix_of_type = outer_type_prefix;
  prefix_of_part = outer_part_prefix;
  prefix_of_outside = outer_prefix;
  open_of_type = outer_type_open;
  open_of_part = λ q. 0;
  open_of_outside = outer_open;
  closed_round_type = closed_outer_type;
  closed_round_part = closed_outer_part;
}

abbrev pub file_start : FileState
file_start = outside (file_due [])

abbrev pub accepted_outside : Outside → Option FileTree
accepted_outside (file_due gs) = Some gs
accepted_outside (upper_read c x) = Some (closed_constr c (constr_with x no_arguments))
accepted_outside (record_read r t) = Some (closed_record r t)
accepted_outside q = None

abbrev pub file_accepted : FileState → Option FileTree
file_accepted (read (first_part (whole (body_type b))) a) =
    Some (closed_decl b.group (decl_with b (type_body (single a))))
file_accepted (read (next_part (whole (body_type b)) t) a) =
    Some (closed_decl b.group (decl_with b (type_body (starred t a))))
file_accepted (read (alone (listed_part c x b)) a) = Some (closed_outer_part (listed_part c x b) a)
file_accepted (outside q) = accepted_outside q
file_accepted s = None

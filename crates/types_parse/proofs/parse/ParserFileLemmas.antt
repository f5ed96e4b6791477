-- The code's step on the declarations so far agrees with the table's step on their trees.
use Rattle.std.proofs.Common.{◌≡◌, ◌∙◌, min, Bool, true, false, List, [], ◌∷◌, ◌++◌, length, map, Option, Some, None, refl, sym, ap, subst, append-nil, append_assoc}
use Rattle.types_lex.specs.declared.lexeme.LexemeKind.{LexemeKind}
use Rattle.types_lex.specs.declared.lexeme.LexemeKind.TheVariants as kinds
use Rattle.types_lex.specs.declared.lexeme.Keyword.TheVariants as keywords
use Rattle.types_lex.specs.declared.lexeme.Symbol.TheVariants as symbols
use Rattle.types_parse.specs.grammar.Grammar.{Name, Texpr, App, Params, FieldTree, RecordTree, no_arguments, inline, listed, ConstrTree, record_body, type_body, DeclTree, GroupTree, FileTree}
use Rattle.types_parse.specs.grammar.Holes.{due, read, name_due, tag_read, outside, first_part, whole, alone, begin, step, ended as table_ended}
use Rattle.types_parse.specs.grammar.File.{Before, nothing, so_far, head_of, rest_of, with_one, GroupHole, BodyHole, ConstrHole, RecordHole, body_record, inline_record, TypeOutside, body_type, field_type, PartOutside, listed_part, Outside, file_due, decl_due, param_due, param_read, params_read, name_read, body_due, constr_due, upper_read, of_read, field_due, mutable_read, field_named, record_read, FileState, group_with, decl_with, variant_with, constr_with, field_with, after_decl, after_constr, after_record, after_field, outer_type_step, outer_part_step, outer_step, declarations}
use Rattle.types_spec.specs.types.TypeNodes.{type_of}
use Rattle.types_spec.proofs.types.TypeNodeLemmas.{AreOrdered-none}
use Rattle.types_spec.specs.declared.types.ty.TypeTreeNode.{TypeTreeNode}
use Rattle.types_spec.specs.declared.types.decl.Arguments.TheVariants as arguments
use Rattle.types_spec.specs.declared.types.decl.Body.TheVariants as bodies
use Rattle.types_spec.specs.declared.types.decl.Decl.{Decl}
use Rattle.types_parse.specs.parse.WrittenTrees.{type_of_texpr, type_of_app, field_of_tree, fields_of_tree, constructor_of_tree, declaration_of_tree, declarations_of}
use Rattle.types_parse.specs.declared.parse.open.OpenConstruct.{OpenConstruct}
use Rattle.types_parse.specs.declared.parse.open.ParsePhase.TheVariants as phases
use Rattle.types_parse.specs.declared.parse.declarations_so_far.FilePhase.{FilePhase}
use Rattle.types_parse.specs.declared.parse.declarations_so_far.FilePhase.TheVariants as files
use Rattle.types_parse.specs.parse.TypeCode.{StepCode, goes, ended, stops, begin_code, step_code}
use Rattle.types_parse.specs.parse.TypeShown.{Bottom, at_type, at_part, is_alone}
use Rattle.types_parse.specs.parse.FileCode.{FileStep, file_goes, file_stops, outside_of, group_code, more_decls, decl_code, constructors_code, constr_code, fields_code, after_decl_code, after_constr_code, after_record_code, after_field_code, listed_code, after_type_code, is_argument, in_type_code, file_step_code, file_depth_code}
use Rattle.types_parse.specs.parse.FileShown.{row_list, group_of, declared_of, constructors_of, record_of, fields_of, around_of, phase_of, IsInType, file_shown}
use Rattle.types_parse.proofs.parse.ParserTypeLemmas.{none_outside, EndsAt, Follows, begin_follows, step_follows, depth_follows}
use Rattle.types_parse.proofs.parse.WrittenLemmas.{row_more, row_map, group_ends}

-- The step of the table and the step of the code both continue, or both fail.
abbrev pub FollowsOut : Option FileState → Option FilePhase → Type 0
FollowsOut next (Some phase) = (n : FileState) × (next ≡ Some n) × file_shown [] [] phase n
FollowsOut next None = next ≡ None

abbrev pub FollowsFile : Option FileState → FileStep → Type 0
FollowsFile next (file_goes ns fs phase) = (n : FileState) × (next ≡ Some n) × file_shown ns fs
    phase n
FollowsFile next file_stops = next ≡ None

from_outside : (next : Option FileState) (c : Option FilePhase) → FollowsOut next c →
    FollowsFile next (outside_of [] [] c)
from_outside next (Some phase) f = f
from_outside next None f = f

-- If the code's phase represents a state outside of types, then the code's step agrees with the
-- table's step to the state.
goes_out : (q : Outside) (phase : FilePhase) → phase ≡ phase_of q → FollowsOut (Some (outside q))
    (Some phase)
goes_out q phase e = (outside q, refl, (refl, refl, e))

-- ---- after a declaration and its parts

one_decl_more : (g : GroupHole) (d : DeclTree) →
    more_decls (group_of g) (declaration_of_tree (group_of g).group d)
    ≡ (group_of (record { groups = g.groups; decls = with_one g.decls d })).decls
one_decl_more g d =
    append_assoc (declarations_of g.groups)
    (map (declaration_of_tree (length (declarations_of g.groups))) (row_list g.decls)) _
    ∙ sym (ap (λ ds. declarations_of g.groups ++ ds)
    (row_map (declaration_of_tree (length (declarations_of g.groups))) g.decls d))

group_starts : (gs : FileTree) → group_code (declarations_of gs)
    ≡ group_of (record { groups = gs; decls = nothing })
group_starts gs = let f : List Decl → _ =
    λ ds. record { decls = ds; group = length (declarations_of gs) } in
    ap f (sym (append-nil (declarations_of gs)))

decl_follows : (g : GroupHole) (d : DeclTree) (kind : LexemeKind) → FollowsOut (after_decl g d kind)
    (after_decl_code (group_of g) (declaration_of_tree (group_of g).group d) kind)
decl_follows g d (kinds.Keyword keywords.And) =
    goes_out _ _ (ap (λ ds. files.DeclDue (record { decls = ds; group = (group_of g).group }))
    (one_decl_more g d))
decl_follows g d (kinds.Keyword keywords.Type) =
    goes_out _ _ (ap files.DeclDue (ap group_code (sym (group_ends g d false))
    ∙ group_starts (group_with g d false)))
decl_follows g d (kinds.Symbol symbols.DoubleSemicolon) =
    goes_out _ _ (ap files.FileDue (sym (group_ends g d true)))
decl_follows g d kind = refl

constr_follows : (c : ConstrHole) (k : ConstrTree) (kind : LexemeKind) →
    FollowsOut (after_constr c k kind) (after_constr_code (constructors_of c)
    (constructor_of_tree k) kind)
constr_follows c k (kinds.Symbol symbols.Bar) =
    goes_out _ _ (ap (λ ks. files.ConstrDue (constructors_code (declared_of c.body) ks))
    (sym (row_map constructor_of_tree c.before k)))
constr_follows c k kind = subst (λ ks. FollowsOut (after_decl c.body.group (variant_with c k) kind)
    (after_decl_code (group_of c.body.group) (decl_code (declared_of c.body) (bodies.Variant ks))
    kind)) (row_map constructor_of_tree c.before k) (decl_follows c.body.group (variant_with c k)
    kind)

record_follows : (r : RecordHole) (t : RecordTree) (kind : LexemeKind) →
    FollowsOut (after_record r t kind) (after_record_code (record_of r) (fields_of_tree t) kind)
record_follows (body_record b) t kind = decl_follows b.group (decl_with b (record_body t)) kind
record_follows (inline_record c x) t kind = constr_follows c (constr_with x (inline t)) kind

field_follows : (r : RecordHole) (b : Before FieldTree) (f : FieldTree) (kind : LexemeKind) →
    FollowsOut (after_field r b f kind) (after_field_code (fields_of r b) (field_of_tree f) kind)
field_follows r b f (kinds.Symbol symbols.Semicolon) =
    goes_out _ _ (ap (λ all. files.FieldDue (fields_code (record_of r) all))
    (sym (row_map field_of_tree b f)))
field_follows r b f (kinds.Symbol symbols.CloseBrace) =
    goes_out _ _ (ap (λ all. files.RecordRead (fields_code (record_of r) all))
    (sym (row_map field_of_tree b f)))
field_follows r b f kind = refl

whole_follows : (w : TypeOutside) (t : Texpr) (kind : LexemeKind) →
    FollowsOut (outer_type_step w t kind) (after_type_code (around_of (at_type w)) (type_of_texpr t)
    kind)
whole_follows (body_type b) t kind = decl_follows b.group (decl_with b (type_body t)) kind
whole_follows (field_type r b mutable x) t kind = field_follows r b (field_with mutable x t) kind

listed_follows : (c : ConstrHole) (x : Name) (b : Before App) (a : App) (kind : LexemeKind) →
    FollowsOut (outer_part_step (listed_part c x b) a kind)
    (listed_code (constructors_of c) x (map type_of_app (head_of b a ∷ rest_of b a)) kind)
listed_follows c x b a (kinds.Symbol symbols.Star) = (
  due (alone (listed_part c x (with_one b a))),
  refl,
  record {
    bottom = at_part (listed_part c x (with_one b a));
    around =
        around_of (at_part (listed_part c x (with_one b a)));
    inner = phases.Due;
    phase_is = refl;
    around_is = refl;
    shown = refl;
    ordered = AreOrdered-none;
  },
)
listed_follows c x b a kind = constr_follows c (constr_with x (listed (head_of b a) (rest_of b a)))
    kind

alone_follows : (q : PartOutside) (a : App) (kind : LexemeKind) →
    FollowsOut (outer_part_step q a kind) (after_type_code (around_of (at_part q)) (type_of_app a)
    kind)
alone_follows (listed_part c x b) a kind =
    subst (λ all. FollowsOut (outer_part_step (listed_part c x b) a kind)
    (listed_code (constructors_of c) x all kind)) (row_map type_of_app b a)
    (listed_follows c x b a kind)

-- ---- in types

in_type_shown : (ns : List TypeTreeNode) (fs : List OpenConstruct) (phase : FilePhase) (s : FileState) →
    IsInType ns fs phase s → file_shown ns fs phase s
in_type_shown ns fs phase (outside q) h = absurd (none_outside h.bottom q ns fs h.inner h.shown)
in_type_shown ns fs phase (due p) h = h
in_type_shown ns fs phase (read p a) h = h
in_type_shown ns fs phase (name_due p ts t) h = h
in_type_shown ns fs phase (tag_read p x) h = h

ends_follow : (b : Bottom TypeOutside PartOutside) (next : Option FileState) (kind : LexemeKind)
    (ns : List TypeTreeNode) → EndsAt declarations b next kind ns →
    FollowsOut next (after_type_code (around_of b) (type_of ns) kind)
ends_follow (at_type w) next kind ns e =
    subst (λ t. FollowsOut next (after_type_code (around_of (at_type w)) t kind)) (sym e.type_is)
    (subst (λ n. FollowsOut n (after_type_code (around_of (at_type w)) (type_of_texpr e.type) kind))
    (sym e.next_is) (whole_follows w e.type kind))
ends_follow (at_part q) next kind ns e =
    subst (λ t. FollowsOut next (after_type_code (around_of (at_part q)) t kind)) (sym e.type_is)
    (subst (λ n. FollowsOut n (after_type_code (around_of (at_part q)) (type_of_app e.type) kind))
    (sym e.next_is) (alone_follows q e.type kind))

in_type_follows : (b : Bottom TypeOutside PartOutside) (next : Option FileState) (kind : LexemeKind)
    (c : StepCode) → Follows declarations b next kind c →
    FollowsFile next (in_type_code (around_of b) kind c)
in_type_follows b next kind (goes ns fs phase) h = (
  h.state,
  h.goes_to,
  in_type_shown ns fs (files.InType (around_of b) phase) h.state
      (record {
        bottom = b;
        around = around_of b;
        inner = phase;
        phase_is = refl;
        around_is = refl;
        shown = h.shown;
        ordered = h.ordered;
      }),
)
in_type_follows b next kind (ended ns fs) h =
    subst (λ f. FollowsFile next (outside_of [] f (after_type_code (around_of b) (type_of ns)
    kind))) (sym h.1) (from_outside next _ (ends_follow b next kind ns h.0))
in_type_follows b next kind stops h = h

-- ---- outside of types

begin_file_follows : (gs : List GroupTree) (kind : LexemeKind) →
    FollowsFile (outer_step (file_due gs) kind) (file_step_code [] [] (phase_of (file_due gs)) kind)
begin_file_follows gs (kinds.Keyword keywords.Type) =
    goes_out _ _ (ap files.DeclDue (group_starts gs))
begin_file_follows gs kind = refl

begin_decl_follows : (g : GroupHole) (kind : LexemeKind) →
    FollowsFile (outer_step (decl_due g) kind) (file_step_code [] [] (phase_of (decl_due g)) kind)
begin_decl_follows g (kinds.Variable x) = goes_out _ _ refl
begin_decl_follows g (kinds.Symbol symbols.OpenParen) = goes_out _ _ refl
begin_decl_follows g (kinds.Lower x) = goes_out _ _ refl
begin_decl_follows g kind = refl

take_param_follows : (g : GroupHole) (b : Before Name) (kind : LexemeKind) →
    FollowsFile (outer_step (param_due g b) kind) (file_step_code [] [] (phase_of (param_due g b))
    kind)
take_param_follows g b (kinds.Variable x) = goes_out _ _ refl
take_param_follows g b kind = refl

after_param_follows : (g : GroupHole) (b : Before Name) (x : Name) (kind : LexemeKind) →
    FollowsFile (outer_step (param_read g b x) kind)
    (file_step_code [] [] (phase_of (param_read g b x)) kind)
after_param_follows g b x (kinds.Symbol symbols.Comma) =
    goes_out _ _ (ap (files.ParamDue (group_of g)) (sym (row_more b x)))
after_param_follows g b x (kinds.Symbol symbols.CloseParen) =
    goes_out _ _ (ap (files.ParamsRead (group_of g)) (sym (row_more b x)))
after_param_follows g b x kind = refl

take_decl_name_follows : (g : GroupHole) (ps : Params) (kind : LexemeKind) →
    FollowsFile (outer_step (params_read g ps) kind)
    (file_step_code [] [] (phase_of (params_read g ps)) kind)
take_decl_name_follows g ps (kinds.Lower x) = goes_out _ _ refl
take_decl_name_follows g ps kind = refl

take_equals_follows : (g : GroupHole) (ps : Params) (x : Name) (kind : LexemeKind) →
    FollowsFile (outer_step (name_read g ps x) kind)
    (file_step_code [] [] (phase_of (name_read g ps x)) kind)
take_equals_follows g ps x (kinds.Symbol symbols.Equals) = goes_out _ _ refl
take_equals_follows g ps x kind = refl

begins : (w : TypeOutside) (kind : LexemeKind) → FollowsFile (begin (first_part (whole w)) kind)
    (in_type_code (around_of (at_type w)) kind (begin_code [] [] kind))
begins w kind = in_type_follows (at_type w) _ kind (begin_code [] [] kind)
    (begin_follows declarations (at_type w) (first_part (whole w)) [] [] kind AreOrdered-none refl)

begins_alone : (q : PartOutside) (kind : LexemeKind) → FollowsFile (begin (alone q) kind)
    (in_type_code (around_of (at_part q)) kind (begin_code [] [] kind))
begins_alone q kind = in_type_follows (at_part q) _ kind (begin_code [] [] kind)
    (begin_follows declarations (at_part q) (alone q) [] [] kind AreOrdered-none refl)

begin_body_follows : (b : BodyHole) (kind : LexemeKind) → FollowsFile (outer_step (body_due b) kind)
    (file_step_code [] [] (phase_of (body_due b)) kind)
begin_body_follows b (kinds.Symbol symbols.OpenBrace) = goes_out _ _ refl
begin_body_follows b (kinds.Symbol symbols.Bar) = goes_out _ _ refl
begin_body_follows b (kinds.Upper x) = goes_out _ _ refl
begin_body_follows b kind = begins (body_type b) kind

take_upper_follows : (c : ConstrHole) (kind : LexemeKind) →
    FollowsFile (outer_step (constr_due c) kind) (file_step_code [] [] (phase_of (constr_due c))
    kind)
take_upper_follows c (kinds.Upper x) = goes_out _ _ refl
take_upper_follows c kind = refl

after_upper_follows : (c : ConstrHole) (x : Name) (kind : LexemeKind) →
    FollowsFile (outer_step (upper_read c x) kind) (file_step_code [] [] (phase_of (upper_read c x))
    kind)
after_upper_follows c x (kinds.Keyword keywords.Of) = goes_out _ _ refl
after_upper_follows c x kind = from_outside (after_constr c (constr_with x no_arguments) kind)
    (after_constr_code (constructors_of c) (constr_code x arguments.Constant) kind)
    (constr_follows c (constr_with x no_arguments) kind)

begin_arguments_follows : (c : ConstrHole) (x : Name) (kind : LexemeKind) →
    FollowsFile (outer_step (of_read c x) kind) (file_step_code [] [] (phase_of (of_read c x)) kind)
begin_arguments_follows c x (kinds.Symbol symbols.OpenBrace) = goes_out _ _ refl
begin_arguments_follows c x kind = begins_alone (listed_part c x nothing) kind

begin_field_follows : (r : RecordHole) (b : Before FieldTree) (kind : LexemeKind) →
    FollowsFile (outer_step (field_due r b) kind) (file_step_code [] [] (phase_of (field_due r b))
    kind)
begin_field_follows r b (kinds.Keyword keywords.Mutable) = goes_out _ _ refl
begin_field_follows r b (kinds.Lower x) = goes_out _ _ refl
begin_field_follows r nothing (kinds.Symbol symbols.CloseBrace) = refl
begin_field_follows r (so_far f more) (kinds.Symbol symbols.CloseBrace) = goes_out _ _ refl
begin_field_follows r nothing kind = refl
begin_field_follows r (so_far f more) kind = refl

take_field_name_follows : (r : RecordHole) (b : Before FieldTree) (kind : LexemeKind) →
    FollowsFile (outer_step (mutable_read r b) kind)
    (file_step_code [] [] (phase_of (mutable_read r b)) kind)
take_field_name_follows r b (kinds.Lower x) = goes_out _ _ refl
take_field_name_follows r b kind = refl

take_colon_follows : (r : RecordHole) (b : Before FieldTree) (mutable : Bool) (x : Name)
    (kind : LexemeKind) → FollowsFile (outer_step (field_named r b mutable x) kind)
    (file_step_code [] [] (phase_of (field_named r b mutable x)) kind)
take_colon_follows r b mutable x (kinds.Symbol symbols.Colon) = (
  due (first_part (whole (field_type r b mutable x))),
  refl,
  record {
    bottom = at_type (field_type r b mutable x);
    around =
        around_of (at_type (field_type r b mutable x));
    inner = phases.Due;
    phase_is = refl;
    around_is =
        refl;
    shown = refl;
    ordered = AreOrdered-none;
  },
)
take_colon_follows r b mutable x kind = refl

outside_follows : (q : Outside) (kind : LexemeKind) → FollowsFile (outer_step q kind)
    (file_step_code [] [] (phase_of q) kind)
outside_follows (file_due gs) kind = begin_file_follows gs kind
outside_follows (decl_due g) kind = begin_decl_follows g kind
outside_follows (param_due g b) kind = take_param_follows g b kind
outside_follows (param_read g b x) kind = after_param_follows g b x kind
outside_follows (params_read g ps) kind = take_decl_name_follows g ps kind
outside_follows (name_read g ps x) kind = take_equals_follows g ps x kind
outside_follows (body_due b) kind = begin_body_follows b kind
outside_follows (constr_due c) kind = take_upper_follows c kind
outside_follows (upper_read c x) kind = after_upper_follows c x kind
outside_follows (of_read c x) kind = begin_arguments_follows c x kind
outside_follows (field_due r b) kind = begin_field_follows r b kind
outside_follows (mutable_read r b) kind = take_field_name_follows r b kind
outside_follows (field_named r b mutable x) kind = take_colon_follows r b mutable x kind
outside_follows (record_read r t) kind = from_outside (after_record r t kind)
    (after_record_code (record_of r) (fields_of_tree t) kind) (record_follows r t kind)

-- ---- inside and outside of types

argument_alone : (b : Bottom TypeOutside PartOutside) → is_argument (around_of b) ≡ is_alone b
argument_alone (at_type (body_type b)) = refl
argument_alone (at_type (field_type r b mutable x)) = refl
argument_alone (at_part (listed_part c x b)) = refl

-- While a type is being read, the code's step agrees with the table's step.
pub inner_follows : (ns : List TypeTreeNode) (fs : List OpenConstruct) (phase : FilePhase) (s : FileState)
    (kind : LexemeKind) (h : IsInType ns fs phase s) → Follows declarations h.bottom
    (step declarations s kind) kind (step_code (is_argument h.around) ns fs h.inner kind)
inner_follows ns fs phase s kind h =
    subst (λ a. Follows declarations h.bottom (step declarations s kind) kind
    (step_code a ns fs h.inner kind)) (sym (ap is_argument h.around_is ∙ argument_alone h.bottom))
    (step_follows declarations h.bottom s ns fs h.inner kind h.ordered h.shown)

inside_follows : (ns : List TypeTreeNode) (fs : List OpenConstruct) (phase : FilePhase) (s : FileState)
    (kind : LexemeKind) → IsInType ns fs phase s → FollowsFile (step declarations s kind)
    (file_step_code ns fs phase kind)
inside_follows ns fs phase s kind h =
    subst (λ p. FollowsFile (step declarations s kind) (file_step_code ns fs p kind))
    (sym h.phase_is)
    (subst (λ a. FollowsFile (step declarations s kind)
    (in_type_code a kind (step_code (is_argument h.around) ns fs h.inner kind)))
    (sym h.around_is)
    (in_type_follows h.bottom (step declarations s kind) kind (step_code (is_argument h.around) ns
    fs h.inner kind) (inner_follows ns fs phase s kind h)))

pub file_follows : (s : FileState) (ns : List TypeTreeNode) (fs : List OpenConstruct) (phase : FilePhase)
    (kind : LexemeKind) → file_shown ns fs phase s → FollowsFile (step declarations s kind)
    (file_step_code ns fs phase kind)
file_follows (outside q) ns fs phase kind h =
    subst (λ n. FollowsFile (outer_step q kind) (file_step_code n fs phase kind)) (sym h.0)
    (subst (λ f. FollowsFile (outer_step q kind) (file_step_code [] f phase kind)) (sym h.1)
    (subst (λ p. FollowsFile (outer_step q kind) (file_step_code [] [] p kind)) (sym h.2)
    (outside_follows q kind)))
file_follows (due p) ns fs phase kind h = inside_follows ns fs phase (due p) kind h
file_follows (read p a) ns fs phase kind h = inside_follows ns fs phase (read p a) kind h
file_follows (name_due p ts t) ns fs phase kind h = inside_follows ns fs phase (name_due p ts t)
    kind h
file_follows (tag_read p x) ns fs phase kind h = inside_follows ns fs phase (tag_read p x) kind h

-- ---- depths

outside_depth : (q : Outside) → file_depth_code [] (phase_of q) ≡ 0
outside_depth (file_due gs) = refl
outside_depth (decl_due g) = refl
outside_depth (param_due g b) = refl
outside_depth (param_read g b x) = refl
outside_depth (params_read g ps) = refl
outside_depth (name_read g ps x) = refl
outside_depth (body_due b) = refl
outside_depth (constr_due c) = refl
outside_depth (upper_read c x) = refl
outside_depth (of_read c x) = refl
outside_depth (field_due r b) = refl
outside_depth (mutable_read r b) = refl
outside_depth (field_named r b mutable x) = refl
outside_depth (record_read r t) = refl

inside_depth : (ns : List TypeTreeNode) (fs : List OpenConstruct) (phase : FilePhase) (s : FileState) →
    IsInType ns fs phase s → file_depth_code fs phase ≡ min 201 (table_ended s)
inside_depth ns fs phase s h = ap (file_depth_code fs) h.phase_is ∙ depth_follows declarations
    h.bottom s ns fs h.inner h.shown

pub file_depth_follows : (s : FileState) (ns : List TypeTreeNode) (fs : List OpenConstruct) (phase : FilePhase) →
    file_shown ns fs phase s → file_depth_code fs phase ≡ min 201 (table_ended s)
file_depth_follows (outside q) ns fs phase h = let zero_is : 0 ≡ min 201 0 = refl in
    ap (λ f. file_depth_code f phase) h.1 ∙ ap (file_depth_code []) h.2 ∙ outside_depth q ∙ zero_is
file_depth_follows (due p) ns fs phase h = inside_depth ns fs phase (due p) h
file_depth_follows (read p a) ns fs phase h = inside_depth ns fs phase (read p a) h
file_depth_follows (name_due p ts t) ns fs phase h = inside_depth ns fs phase (name_due p ts t) h
file_depth_follows (tag_read p x) ns fs phase h = inside_depth ns fs phase (tag_read p x) h

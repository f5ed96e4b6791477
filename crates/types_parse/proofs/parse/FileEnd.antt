-- The end of a file, in the table and in the code.
use Rattle.std.proofs.Common.{◌≡◌, ◌∙◌, Bool, false, List, [], ◌∷◌, ◌++◌, map, Option, Some, None, refl, sym, ap, subst}
use Rattle.types_parse.specs.grammar.Grammar.{Name, Texpr, App, single, starred, no_arguments, inline, listed, RecordTree, ConstrTree, FieldTree, FileTree, type_body, record_body}
use Rattle.types_parse.specs.grammar.Holes.{due, read, name_due, tag_read, outside, first_part, next_part, whole, alone}
use Rattle.types_parse.specs.grammar.File.{Before, head_of, rest_of, BodyHole, ConstrHole, RecordHole, body_record, inline_record, TypeOutside, body_type, field_type, PartOutside, listed_part, Outside, file_due, decl_due, param_due, param_read, params_read, name_read, body_due, constr_due, upper_read, of_read, field_due, mutable_read, field_named, record_read, FileState, decl_with, variant_with, constr_with, closed_decl, closed_constr, closed_record, closed_outer_part, accepted_outside, file_accepted}
use Rattle.types_parse.proofs.grammar.HolesLead.{type_read}
use Rattle.types_spec.specs.types.TypeNodes.{type_of, AreOrdered}
use Rattle.types_spec.specs.declared.types.ty.TypeTreeNode.{TypeTreeNode}
use Rattle.types_spec.specs.declared.types.decl.Arguments.TheVariants as arguments
use Rattle.types_spec.specs.declared.types.decl.Body.TheVariants as bodies
use Rattle.types_spec.specs.declared.types.decl.Decl.{Decl}
use Rattle.types_parse.specs.parse.WrittenTrees.{type_of_app, fields_of_tree, constructor_of_tree, declarations_of}
use Rattle.types_parse.specs.declared.parse.open.OpenConstruct.{OpenConstruct}
use Rattle.types_parse.specs.declared.parse.open.ParsePhase.{ParsePhase}
use Rattle.types_parse.specs.declared.parse.declarations_so_far.FilePhase.{FilePhase}
use Rattle.types_parse.specs.declared.parse.declarations_so_far.FilePhase.TheVariants as files
use Rattle.types_parse.specs.parse.TypeCode.{whole_code}
use Rattle.types_parse.specs.parse.TypeShown.{Bottom, at_type, at_part}
use Rattle.types_parse.specs.parse.FileCode.{more_decls, decl_code, constr_code, closed_constr_code, closed_record_code, closed_type_code, in_type_whole, file_whole_code}
use Rattle.types_parse.specs.declared.parse.declarations_so_far.Around.{Around}
use Rattle.types_parse.specs.parse.FileShown.{IsReadable, row_list, group_of, declared_of, constructors_of, record_of, around_of, phase_of, IsInType, file_shown}
use Rattle.types_parse.proofs.parse.ParserWholeLemmas.{may_end, IsAllAt, Ends, whole_ends}
use Rattle.types_parse.proofs.parse.ParserStepLemmas.{in_type_is}
use Rattle.types_parse.proofs.parse.WrittenLemmas.{row_map, group_ends}

abbrev pub EndsFile : Option FileTree → Option (List Decl) → Type 0
EndsFile accepted (Some ds) = (t : FileTree) × (accepted ≡ Some t) × (ds ≡ declarations_of t)
EndsFile accepted None = accepted ≡ None

constr_ends : (c : ConstrHole) (k : ConstrTree) → closed_constr_code (constructors_of c)
    (constructor_of_tree k) ≡ declarations_of (closed_constr c k)
constr_ends c k = ap (λ ks. more_decls (group_of c.body.group)
    (decl_code (declared_of c.body) (bodies.Variant ks)))
    (sym (row_map constructor_of_tree c.before k))
    ∙ sym (group_ends c.body.group (variant_with c k) false)

record_ends : (r : RecordHole) (t : RecordTree) → closed_record_code (record_of r)
    (fields_of_tree t) ≡ declarations_of (closed_record r t)
record_ends (body_record b) t = sym (group_ends b.group (decl_with b (record_body t)) false)
record_ends (inline_record c x) t = constr_ends c (constr_with x (inline t))

listed_ends : (c : ConstrHole) (x : Name) (b : Before App) (a : App) →
    closed_constr_code (constructors_of c)
    (constr_code x (arguments.Listed (map type_of_app (row_list b) ++ type_of_app a ∷ [])))
    ≡ declarations_of (closed_outer_part (listed_part c x b) a)
listed_ends c x b a = ap (λ all. closed_constr_code (constructors_of c)
    (constr_code x (arguments.Listed all))) (sym (row_map type_of_app b a))
    ∙ constr_ends c (constr_with x (listed (head_of b a) (rest_of b a)))

-- ---- in a type

body_accepted : (b : BodyHole) (t : Texpr) → file_accepted (type_read (whole (body_type b)) t)
    ≡ Some (closed_decl b.group (decl_with b (type_body t)))
body_accepted b (single a) = refl
body_accepted b (starred t a) = refl

field_accepted : (r : RecordHole) (b : Before FieldTree) (mutable : Bool) (x : Name) (t : Texpr) →
    file_accepted (type_read (whole (field_type r b mutable x)) t) ≡ None
field_accepted r b mutable x (single a) = refl
field_accepted r b mutable x (starred t a) = refl

none_accepted : (s : FileState) → may_end s ≡ false → file_accepted s ≡ None
none_accepted (read (first_part (whole w)) a) h = absurd (cc)
none_accepted (read (next_part (whole w) t) a) h = absurd (cc)
none_accepted (read (alone q) a) h = absurd (cc)
none_accepted (outside q) h = absurd (cc)
none_accepted s h = refl

all_ends : (b : Bottom TypeOutside PartOutside) (s : FileState) (all : List TypeTreeNode) →
    IsAllAt b s all → EndsFile (file_accepted s) (closed_type_code (around_of b) (type_of all))
all_ends (at_type (body_type b)) s all h = (
  closed_decl b.group (decl_with b (type_body h.type)),
  ap file_accepted h.state_is ∙ body_accepted b h.type,
  ap (λ t. more_decls (group_of b.group) (decl_code (declared_of b) (bodies.Abbreviation t)))
      h.type_is ∙ sym (group_ends b.group (decl_with b (type_body h.type)) false),
)
all_ends (at_type (field_type r b mutable x)) s all h = ap file_accepted h.state_is
    ∙ field_accepted r b mutable x h.type
all_ends (at_part (listed_part c x b)) s all h = (
  closed_outer_part (listed_part c x b) h.type,
  ap file_accepted h.state_is,
  ap (λ t. closed_constr_code (constructors_of c)
      (constr_code x (arguments.Listed (map type_of_app (row_list b) ++ t ∷ [])))) h.type_is
      ∙ listed_ends c x b h.type,
)

type_ends : (b : Bottom TypeOutside PartOutside) (s : FileState) (found : Option (List TypeTreeNode)) →
    Ends b s found → EndsFile (file_accepted s) (in_type_whole (around_of b) found)
type_ends b s (Some all) h = all_ends b s all h
type_ends b s None h = none_accepted s h

inside_ends : (s : FileState) (ns : List TypeTreeNode) (fs : List OpenConstruct) (phase : FilePhase) →
    IsInType ns fs phase s → EndsFile (file_accepted s) (file_whole_code ns fs phase)
inside_ends s ns fs phase h =
    subst (λ p. EndsFile (file_accepted s) (file_whole_code ns fs p)) (sym h.phase_is)
    (subst (λ a. EndsFile (file_accepted s) (in_type_whole a (whole_code ns fs h.inner)))
    (sym h.around_is)
    (type_ends h.bottom s (whole_code ns fs h.inner) (whole_ends h.bottom s ns fs h.inner h.ordered
    h.shown)))

-- The nodes of a complete type are ordered.
inside_written : (s : FileState) (ns : List TypeTreeNode) (fs : List OpenConstruct) (phase : FilePhase)
    (h : IsInType ns fs phase s) (all : List TypeTreeNode) → whole_code ns fs h.inner ≡ Some all →
    AreOrdered all
inside_written s ns fs phase h all e =
    written h.bottom (subst (Ends h.bottom s) e (whole_ends h.bottom s ns fs h.inner h.ordered
    h.shown))
  where
    written : (b : Bottom TypeOutside PartOutside) → IsAllAt b s all → AreOrdered all
    written (at_type w) a = a.ordered
    written (at_part q) a = a.ordered

pub readable_closed : (ns : List TypeTreeNode) (fs : List OpenConstruct) (around : Around) (phase : ParsePhase) →
    IsReadable ns fs (files.InType around phase) → (all : List TypeTreeNode) → whole_code ns fs phase
    ≡ Some all → AreOrdered all
readable_closed ns fs around phase r all e =
    let h = in_type_is ns fs around phase r.0 r.1 in
    let p : phase ≡ h.inner = cc in
    inside_written r.0 ns fs (files.InType around phase) h all
    (subst (λ q. whole_code ns fs q ≡ Some all) p e)

-- ---- in every state

outside_ends : (q : Outside) → EndsFile (accepted_outside q) (file_whole_code [] [] (phase_of q))
outside_ends (file_due gs) = (gs, refl, refl)
outside_ends (upper_read c x) = (
  closed_constr c (constr_with x no_arguments),
  refl,
  constr_ends c (constr_with x no_arguments),
)
outside_ends (record_read r t) = (closed_record r t, refl, record_ends r t)
outside_ends (decl_due g) = refl
outside_ends (param_due g b) = refl
outside_ends (param_read g b x) = refl
outside_ends (params_read g ps) = refl
outside_ends (name_read g ps x) = refl
outside_ends (body_due b) = refl
outside_ends (constr_due c) = refl
outside_ends (of_read c x) = refl
outside_ends (field_due r b) = refl
outside_ends (mutable_read r b) = refl
outside_ends (field_named r b mutable x) = refl

pub file_ends_follow : (s : FileState) (ns : List TypeTreeNode) (fs : List OpenConstruct) (phase : FilePhase) →
    file_shown ns fs phase s → EndsFile (file_accepted s) (file_whole_code ns fs phase)
file_ends_follow (outside q) ns fs phase h =
    subst (λ n. EndsFile (accepted_outside q) (file_whole_code n fs phase)) (sym h.0)
    (subst (λ f. EndsFile (accepted_outside q) (file_whole_code [] f phase)) (sym h.1)
    (subst (λ p. EndsFile (accepted_outside q) (file_whole_code [] [] p)) (sym h.2)
    (outside_ends q)))
file_ends_follow (due p) ns fs phase h = inside_ends (due p) ns fs phase h
file_ends_follow (read p a) ns fs phase h = inside_ends (read p a) ns fs phase h
file_ends_follow (name_due p ts t) ns fs phase h = inside_ends (name_due p ts t) ns fs phase h
file_ends_follow (tag_read p x) ns fs phase h = inside_ends (tag_read p x) ns fs phase h

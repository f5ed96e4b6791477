-- A step of the type parser, in the context of the type.
use Rattle.std.proofs.Common.{◌≡◌, List, Option, Result, sym, ap, subst}
use Rattle.types_lex.specs.declared.lexeme.LexemeKind.{LexemeKind}
use Rattle.types_parse.specs.grammar.File.{TypeOutside, PartOutside, Outside, file_due, decl_due, param_due, param_read, params_read, name_read, body_due, constr_due, upper_read, of_read, field_due, mutable_read, field_named, record_read, FileState, declarations}
use Rattle.types_parse.specs.grammar.Holes.{due, read, name_due, tag_read, outside, step as table_step}
use Rattle.types_spec.specs.types.TypeNodes.{AreOrdered}
use Rattle.types_spec.specs.declared.types.ty.TypeTreeNode.{TypeTreeNode}
use Rattle.types_parse.specs.declared.parse.open.OpenConstruct.{OpenConstruct}
use Rattle.types_parse.specs.declared.parse.open.ParsePhase.{ParsePhase}
use Rattle.types_parse.specs.declared.parse.open.TypeStep.{TypeStep}
use Rattle.types_parse.specs.declared.parse.open.TypeStep.TheVariants as steps
use Rattle.types_parse.specs.declared.parse.declarations_so_far.Around.{Around}
use Rattle.types_parse.specs.declared.parse.declarations_so_far.FilePhase.{FilePhase}
use Rattle.types_parse.specs.declared.parse.declarations_so_far.FilePhase.TheVariants as files
use Rattle.types_parse.specs.parse.TypeCode.{StepCode, step_code, StepIs}
use Rattle.types_parse.specs.parse.TypeShown.{Bottom, at_type, at_part}
use Rattle.types_parse.specs.parse.FileCode.{is_argument, in_type_code, after_step, FileSteps}
use Rattle.types_parse.specs.parse.FileShown.{phase_of, IsInType, file_shown, IsReadable, IfEnded}
use Rattle.types_parse.proofs.parse.ParserTypeLemmas.{EndsAt, Follows}
use Rattle.types_parse.proofs.parse.ParserFileLemmas.{inner_follows}

step_is : (step : TypeStep) (ns : List TypeTreeNode) (fs : List OpenConstruct) (c : StepCode) (around : Around)
    (kind : LexemeKind) → StepIs step ns fs c → after_step around kind fs step ns
    ≡ in_type_code around kind c
step_is (steps.Goes phase) ns fs c around kind h = ap (in_type_code around kind) (sym h)
step_is steps.Ended ns fs c around kind h = ap (in_type_code around kind) (sym h)
step_is steps.Stops ns fs c around kind h = ap (in_type_code around kind) (sym h)

pub steps_in_type : {E : Type 0} (result : Result (Option FilePhase) E) (step : TypeStep)
    (ns all : List TypeTreeNode) (fs : List OpenConstruct) (c : StepCode) (around : Around) (kind : LexemeKind) →
    StepIs step ns fs c → FileSteps result all fs (after_step around kind fs step ns) →
    FileSteps result all fs (in_type_code around kind c)
steps_in_type result step ns all fs c around kind h i = subst (FileSteps result all fs)
    (step_is step ns fs c around kind h) i

-- ---- if a type ends, its nodes are ordered

abbrev step_of : FileState → LexemeKind → Option FileState
step_of s kind = table_step declarations s kind

ends_written : (b : Bottom TypeOutside PartOutside) (next : Option FileState) (kind : LexemeKind)
    (ns : List TypeTreeNode) → EndsAt declarations b next kind ns → AreOrdered ns
ends_written (at_type w) next kind ns e = e.ordered
ends_written (at_part q) next kind ns e = e.ordered

inside_written : (ns : List TypeTreeNode) (fs : List OpenConstruct) (phase : FilePhase) (s : FileState)
    (h : IsInType ns fs phase s) (kind : LexemeKind) (step : TypeStep) (all : List TypeTreeNode)
    (frames : List OpenConstruct) → StepIs step all frames (step_code (is_argument h.around) ns fs h.inner
    kind) → IfEnded step all
inside_written ns fs phase s h kind (steps.Goes next) all frames i = tt
inside_written ns fs phase s h kind steps.Ended all frames i = let f =
    subst (Follows declarations h.bottom (step_of s kind) kind) i
    (inner_follows ns fs phase s kind h) in ends_written h.bottom (step_of s kind) kind all f.0
inside_written ns fs phase s h kind steps.Stops all frames i = tt

-- No phase outside of types is a phase inside a type.
never_in_type : (q : Outside) (around : Around) (phase : ParsePhase) → files.InType around phase
    ≡ phase_of q → ⊥
never_in_type (file_due gs) around phase e = absurd (cc)
never_in_type (decl_due g) around phase e = absurd (cc)
never_in_type (param_due g b) around phase e = absurd (cc)
never_in_type (param_read g b x) around phase e = absurd (cc)
never_in_type (params_read g ps) around phase e = absurd (cc)
never_in_type (name_read g ps x) around phase e = absurd (cc)
never_in_type (body_due b) around phase e = absurd (cc)
never_in_type (constr_due c) around phase e = absurd (cc)
never_in_type (upper_read c x) around phase e = absurd (cc)
never_in_type (of_read c x) around phase e = absurd (cc)
never_in_type (field_due r b) around phase e = absurd (cc)
never_in_type (mutable_read r b) around phase e = absurd (cc)
never_in_type (field_named r b mutable x) around phase e = absurd (cc)
never_in_type (record_read r t) around phase e = absurd (cc)

pub in_type_is : (ns : List TypeTreeNode) (fs : List OpenConstruct) (around : Around) (phase : ParsePhase)
    (s : FileState) → file_shown ns fs (files.InType around phase) s →
    IsInType ns fs (files.InType around phase) s
in_type_is ns fs around phase (outside q) h = absurd (never_in_type q around phase h.2)
in_type_is ns fs around phase (due p) h = h
in_type_is ns fs around phase (read p a) h = h
in_type_is ns fs around phase (name_due p ts t) h = h
in_type_is ns fs around phase (tag_read p x) h = h

pub readable_written : (ns : List TypeTreeNode) (fs : List OpenConstruct) (around : Around) (phase : ParsePhase) →
    IsReadable ns fs (files.InType around phase) → (kind : LexemeKind) (step : TypeStep)
    (all : List TypeTreeNode) (frames : List OpenConstruct) →
    StepIs step all frames (step_code (is_argument around) ns fs phase kind) → IfEnded step all
readable_written ns fs around phase r kind step all frames i =
    let h = in_type_is ns fs around phase r.0 r.1 in
    let a : around ≡ h.around = cc in
    let p : phase ≡ h.inner = cc in
    inside_written ns fs (files.InType around phase) r.0 h kind step all frames
    (subst (λ q. StepIs step all frames (step_code (is_argument h.around) ns fs q kind)) p
    (subst (λ x. StepIs step all frames (step_code (is_argument x) ns fs phase kind)) a i))

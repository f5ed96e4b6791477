-- The loop over the lexemes of a type.
use Rattle.std.proofs.Common.{ℕ, suc, ◌≡◌, ◌≤◌, ◌<◌, ◌⊎◌, ◌∙◌, false, List, [], ◌∷◌, ◌++◌, length, take, Some, None, refl, ap, subst}
use Rattle.types_lex.specs.declared.lexeme.LexemeKind.{LexemeKind}
use Rattle.types_parse.specs.grammar.Grammar.{Kinds, texpr}
use Rattle.types_parse.specs.grammar.Depths.{texpr_ends}
use Rattle.types_parse.specs.grammar.Refusals.{opened, IsTooDeep, IsRefusedAsSyntax}
use Rattle.types_parse.specs.grammar.Holes.{whole, first_part, next_part, alone, read, step, outside}
use Rattle.types_parse.specs.grammar.Alone.{End, end, Nowhere, TypeState, types, type_accepted}
use Rattle.types_parse.proofs.grammar.AloneTable.{type_table, accepts}
use Rattle.types_parse.proofs.grammar.TypeGrammarReachedLemmas.{Reached, Moved, reached_first, refused_syntax, refused_end, read_whole, refused_deep, reached_next}
use Rattle.types_spec.specs.types.TypeNodes.{type_of, AreOrdered}
use Rattle.types_spec.proofs.types.TypeNodeLemmas.{AreOrdered-none}
use Rattle.types_spec.specs.declared.types.ty.TypeTreeNode.{TypeTreeNode}
use Rattle.types_parse.specs.parse.WrittenTrees.{type_of_texpr}
use Rattle.types_parse.specs.parse.Parsed.{IsTypeOf}
use Rattle.types_parse.specs.declared.parse.open.OpenConstruct.{OpenConstruct}
use Rattle.types_parse.specs.declared.parse.open.ParsePhase.{ParsePhase}
use Rattle.types_parse.specs.declared.parse.open.ParsePhase.TheVariants as phases
use Rattle.types_parse.specs.declared.parse.open.TypeStep.{TypeStep}
use Rattle.types_parse.specs.declared.parse.open.TypeStep.TheVariants as steps
use Rattle.types_parse.specs.parse.TypeCode.{StepCode, step_code, depth_code, whole_code, StepIs}
use Rattle.types_parse.specs.parse.TypeShown.{Bottom, at_type, type_shown}
use Rattle.types_parse.proofs.parse.ParserTypeLemmas.{Follows, step_follows, depth_follows}
use Rattle.types_parse.proofs.parse.ParserWholeLemmas.{may_end, Ends, whole_ends}

abbrev bottom : Bottom End Nowhere
bottom = at_type end

-- The nodes, frames and phase represent the state `s`, and the nodes are ordered.
pub record IsShown (ns : List TypeTreeNode) (fs : List OpenConstruct) (phase : ParsePhase) (s : TypeState) : Type 0 where
  pub shown : type_shown (at_type end) ns fs phase s
  pub ordered : AreOrdered ns

abbrev pub TypeReached : Kinds → List TypeTreeNode → List OpenConstruct → ParsePhase → ℕ → ℕ → Type 0
TypeReached lexemes ns fs phase count position = Reached type_table lexemes (IsShown ns fs phase) count
    position

pub type_reached_first : (lexemes : Kinds) → TypeReached lexemes [] [] phases.Due 0 0
type_reached_first lexemes = reached_first type_table lexemes (IsShown [] [] phases.Due)
    (record { shown = refl; ordered = AreOrdered-none })

-- If the code continues, then the table continues.
goes_on : (s : TypeState) (kind : LexemeKind) (field : TypeStep) (next : ParsePhase) (ns : List TypeTreeNode)
    (fs : List OpenConstruct) (code : StepCode) → field ≡ steps.Goes next → StepIs field ns fs code →
    Follows types (at_type end) (step types s kind) kind code →
    Moved (step types) (IsShown ns fs next) kind s
goes_on s kind field next ns fs code e i f =
    let g = subst (λ x. StepIs x ns fs code) e i in
    let h = subst (λ c. Follows types (at_type end) (step types s kind) kind c) g f in
    record {
      next = h.state;
      moved = h.goes_to;
      shown =
          record { shown = h.shown; ordered = h.ordered };
    }

-- If the code fails, then the table fails.
stops_here : (s : TypeState) (kind : LexemeKind) (field : TypeStep) (ns : List TypeTreeNode) (fs : List OpenConstruct)
    (code : StepCode) → ((next : ParsePhase) → field ≡ steps.Goes next → ⊥) → StepIs field ns fs code →
    Follows types (at_type end) (step types s kind) kind code → step types s kind ≡ None
stops_here s kind (steps.Goes next) ns fs code n i f = absurd (n next refl)
stops_here s kind steps.Ended ns fs code n i f = let h =
    subst (λ c. Follows types (at_type end) (step types s kind) kind c) i f in h.0.next_is
stops_here s kind steps.Stops ns fs code n i f =
    subst (λ c. Follows types (at_type end) (step types s kind) kind c) i f

none_accepted : (s : TypeState) → may_end s ≡ false → type_accepted s ≡ None
none_accepted (read (first_part (whole w)) a) h = absurd (cc)
none_accepted (read (next_part (whole w) t) a) h = absurd (cc)
none_accepted (read (alone q) a) h = absurd (cc)
none_accepted (outside q) h = absurd (cc)
none_accepted s h = refl

module _ {lexemes : Kinds} {ns : List TypeTreeNode} {fs : List OpenConstruct} {phase : ParsePhase} {count position : ℕ}
    (here : TypeReached lexemes ns fs phase count position) where
  pub type_end_refused : length lexemes ≤ position → whole_code ns fs phase ≡ None →
      IsRefusedAsSyntax texpr texpr_ends lexemes position
  type_end_refused h e = refused_end type_table lexemes here h
      (λ s shown. none_accepted s (subst (Ends bottom s) e
      (whole_ends bottom s ns fs phase shown.ordered shown.shown)))

  pub type_written : (all : List TypeTreeNode) → whole_code ns fs phase ≡ Some all → AreOrdered all
  type_written all e = let w = subst (Ends bottom here.state) e (whole_ends bottom here.state ns fs
      phase here.shown.ordered here.shown.shown) in w.ordered

  pub type_is_read : (all : List TypeTreeNode) → length lexemes ≤ position → whole_code ns fs phase
      ≡ Some all → IsTypeOf lexemes (type_of all)
  type_is_read all h e =
      let found = read_whole type_table lexemes here (λ t. type_of all ≡ type_of_texpr t) h
      (λ s shown.
      let w = subst (Ends bottom s) e (whole_ends bottom s ns fs phase shown.ordered
      shown.shown) in
      (w.type, ap type_accepted w.state_is ∙ accepts w.type, w.type_is)) in
      record { tree = found.0; reads = found.1; stands = found.2 }

  module _ (kind : LexemeKind) (h : position < length lexemes) (e : take (suc position) lexemes
      ≡ take position lexemes ++ kind ∷ []) where
    follows : (s : TypeState) → IsShown ns fs phase s → Follows types (at_type end)
        (step types s kind) kind (step_code false ns fs phase kind)
    follows s shown = step_follows types bottom s ns fs phase kind shown.ordered shown.shown

    pub type_syntax : (field : TypeStep) (all : List TypeTreeNode) (frames : List OpenConstruct) →
        ((next : ParsePhase) → field ≡ steps.Goes next → ⊥) →
        StepIs field all frames (step_code false ns fs phase kind) →
        IsRefusedAsSyntax texpr texpr_ends lexemes position
    type_syntax field all frames n i = refused_syntax type_table lexemes here kind h e
        (λ s shown. stops_here s kind field all frames (step_code false ns fs phase kind) n i
        (follows s shown))

    module _ (field : TypeStep) (next : ParsePhase) (all : List TypeTreeNode) (frames : List OpenConstruct)
        (g : field ≡ steps.Goes next) (i : StepIs field all frames
        (step_code false ns fs phase kind)) where
      moves : (s : TypeState) → IsShown ns fs phase s → Moved (step types) (IsShown all frames next)
          kind s
      moves s shown = goes_on s kind field next all frames (step_code false ns fs phase kind) g i
          (follows s shown)

      pub type_too_deep : (200 < opened kind count) ⊎ (200 < depth_code frames next) →
          IsTooDeep texpr texpr_ends lexemes position
      type_too_deep d = refused_deep type_table lexemes here kind h e moves (depth_code frames next)
          (λ s shown. depth_follows types bottom s all frames next shown.shown) d

      pub type_reached_next : opened kind count ≤ 200 → depth_code frames next ≤ 200 →
          TypeReached lexemes all frames next (opened kind count) (suc position)
      type_reached_next few low = reached_next type_table lexemes here kind h e moves
          (depth_code frames next) (λ s shown. depth_follows types bottom s all frames next
          shown.shown) few low

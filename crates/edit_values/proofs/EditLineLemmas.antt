-- The lines of a script have at most one answer for each list of earlier values. Answers to a line
-- by the numbers of a table correspond to answers by the types.
use Rattle.std.proofs.Common.{ℕ, ◌≡◌, ◌∙◌, List, [], ◌∷◌, Option, Some, Ok, Err, sym, subst}
use Rattle.std.specs.Prelude.{slice_get}
use Rattle.base_data.specs.declared.model.value.Val.{Val}
use Rattle.base_data.specs.declared.model.value.Obj.{Obj}
use Rattle.types_spec.specs.declared.types.decl.Decl.{Decl}
use Rattle.types_spec.specs.declared.types.fault.Fault.{Fault}
use Rattle.types_spec.specs.declared.types.names.Names.{Names}
use Rattle.types_spec.specs.declared.types.shape.ShapeOf.{ShapeOf}
use Rattle.types_spec.specs.types.Fault.{IsFault}
use Rattle.types_spec.specs.types.Fitting.{shaped}
use Rattle.types_spec.specs.types.Ty.{Ty}
use Rattle.types_spec.specs.types.Typing.{HasType}
use Rattle.types_table.specs.declared.type_table.tabled.Tabled.{Tabled}
use Rattle.types_table.specs.type_table.Made.{IsTypeTable}
use Rattle.text_path.specs.declared.edits.Action.{Action}
use Rattle.text_path.specs.declared.edits.Action.TheVariants as actions
use Rattle.text_path.specs.declared.edits.ScriptLine.{ScriptLine}
use Rattle.edit_values.specs.EditedLines.{IsLineAnswer, IsContinued, AreEdited}
use Rattle.edit_values.specs.EditedValues.{EditAnswer, Edited}
use Rattle.edit_values.specs.Grafts.{Other, IsGraftAnswer}
use Rattle.edit_values.specs.LineLaws.{IsDeclaredLine, IsLineAnswerIn}
use Rattle.edit_values.specs.Laws.{SayTheSame}
use Rattle.edit_values.proofs.EditAgreeLemmas.{answer_agree}
use Rattle.edit_values.proofs.GraftAnswers.{grafts_once, graft_answer_agree}
use Rattle.edit_values.proofs.EditMadeLemmas.{answer_once}

module _ {T : Type 0} (shape : T → ShapeOf T) (names : T → Names) (Equal : T → T → Type 0) (t : T) (others : List Other)
    (never_both : (graph : List Obj) (v : Val) (fault : Fault) → IsFault (shaped shape Equal) graph v t fault → HasType (shaped shape Equal) graph v t → ⊥) where
  one_other : (number : ℕ) (other second : Other) → slice_get others number ≡ Some other → slice_get others number ≡ Some second → second ≡ other
  one_other number other second is its =
      let same : ◌≡◌ {A = Option Other} (Some second) (Some other) = sym its ∙ is in cc same

  line_once : (action : Action) (graph : List Obj) (root : Val) (answer other : EditAnswer T)
      → IsLineAnswer shape names Equal t others action graph root answer → IsLineAnswer shape names Equal t others action graph root other → answer ≡ other
  line_once (actions.Edit edit) graph root answer other is its = answer_once shape names Equal t never_both edit graph root answer other is its
  line_once (actions.Graft path number source) graph root answer other (from, at, is) (second, at', its) =
      grafts_once shape names Equal t path from source graph root never_both answer other is
      (subst (λ (o : Other). IsGraftAnswer shape Equal t path o source graph root other) (one_other number from second at at') its)

  continued_once : (number : ℕ) (Rest : List Obj → Val → Edited T → Type 0)
      → ((graph : List Obj) (root : Val) (all other : Edited T) → Rest graph root all → Rest graph root other → all ≡ other)
      → (first : EditAnswer T) (all other : Edited T) → IsContinued shape names Equal t others number Rest first all → IsContinued shape names Equal t others number Rest first other
      → all ≡ other
  continued_once number Rest once (Ok edited) all other one two = once edited.0 edited.1 all other one two
  continued_once number Rest once (Err reason) all other one two = one ∙ sym two

  pub edited_once : (lines : List ScriptLine) (graph : List Obj) (root : Val) (all other : Edited T)
      → AreEdited shape names Equal t others lines graph root all → AreEdited shape names Equal t others lines graph root other → all ≡ other
  edited_once [] graph root all other one two = one ∙ sym two
  edited_once (line ∷ lines) graph root all other (first, is, on) (second, its, after) =
      continued_once line.number (AreEdited shape names Equal t others lines) (edited_once lines) first all other on
      (subst (λ a. IsContinued shape names Equal t others line.number (AreEdited shape names Equal t others lines) a other)
      (line_once line.action graph root second first its is) after)

-- ---- answers by a table correspond to answers by its types

pub line_answer_agree : (decls : List Decl) (t : Ty) (table : Tabled) → IsTypeTable decls t table → (others : List Other) (action : Action) (graph : List Obj) (root : Val) (answer : EditAnswer ℕ)
    → IsLineAnswerIn table others action graph root answer
    → (declared : EditAnswer Ty) × IsDeclaredLine decls t others action graph root declared × SayTheSame table answer declared
line_answer_agree decls t table is others (actions.Edit edit) graph root answer known = answer_agree decls t table is edit graph root answer known
line_answer_agree decls t table is others (actions.Graft path number source) graph root answer (other, at, known) =
    let same = graft_answer_agree decls t table is path other source graph root answer known in
    (same.0, (other, at, same.1), same.2)

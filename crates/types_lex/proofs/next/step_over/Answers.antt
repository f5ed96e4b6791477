use Rattle.std.proofs.Common.{Ok, drop, ap, arith, ◌∙◌}
use Rattle.std.proofs.lemmas.List.{take_rest}
use Rattle.types_lex.specs.declared.found_lexeme.LexStep.{LexStep}
use Rattle.types_lex.specs.declared.found_lexeme.LexStep.TheVariants as steps
use Rattle.types_lex.proofs.FaultLaws.{IsPartAt}
use Rattle.types_lex.proofs.PartLaws.{step_lexemes, reached_more, reached_further, part_here, known_inside, known_fault}
use Rattle.types_lex.proofs.next.step_over.Goals as goal
use Rattle.types_lex.proofs.next.step_over.Goals.{In-Ok-Gap, In-Ok-Word}

gap_here : (c : In-Ok-Gap) → IsPartAt (drop c.args.at c.args.text.now) (steps.Gap c.in-Ok-Gap.len)
gap_here c = part_here c.args.text.now c.args.at (steps.Gap c.in-Ok-Gap.len) c.requires (rw take_rest at c.in-Ok-Gap.ensures ∙ ap (λ (s : LexStep). Ok s) c.in-Ok-Gap.field-0-is)

word_here : (c : In-Ok-Word) → IsPartAt (drop c.args.at c.args.text.now) (steps.Word c.in-Ok-Word.word)
word_here c = part_here c.args.text.now c.args.at (steps.Word c.in-Ok-Word.word) c.requires (rw take_rest at c.in-Ok-Word.ensures ∙ ap (λ (s : LexStep). Ok s) c.in-Ok-Word.field-0-is)

pub overflow_add-result : goal.overflow_add-result
overflow_add-result c = omega (arith, (reached_further c.args.text.now c.args.at _ (omega (arith, c.requires)) (gap_here c)).1)

pub overflow_add-result-in-Ok-Word : goal.overflow_add-result-in-Ok-Word
overflow_add-result-in-Ok-Word c = omega (arith, (reached_further c.args.text.now c.args.at _ (omega (arith, c.requires)) (word_here (goal.at.overflow_add-result-in-Ok-Word c).In-Ok-Word)).1)

pub returns-in-Ok-Gap : goal.returns-in-Ok-Gap
returns-in-Ok-Gap c = record {
  over = λ prefix r. (step_lexemes c.args.at (steps.Gap c.in-Ok-Gap.len), reached_more c.args.text.now c.args.at prefix (steps.Gap c.in-Ok-Gap.len) r (gap_here c));
  end = let on = reached_further c.args.text.now c.args.at _ (omega (arith, c.requires)) (gap_here c) in (omega (arith, on.0), on.1);
}

pub returns-in-Ok-Word : goal.returns-in-Ok-Word
returns-in-Ok-Word c = record {
  over = λ prefix r. (step_lexemes c.args.at (steps.Word c.in-Ok-Word.word), reached_more c.args.text.now c.args.at prefix (steps.Word c.in-Ok-Word.word) r (word_here (goal.at.returns-in-Ok-Word c).In-Ok-Word));
  end = let on = reached_further c.args.text.now c.args.at _ (omega (arith, c.requires)) (word_here (goal.at.returns-in-Ok-Word c).In-Ok-Word) in (omega (arith, on.0), on.1);
}

pub moved-requires : goal.moved-requires
moved-requires c = omega (arith, known_inside c.args.text.now c.args.at c.in-Err.fault c.requires (rw take_rest at c.in-Err.ensures))

pub returns-in-Err-clause-over : goal.returns-in-Err-clause-over
returns-in-Err-clause-over c prefix r =
    rw c.moved.ensures (known_fault c.args.text.now c.args.at prefix c.in-Err.fault r c.requires (rw take_rest at c.in-Err.ensures))

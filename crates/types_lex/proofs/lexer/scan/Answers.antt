use Rattle.std.proofs.Common.{◌+◌, Ok, drop, sym, ap, subst, ◌∙◌, arith}
use Rattle.std.proofs.lemmas.List.{take_rest, append-nil}
use Rattle.types_lex.specs.declared.found_lexeme.LexStep.{LexStep}
use Rattle.types_lex.specs.declared.found_lexeme.LexStep.TheVariants as steps
use Rattle.types_lex.proofs.FaultLaws.{IsPartAt}
use Rattle.types_lex.specs.Lexemes.{Reached}
use Rattle.types_lex.proofs.PartLaws.{reached_more, reached_further, part_here, known_inside, known_fault, goes_down}
use Rattle.types_lex.proofs.lexer.scan.Goals as goal
use Rattle.types_lex.proofs.lexer.scan.Goals.{In-Ok-Gap, In-Ok-Word}

gap_here : (c : In-Ok-Gap) → IsPartAt (drop c.loop-at.at c.args.text.now) (steps.Gap c.in-Ok-Gap.len)
gap_here c = part_here c.args.text.now c.loop-at.at (steps.Gap c.in-Ok-Gap.len) c.loop-at-test.true (rw take_rest at c.in-Ok-Gap.ensures ∙ ap (λ (s : LexStep). Ok s) c.in-Ok-Gap.field-0-is)

word_here : (c : In-Ok-Word) → IsPartAt (drop c.loop-at.at c.args.text.now) (steps.Word c.in-Ok-Word.word)
word_here c = part_here c.args.text.now c.loop-at.at (steps.Word c.in-Ok-Word.word) c.loop-at-test.true (rw take_rest at c.in-Ok-Word.ensures ∙ ap (λ (s : LexStep). Ok s) c.in-Ok-Word.field-0-is)

pub overflow_add-at : goal.overflow_add-at
overflow_add-at c = omega (arith, (reached_further c.args.text.now c.loop-at.at _ c.loop-at.invariant.inside (gap_here c)).1)

pub loop-at-smaller-in-Ok-Gap : goal.loop-at-smaller-in-Ok-Gap
loop-at-smaller-in-Ok-Gap c = goes_down c.args.text.now c.loop-at.at c.in-Ok-Gap.len (reached_further c.args.text.now c.loop-at.at _ c.loop-at.invariant.inside (gap_here c))

pub loop-at-preserved-in-Ok-Gap : goal.loop-at-preserved-in-Ok-Gap
loop-at-preserved-in-Ok-Gap c =
    subst (λ l. Reached c.args.text.now (c.loop-at.at + c.in-Ok-Gap.len) l) (append-nil c.loop-at.lexemes.items)
    (reached_more c.args.text.now c.loop-at.at c.loop-at.lexemes.items (steps.Gap c.in-Ok-Gap.len) c.loop-at.invariant (gap_here c))

pub overflow_add-at-in-Ok-Word : goal.overflow_add-at-in-Ok-Word
overflow_add-at-in-Ok-Word c = omega (arith, (reached_further c.args.text.now c.loop-at.at _ c.loop-at.invariant.inside (word_here (goal.at.overflow_add-at-in-Ok-Word c).In-Ok-Word)).1)

pub loop-at-smaller : goal.loop-at-smaller
loop-at-smaller c = goes_down c.args.text.now c.loop-at.at c.in-Ok-Word.word.len (reached_further c.args.text.now c.loop-at.at _ c.loop-at.invariant.inside (word_here (goal.at.loop-at-smaller c).In-Ok-Word))

pub loop-at-preserved : goal.loop-at-preserved
loop-at-preserved c =
    subst (λ l. Reached c.args.text.now (c.loop-at.at + c.in-Ok-Word.word.len) l) (sym c.in_ok-push-in-Ok-Word.ensures.items)
    (reached_more c.args.text.now c.loop-at.at c.loop-at.lexemes.items (steps.Word c.in-Ok-Word.word) c.loop-at.invariant (word_here (goal.at.loop-at-preserved c).In-Ok-Word))

pub moved-requires : goal.moved-requires
moved-requires c = omega (arith, known_inside c.args.text.now c.loop-at.at c.in-Err.fault c.loop-at-test.true (rw take_rest at c.in-Err.ensures))

pub returns-in-Err-clause-fault : goal.returns-in-Err-clause-fault
returns-in-Err-clause-fault c = rw c.moved.ensures (known_fault c.args.text.now c.loop-at.at c.loop-at.lexemes.items c.in-Err.fault c.loop-at.invariant c.loop-at-test.true (rw take_rest at c.in-Err.ensures))

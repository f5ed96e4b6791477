use Rattle.std.proofs.Common.{◌+◌, ◌≡◌, Ok, length, drop, ap, subst, arith, ◌∙◌}
use Rattle.std.proofs.lemmas.List.{take_rest, append-nil}
use Rattle.types_lex.specs.declared.found_lexeme.LexStep.{LexStep}
use Rattle.types_lex.specs.declared.found_lexeme.LexStep.TheVariants as steps
use Rattle.types_lex.specs.Lexemes.{lexeme_in, Reached}
use Rattle.types_lex.proofs.FaultLaws.{IsPartAt}
use Rattle.types_lex.proofs.PartLaws.{reached_more, reached_further, part_here, known_inside, known_fault, goes_down}
use Rattle.types_lex.proofs.next.next_lexeme.Goals as goal
use Rattle.types_lex.proofs.next.next_lexeme.Goals.{In-Ok-Gap, In-Ok-Word}

gap_here : (c : In-Ok-Gap) → IsPartAt (drop c.loop-at.at c.args.text.now) (steps.Gap c.in-Ok-Gap.len)
gap_here c = part_here c.args.text.now c.loop-at.at (steps.Gap c.in-Ok-Gap.len) c.loop-at-test.true (rw take_rest at c.in-Ok-Gap.ensures ∙ ap (λ (s : LexStep). Ok s) c.in-Ok-Gap.field-0-is)

word_here : (c : In-Ok-Word) → IsPartAt (drop c.loop-at.at c.args.text.now) (steps.Word c.in-Ok-Word.word)
word_here c = part_here c.args.text.now c.loop-at.at (steps.Word c.in-Ok-Word.word) c.loop-at-test.true (rw take_rest at c.in-Ok-Word.ensures ∙ ap (λ (s : LexStep). Ok s) c.in-Ok-Word.field-0-is)

pub overflow_add-at : goal.overflow_add-at
overflow_add-at c = omega (arith, (reached_further c.args.text.now c.loop-at.at _ c.loop-at.invariant.1 (gap_here c)).1)

pub loop-at-smaller : goal.loop-at-smaller
loop-at-smaller c = goes_down c.args.text.now c.loop-at.at c.in-Ok-Gap.len (reached_further c.args.text.now c.loop-at.at _ c.loop-at.invariant.1 (gap_here c))

pub loop-at-preserved : goal.loop-at-preserved
loop-at-preserved c = (
  omega (arith, c.loop-at.invariant.0),
  (reached_further c.args.text.now c.loop-at.at _ c.loop-at.invariant.1 (gap_here c)).1,
  λ prefix r.
      subst (λ l. Reached c.args.text.now (c.loop-at.at + c.in-Ok-Gap.len) l) (append-nil prefix)
      (reached_more c.args.text.now c.loop-at.at prefix (steps.Gap c.in-Ok-Gap.len) (c.loop-at.invariant.2 prefix r) (gap_here c)),
)

pub returns-in-Ok-Word-clause-next : goal.returns-in-Ok-Word-clause-next
returns-in-Ok-Word-clause-next c prefix r =
    reached_more c.args.text.now c.loop-at.at prefix (steps.Word c.in-Ok-Word.word) (c.loop-at.invariant.2 prefix r) (word_here c)

pub returns-in-Ok-Word-clause-position : goal.returns-in-Ok-Word-clause-position
returns-in-Ok-Word-clause-position c =
    let on = reached_further c.args.text.now c.loop-at.at _ c.loop-at.invariant.1 (word_here c) in record {
      onward = omega (arith, c.loop-at.invariant.0, on.0);
      within = on.1;
      behind = c.loop-at.invariant.0;
      is = ap (lexeme_in c.loop-at.at) (rw take_rest at c.in-Ok-Word.ensures ∙ ap (λ (s : LexStep). Ok s) c.in-Ok-Word.field-0-is);
    }

pub moved-requires : goal.moved-requires
moved-requires c = omega (arith, known_inside c.args.text.now c.loop-at.at c.in-Err.fault c.loop-at-test.true (rw take_rest at c.in-Err.ensures))

pub returns-in-Err-clause-next : goal.returns-in-Err-clause-next
returns-in-Err-clause-next c prefix r =
    rw c.moved.ensures (known_fault c.args.text.now c.loop-at.at prefix c.in-Err.fault (c.loop-at.invariant.2 prefix r) c.loop-at-test.true (rw take_rest at c.in-Err.ensures))

pub returns-clause-next : goal.returns-clause-next
returns-clause-next c prefix r =
    let end : c.loop-at.at ≡ length c.args.text.now = omega (arith, c.loop-at-test.false, c.loop-at.invariant.1) in
    subst (λ n. Reached c.args.text.now n prefix) end (c.loop-at.invariant.2 prefix r)

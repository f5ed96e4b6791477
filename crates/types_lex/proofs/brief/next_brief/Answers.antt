use Rattle.std.proofs.Common.{◌+◌, ◌≡◌, Ok, length, drop, subst, arith}
use Rattle.std.proofs.lemmas.List.{take_rest, append-nil}
use Rattle.types_lex.specs.declared.found_lexeme.LexStep.{LexStep}
use Rattle.types_lex.specs.declared.found_lexeme.LexStep.TheVariants as steps
use Rattle.types_lex.specs.Brief.{StepsBrief}
use Rattle.types_lex.specs.Lexemes.{Reached}
use Rattle.types_lex.specs.Lexer.{step_at}
use Rattle.types_lex.proofs.BriefLaws.{Full, word_full, full_span, full_kind, full_reached}
use Rattle.types_lex.proofs.FaultLaws.{IsPartAt}
use Rattle.types_lex.proofs.PartLaws.{reached_more, reached_further, part_here, known_inside, known_fault, goes_down}
use Rattle.types_lex.proofs.brief.next_brief.Goals as goal
use Rattle.types_lex.proofs.brief.next_brief.Goals.{In-Ok-Gap, In-Ok-Word}

gap_here : (c : In-Ok-Gap) → IsPartAt (drop c.loop-at.at c.args.text.now) (steps.Gap c.in-Ok-Gap.len)
gap_here c =
    part_here c.args.text.now c.loop-at.at (steps.Gap c.in-Ok-Gap.len) c.loop-at-test.true
    (subst (λ (s : LexStep). StepsBrief (Ok s) (step_at (drop c.loop-at.at c.args.text.now))) c.in-Ok-Gap.field-0-is (rw take_rest at c.in-Ok-Gap.ensures))

full : (c : In-Ok-Word) → Full c.in-Ok-Word.word (step_at (drop c.loop-at.at c.args.text.now))
full c =
    word_full c.in-Ok-Word.word (step_at (drop c.loop-at.at c.args.text.now))
    (subst (λ (s : LexStep). StepsBrief (Ok s) (step_at (drop c.loop-at.at c.args.text.now))) c.in-Ok-Word.field-0-is (rw take_rest at c.in-Ok-Word.ensures))

word_here : (c : In-Ok-Word) → IsPartAt (drop c.loop-at.at c.args.text.now) (steps.Word (full c).full)
word_here c = part_here c.args.text.now c.loop-at.at (steps.Word (full c).full) c.loop-at-test.true (full c).is

pub overflow_add-at : goal.overflow_add-at
overflow_add-at c = omega (arith, (reached_further c.args.text.now c.loop-at.at _ c.loop-at.invariant.1 (gap_here c)).1)

pub loop-at-smaller : goal.loop-at-smaller
loop-at-smaller c = goes_down c.args.text.now c.loop-at.at c.in-Ok-Gap.len (reached_further c.args.text.now c.loop-at.at _ c.loop-at.invariant.1 (gap_here c))

pub loop-at-preserved : goal.loop-at-preserved
loop-at-preserved c = (
  omega (arith, c.loop-at.invariant.0),
  (reached_further c.args.text.now c.loop-at.at _ c.loop-at.invariant.1 (gap_here c)).1,
  λ prefix r.
      subst (λ l. Reached c.args.text.now (c.loop-at.at + c.in-Ok-Gap.len) l) (append-nil prefix)
      (reached_more c.args.text.now c.loop-at.at prefix (steps.Gap c.in-Ok-Gap.len) (c.loop-at.invariant.2 prefix r) (gap_here c)),
)

pub returns-in-Ok-Word-clause-next : goal.returns-in-Ok-Word-clause-next
returns-in-Ok-Word-clause-next c prefix r =
    full_reached c.args.text.now c.loop-at.at c.in-Ok-Word.word (full c) prefix
    (reached_more c.args.text.now c.loop-at.at prefix (steps.Word (full c).full) (c.loop-at.invariant.2 prefix r) (word_here c))

pub returns-in-Ok-Word-clause-position : goal.returns-in-Ok-Word-clause-position
returns-in-Ok-Word-clause-position c =
    let on = reached_further c.args.text.now c.loop-at.at _ c.loop-at.invariant.1 (word_here c) in record {
      onward = omega (arith, c.loop-at.invariant.0, on.0, (full c).len);
      within = omega (arith, on.1, (full c).len);
      behind = c.loop-at.invariant.0;
      span = full_span c.args.text.now c.loop-at.at c.in-Ok-Word.word (full c);
      kind = full_kind c.args.text.now c.loop-at.at c.in-Ok-Word.word (full c);
    }

pub moved-requires : goal.moved-requires
moved-requires c = omega (arith, known_inside c.args.text.now c.loop-at.at c.in-Err.fault c.loop-at-test.true (rw take_rest at c.in-Err.ensures))

pub returns-in-Err-clause-next : goal.returns-in-Err-clause-next
returns-in-Err-clause-next c prefix r =
    rw c.moved.ensures (known_fault c.args.text.now c.loop-at.at prefix c.in-Err.fault (c.loop-at.invariant.2 prefix r) c.loop-at-test.true (rw take_rest at c.in-Err.ensures))

pub returns-clause-next : goal.returns-clause-next
returns-clause-next c prefix r =
    let end : c.loop-at.at ≡ length c.args.text.now = omega (arith, c.loop-at-test.false, c.loop-at.invariant.1) in
    subst (λ n. Reached c.args.text.now n prefix) end (c.loop-at.invariant.2 prefix r)

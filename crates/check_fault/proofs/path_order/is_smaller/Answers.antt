use Rattle.std.proofs.Common.{◌<◌, ◌≡◌, length, get_or, sym, ◌∙◌, subst, arith}
use Rattle.std.proofs.lemmas.Bool.{false≢true, ltb-true, lt-ltb}
use Rattle.check_fault.proofs.FaultOrderLemmas.{lexical_at, lexical_never}
use Rattle.check_fault.proofs.path_order.is_smaller.Goals as goal

pub returns-then-step : goal.returns-then-step
returns-then-step c =
    let first = c.args.first.now in
    let second = c.args.second.now in
    let i = c.loop-i.i in
    let a = c.step-then-step.result in
    let b = c.step-then-step-2.result in
    let within : i < length first = omega arith in
    let other = λ (same : get_or first i 0 ≡ get_or second i 0).
    c.if-step.true (c.step.ensures ∙ same ∙ sym c.step-in-loop-i.ensures) in
    let lex = lexical_at first second i c.requires c.loop-i.invariant within other in (
      λ less. lex.0 (subst (λ n. n < get_or second i 0) c.step-then-step.ensures
          (subst (λ n. a < n) c.step-then-step-2.ensures (ltb-true a b less))),
      λ is. lt-ltb a b (subst (λ n. n < b) (sym c.step-then-step.ensures)
          (subst (λ n. get_or first i 0 < n) (sym c.step-then-step-2.ensures) (lex.1 is))),
    )

pub returns : goal.returns
returns c =
    let first = c.args.first.now in
    let second = c.args.second.now in (
      λ never. absurd (false≢true never),
      λ lex. absurd (lexical_never first second c.requires (λ k within. c.loop-i.invariant k (omega arith)) lex),
    )

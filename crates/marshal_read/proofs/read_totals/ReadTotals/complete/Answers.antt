use Rattle.std.proofs.Common.{rules, arith, ◌≡◌, ◌<◌, ◌^◌, None, ltb, le_refl, le-ltb, sym, subst}
use Rattle.std.proofs.lemmas.Grind.{common_steps}
use Rattle.std.specs.Prelude.{IsErr, IfOk}
use Rattle.std.specs.Option.{ForSome}
use Rattle.marshal_spec.specs.format.Words.{of_object, fields, words32, words64}
use Rattle.marshal_spec.specs.format.Step.{Context}
use Rattle.marshal_codec.specs.headers.Counting.{IsCountable}
use Rattle.marshal_codec.specs.token.RemainingSteps.{reference_refusal, closing}
use Rattle.marshal_read.specs.Totals.{AreTotals, AreFew, context_of, moved}
use Rattle.marshal_read.specs.Progress.{answered, of_refusal, progress}
use Rattle.marshal_read.proofs.TotalsLemmas.{once_passed, once_failed, not_passed}
use Rattle.marshal_read.proofs.read_totals.ReadTotals.complete.Goals as goal

pub finish-requires-clause-some : goal.finish-requires-clause-some
finish-requires-clause-some c = c.requires.sized.some

pub finish-requires-clause-room : goal.finish-requires-clause-room
finish-requires-clause-room c = c.requires.sized.room

pub finish-requires-clause-small : goal.finish-requires-clause-small
finish-requires-clause-small c = subst (λ m. of_object fields m < 2 ^ 60) (sym c.measure_of.ensures.measured) c.requires.sized.small

pub finish-requires-clause-countable : goal.finish-requires-clause-countable
finish-requires-clause-countable c = subst (λ m. ForSome m IsCountable) (sym c.measure_of.ensures.measured) c.requires.sized.countable

pub finish-requires-clause-few32 : goal.finish-requires-clause-few32
finish-requires-clause-few32 c = subst (λ m. AreFew words32 m c.args.n) (sym c.measure_of.ensures.measured) c.requires.sized.few32

pub finish-requires-clause-few64 : goal.finish-requires-clause-few64
finish-requires-clause-few64 c = subst (λ m. AreFew words64 m c.args.n) (sym c.measure_of.ensures.measured) c.requires.sized.few64

pub returns-in_err-pass-clause-steps : goal.returns-in_err-pass-clause-steps
returns-in_err-pass-clause-steps c =
    let c' : Context = context_of c.args.self.now in
    let n = c.args.n in
    let stop : IsErr c.from_residual.result = search rules in
    let known : answered c.from_residual.result ≡ of_refusal c.reference_refusal.result = search rules in
    once_failed (ltb n n) (reference_refusal c' c.args.summary) c.reference_refusal.result (answered c.from_residual.result) _ (le-ltb n n (le_refl n)) c.reference_refusal.ensures known (not_passed c.from_residual.result stop)

pub returns-clause-steps : goal.returns-clause-steps
returns-clause-steps c =
    let c' : Context = context_of c.args.self.now in
    let n = c.args.n in
    let none : reference_refusal c' c.args.summary ≡ None = grind (arith, common_steps) in
    once_passed (ltb n n) (reference_refusal c' c.args.summary) (answered c.finish.result) _ (le-ltb n n (le_refl n)) none
    (subst (λ m. answered c.finish.result ≡ progress n (closing c' n n m)) c.measure_of.ensures.measured c.finish.ensures.steps)

pub returns-clause-next : goal.returns-clause-next
returns-clause-next c = subst (λ m. IfOk c.finish.result (λ next. AreTotals next (moved (context_of c.args.self.now) c.args.n m))) c.measure_of.ensures.measured c.finish.ensures.next

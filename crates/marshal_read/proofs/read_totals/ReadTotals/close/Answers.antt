use Rattle.std.proofs.Common.{arith, ◌≡◌, ◌+◌, length, sym, ap₂, subst, subst₂}
use Rattle.std.specs.Prelude.{IfOk}
use Rattle.marshal_spec.specs.format.Raw.{fixed_bytes, variable_bytes}
use Rattle.marshal_spec.specs.format.Words.{words32, words64}
use Rattle.marshal_read.specs.Totals.{AreTotals, AreFew, context_of, moved}
use Rattle.marshal_read.specs.Progress.{answered}
use Rattle.marshal_read.proofs.ReaderSizeLemmas.{few_words32, few_words64}
use Rattle.marshal_read.proofs.DecodeLemmas.{closed_as}
use Rattle.marshal_read.proofs.read_totals.ReadTotals.close.Goals as goal

pub finish-requires-clause-few32 : goal.finish-requires-clause-few32
finish-requires-clause-few32 c =
    let size : 1 + c.fixed_len.result + c.args.len ≡ 1 + fixed_bytes c.args.kind.kind + variable_bytes c.args.kind.kind c.args.rest.now = omega (arith, c.fixed_len.ensures.is, c.requires.len) in
    subst₂ (AreFew words32) (sym c.measure_at-measure.ensures.measure) (sym size) (few_words32 c.args.kind.kind c.args.rest.now)

pub finish-requires-clause-few64 : goal.finish-requires-clause-few64
finish-requires-clause-few64 c =
    let size : 1 + c.fixed_len.result + c.args.len ≡ 1 + fixed_bytes c.args.kind.kind + variable_bytes c.args.kind.kind c.args.rest.now = omega (arith, c.fixed_len.ensures.is, c.requires.len) in
    subst₂ (AreFew words64) (sym c.measure_at-measure.ensures.measure) (sym size) (few_words64 c.args.kind.kind c.args.rest.now)

pub returns-clause-steps : goal.returns-clause-steps
returns-clause-steps c =
    let size : 1 + c.fixed_len.result + c.args.len ≡ 1 + fixed_bytes c.args.kind.kind + variable_bytes c.args.kind.kind c.args.rest.now = omega (arith, c.fixed_len.ensures.is, c.requires.len) in
    closed_as (context_of c.args.self.now) c.args.kind.kind c.args.rest.now (1 + c.fixed_len.result + c.args.len) (length c.args.rest.now + 1) c.measure_at-measure.result (answered c.finish.result)
    size c.measure_at-measure.ensures.measure (omega arith) c.requires.sized c.finish.ensures.steps

pub returns-clause-next : goal.returns-clause-next
returns-clause-next c =
    let size : 1 + c.fixed_len.result + c.args.len ≡ 1 + fixed_bytes c.args.kind.kind + variable_bytes c.args.kind.kind c.args.rest.now = omega (arith, c.fixed_len.ensures.is, c.requires.len) in
    subst (λ at. IfOk c.finish.result (λ next. AreTotals next at)) (ap₂ (moved (context_of c.args.self.now)) size c.measure_at-measure.ensures.measure) c.finish.ensures.next

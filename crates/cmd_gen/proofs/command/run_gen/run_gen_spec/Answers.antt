use Rattle.std.proofs.Common.{◌^◌, ◌<◌, ◌≤◌, arith}
use Rattle.base_io.specs.StreamState.{change}
use Rattle.cmd_gen.proofs.command.AskLemmas.{asked_in_range}
use Rattle.cmd_gen.proofs.command.GenAccountLemmas.{type_account, made_account}
use Rattle.cmd_gen.proofs.command.run_gen.run_gen_spec.Goals as goal
use Rattle.cmd_gen.proofs.command.run_gen.run_gen_spec.Goals.{then-number-gt-GREATEST_NUMBER-via-then-number-gt-GREATEST_NUMBER, then-number-gt-GREATEST_NUMBER-via-else-number-gt-GREATEST_NUMBER+then-count-gt-GREATEST_COUNT}

pub returns-then-number-gt-GREATEST_NUMBER-clause-account :
    goal.returns-then-number-gt-GREATEST_NUMBER-clause-account
returns-then-number-gt-GREATEST_NUMBER-clause-account g c = λ words asks files.
    let r = asked_in_range words c.args.number c.args.count c.args.type_text.now asks in
    let low : c.args.number < 2 ^ 31 = r.0 in
    let few : c.args.count ≤ 1000000 = r.1 in
    let never : ⊥ = elim c.then-number-gt-GREATEST_NUMBER.branch [
      | then-number-gt-GREATEST_NUMBER-via-then-number-gt-GREATEST_NUMBER w ↦ omega arith
      | then-number-gt-GREATEST_NUMBER-via-else-number-gt-GREATEST_NUMBER+then-count-gt-GREATEST_COUNT
          w ↦ omega arith
    ] in
    absurd never

pub returns-in-Ok-clause-account : goal.returns-in-Ok-clause-account
returns-in-Ok-clause-account g c = λ words asks files.
    made_account words files c.args.number c.args.count c.args.type_text.now asks
    c.in-Ok.requested c.in-Ok.ensures
    (change (g.S.Source.state c.args.input.now) (g.S.Source.state c.generate_at.new.input))
    (change (g.K.Sink.state c.args.out.now) (g.K.Sink.state c.generate_at.new.out))
    (change (g.E.Sink.state c.args.err.now) (g.E.Sink.state c.generate_at.new.err))
    c.generate_at.result c.generate_at.ensures.account

pub returns-in-Err-clause-account : goal.returns-in-Err-clause-account
returns-in-Err-clause-account g c = λ words asks files.
    type_account words files c.args.number c.args.count c.args.type_text.now asks
    c.in-Err.exit c.in-Err.ensures
    (g.S.Source.state c.args.input.now) (g.K.Sink.state c.args.out.now)
    (change (g.E.Sink.state c.args.err.now) (g.E.Sink.state c.report_exit-in-Err.new.err))
    c.report_exit-in-Err.result c.report_exit-in-Err.ensures

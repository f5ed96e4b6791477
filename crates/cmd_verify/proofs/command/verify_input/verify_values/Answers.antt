use Rattle.std.proofs.Common.{List, ◌∙◌, ap, Bor}
use Rattle.base_io.specs.StreamState.{change}
use Rattle.cert_format.specs.declared.section.Section.{Section}
use Rattle.run_types.specs.declared.requested.Prepared.{Prepared}
use Rattle.opt_skip_only.specs.declared.skip.skip_command.Over.{Over}
use Rattle.opt_skip_only.specs.skip.SkipCommand.{passed_of}
use Rattle.cmd_verify.specs.command.VerifyProgress.{certified, certified_after}
use Rattle.cmd_verify.proofs.command.VerifyAccountLemmas.{account_same}
use Rattle.cmd_verify.proofs.command.verify_input.verify_values.Goals as goal

pub returns : goal.returns
returns g c =
    let w = c.new-work.result in
    let p = c.new-skip_command.result in
    let r = c.args.requested.now in
    let all = c.args.sections.now in
    let asked = certified_after r all c.args.reading in
    account_same (passed_of p.over) asked.0
    (certified p.work.requested.now p.work.sections.now p.work.limit) asked.1
    (change (g.S.Source.state c.args.input.now) (g.S.Source.state c.run_reported.new.input))
    (change (g.K.Sink.state c.args.out.now) (g.K.Sink.state c.run_reported.new.out))
    (change (g.E.Sink.state c.args.err.now) (g.E.Sink.state c.run_reported.new.err))
    c.run_reported.result (ap (λ (o : Over). passed_of o) c.new-skip_command.ensures.over)
    (c.new-skip_command.ensures.act
    ∙ (ap (λ (q : Bor Prepared). certified q.now w.sections.now w.limit) c.new-work.ensures.requested
    ∙ (ap (λ (q : Bor (List Section)). certified r q.now w.limit) c.new-work.ensures.sections
    ∙ ap (λ n. certified r all n) c.new-work.ensures.limit)))
    c.run_reported.ensures.account

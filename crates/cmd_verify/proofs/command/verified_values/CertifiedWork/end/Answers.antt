use Rattle.cmd_certify.proofs.value_items.ValueItemReadLemmas.{holds, ends_split}
use Rattle.cmd_verify.proofs.command.VerifyReadLemmas.{has_values, ends_left, ends_all}
use Rattle.cmd_verify.proofs.command.verified_values.CertifiedWork.end.Goals as goal

pub returns-in-Err : goal.returns-in-Err
returns-in-Err g c = λ taken output h.
    let w = c.args.self.now in
    let known = has_values w.requested.now w.sections.now w.limit in (
      holds known h,
      ends_split known h c.in-Err.field-0 (c.in-Err.ensures w.limit h.prefix h.leads)
          (g.K.Sink.state c.args._out.now) c.split_value.result c.split_value.ensures,
    )

pub returns-then-self : goal.returns-then-self
returns-then-self g c = λ taken output h.
    let w = c.args.self.now in (
      holds (has_values w.requested.now w.sections.now w.limit) h,
      ends_left w.requested.now w.sections.now w.limit h (c.in-Ok.ensures w.limit h.prefix h.leads)
          c.if-self.true (g.K.Sink.state c.args._out.now),
    )

pub returns-else-self : goal.returns-else-self
returns-else-self g c = λ taken output h.
    let w = c.args.self.now in (
      holds (has_values w.requested.now w.sections.now w.limit) h,
      ends_all w.requested.now w.sections.now w.limit h (c.in-Ok.ensures w.limit h.prefix h.leads)
          c.if-self.false (g.K.Sink.state c.args._out.now),
    )

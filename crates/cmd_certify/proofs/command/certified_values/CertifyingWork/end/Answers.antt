use Rattle.cmd_certify.proofs.value_items.ValueItemReadLemmas.{holds, ends_split}
use Rattle.cmd_certify.proofs.command.CertifyReadLemmas.{has_values, ends_all}
use Rattle.cmd_certify.proofs.command.certified_values.CertifyingWork.end.Goals as goal

pub returns-in-Err : goal.returns-in-Err
returns-in-Err g c = λ taken output h.
    let w = c.args.self.now in
    let known = has_values w.requested.now w.limit in (
      holds known h,
      ends_split known h c.in-Err.field-0 (c.in-Err.ensures w.limit h.prefix h.leads)
          (g.K.Sink.state c.args._out.now) c.split_value.result c.split_value.ensures,
    )

pub returns-in-Ok : goal.returns-in-Ok
returns-in-Ok g c = λ taken output h.
    let w = c.args.self.now in (
      holds (has_values w.requested.now w.limit) h,
      ends_all w.requested.now w.least_faults.now w.limit h (c.in-Ok.ensures w.limit h.prefix h.leads)
          (g.K.Sink.state c.args._out.now),
    )

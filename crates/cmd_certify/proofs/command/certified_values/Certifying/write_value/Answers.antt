use Rattle.std.proofs.Common.{refl, sym, subst, arith}
use Rattle.base_io.specs.StreamState.{change}
use Rattle.marshal_read.specs.Reader.{LeadsReader}
use Rattle.cmd_certify.proofs.value_items.ValueItemReadLemmas.{room_for_one}
use Rattle.cmd_certify.proofs.command.CertifyReadLemmas.{has_values, value_written, value_aborts}
use Rattle.cmd_certify.proofs.command.certified_values.Certifying.write_value.Goals as goal

pub overflow_add-self : goal.overflow_add-self
overflow_add-self g c =
    let w = c.args.self.now in
    let q = c.requires in
    let room = room_for_one (has_values w.requested.now w.limit) q.2 q.3 in omega (arith, room)

pub write_output-requires-clause-value : goal.write_output-requires-clause-value
write_output-requires-clause-value g c =
    let w = c.args.self.now in
    let v = c.requires.2 in
    let leads : LeadsReader w.limit v.whole c.replace-reader.result =
    subst (λ r. LeadsReader w.limit v.whole r) (sym c.replace-reader.ensures.value) v.leads in
    (c.finish-value.ensures w.limit v.whole leads).is_value.valid

pub write_output-requires-clause-least_faults : goal.write_output-requires-clause-least_faults
write_output-requires-clause-least_faults g c = c.requires.2.ready.1

pub returns-in_err-ok-clause-writes : goal.returns-in_err-ok-clause-writes
returns-in_err-ok-clause-writes g c = λ taken output v.
    let w = c.args.self.now in
    let leads : LeadsReader w.limit v.whole c.replace-reader.result =
    subst (λ r. LeadsReader w.limit v.whole r) (sym c.replace-reader.ensures.value) v.leads in
    let out = change (g.K.Sink.state c.args.out.now) (g.K.Sink.state c.write_output.new.out) in
    value_aborts w.requested.now w.least_faults.now w.limit v c.finish-value.result
    (c.finish-value.ensures w.limit v.whole leads) out c.in_err-ok.field-0.0 _ _ _
    c.from_residual.result c.from_residual.ensures.1 c.in_err-ok.ensures

pub returns-clause-writes : goal.returns-clause-writes
returns-clause-writes g c = λ taken output v.
    let w = c.args.self.now in
    let leads : LeadsReader w.limit v.whole c.replace-reader.result =
    subst (λ r. LeadsReader w.limit v.whole r) (sym c.replace-reader.ensures.value) v.leads in
    value_written w.requested.now w.least_faults.now w.limit v c.finish-value.result (c.finish-value.ensures w.limit v.whole leads)
    (change (g.K.Sink.state c.args.out.now) (g.K.Sink.state c.write_output.new.out))
    c.in_ok-ok.ok c.in_ok-ok.ensures c.over.result c.over.ensures.leads _ refl

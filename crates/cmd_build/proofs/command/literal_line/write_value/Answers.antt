use Rattle.std.proofs.Common.{false, refl}
use Rattle.base_io.specs.StreamState.{change}
use Rattle.cmd_build.proofs.command.BuildStepLemmas.{check_aborts, value_writes}
use Rattle.cmd_build.proofs.command.literal_line.write_value.Goals as goal

pub returns-in_err-check_type : goal.returns-in_err-check_type
returns-in_err-check_type g c = λ text known position is.
    check_aborts c.args.requested.now c.args.number c.args.value.now.heap.now c.args.value.now.root known text position is
    (g.K.Sink.state c.args.out.now) c.in_err-check_type.field-0.0 c.from_residual.result
    c.from_residual.ensures.1 c.in_err-check_type.ensures

pub returns : goal.returns
returns g c = λ text known position is.
    value_writes c.args.requested.now c.args.number c.args.value.now.heap.now c.args.value.now.root known text position is
    c.in_ok-check_type.ensures
    (change (g.K.Sink.state c.args.out.now) (g.K.Sink.state c.write_plain.new.out))
    c.write_plain.result (c.write_plain.ensures false refl)

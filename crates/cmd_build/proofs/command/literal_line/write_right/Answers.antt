use Rattle.std.proofs.Common.{false, refl}
use Rattle.base_io.specs.StreamState.{change}
use Rattle.cmd_build.specs.command.InputLines.{plain_texts}
use Rattle.cmd_build.proofs.command.GuessLemmas.{aborts_so, right_aborts, right_counts}
use Rattle.cmd_build.proofs.command.literal_line.write_right.Goals as goal

pub returns-in_err-write_plain : goal.returns-in_err-write_plain
returns-in_err-write_plain g c = λ t known text number right.
    let out = change (g.K.Sink.state c.args.out.now) (g.K.Sink.state c.write_plain.new.out) in
    aborts_so (plain_texts t known text) number c.args.texts out c.in_err-write_plain.field-0.0
    c.from_residual.result c.from_residual.ensures.1
    (right_aborts t known text number c.args.texts c.args.value.now.heap.now c.args.value.now.root right out
    c.in_err-write_plain.field-0.0 (c.in_err-write_plain.ensures false refl))

pub returns : goal.returns
returns g c = λ t known text number right.
    let out = change (g.K.Sink.state c.args.out.now) (g.K.Sink.state c.write_plain.new.out) in
    right_counts t known text number c.args.texts c.args.value.now.heap.now c.args.value.now.root right out
    (c.in_ok-write_plain.ensures false refl)

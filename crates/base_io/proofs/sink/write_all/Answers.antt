use Rattle.std.proofs.Common.{◌≡◌, ◌<◌, ◌-◌, length, drop, Ok, length-drop, arith}
use Rattle.std.proofs.lemmas.List.{take_rest}
use Rattle.base_io.specs.Sink.{AppendsPrefix}
use Rattle.base_io.specs.declared.source.Failed.{Failed}
use Rattle.base_io.proofs.Write.{write_more}
use Rattle.base_io.proofs.sink.write_all.Goals as goal

pub loop-at-preserved : goal.loop-at-preserved
loop-at-preserved g c =
    let rest = drop c.loop-at.at c.args.bytes.now in
    let call : AppendsPrefix {E = Failed} (g.K.Sink.state c.loop-at.sink) (g.K.Sink.state c.write.new.self) (Ok c.in_ok-at.field-0) rest = rw take_rest at c.in_ok-at.ensures in
    let left : length rest ≡ length c.args.bytes.now - c.loop-at.at = length-drop c.loop-at.at c.args.bytes.now in
    let some : 0 < c.in_ok-at.field-0 = call.some (omega arith) in
    (write_more _ _ _ c.args.bytes.now c.loop-at.at c.loop-at.invariant.0 c.in_ok-at.field-0 call, λ none. absurd (omega arith))

use Rattle.std.proofs.Common.{◌<◌, ◌≡◌, length, get_or, subst, arith, rules}
use Rattle.std.proofs.lemmas.Grind.{common_steps}
use Rattle.marshal_spec.specs.format.Canonical.{double_bytes}
use Rattle.marshal_heap.specs.heap.Heap.{object_at, doubles_of}
use Rattle.marshal_write.specs.write.WriteBuffer.{AddsPart}
use Rattle.marshal_write.proofs.write.WriterTextLemmas.{content_failed, adds_if_failed}
use Rattle.marshal_write.proofs.write.token_encoding.add_doubles.Goals as goal

pub returns-in_err-add-clause-adds : goal.returns-in_err-add-clause-adds
returns-in_err-add-clause-adds g c =
    let old = g.K.Sink.state c.args.out.now in
    let new = g.K.Sink.state c.add.new.out in
    let all = doubles_of (object_at c.args.heap.now c.args.k) in
    let inside : c.loop-i.i < length all = omega (arith, c.requires.all) in
    let encoded : c.to_le_bytes.result ≡ double_bytes (get_or all c.loop-i.i 0) = first_of (search rules, grind (arith, common_steps)) in
    adds_if_failed old new _ _ _ c.from_residual.result c.from_residual.ensures.0
    (content_failed old (g.K.Sink.state c.loop-i.out) new c.args.buffer.now.items c.loop-i.buffer.items double_bytes all c.loop-i.i inside c.loop-i.invariant.adds
    (subst (AddsPart (g.K.Sink.state c.loop-i.out) new c.loop-i.buffer.items) encoded c.in_err-add.ensures.adds))

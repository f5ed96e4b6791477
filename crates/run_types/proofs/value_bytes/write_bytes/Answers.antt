use Rattle.run_types.proofs.RunTypesBytesLemmas.{compat_refused}
use Rattle.run_types.proofs.value_bytes.write_bytes.Goals as goal

pub returns-in-Err-Compat : goal.returns-in-Err-Compat
returns-in-Err-Compat g c =
    compat_refused c.args.compat c.args.number c.args.value.now.heap.now c.args.value.now.root c.if-not-compat.false g.K.Sink.state c.args.out.now c.write32.new.out c.in-Err-Compat.field-0 c.in-Err-Compat.ensures.untouched
    c.in-Err-Compat.compat c.in-Err-Compat.field-0-is c.in-Err-Compat.ensures.writes
    c.too_large_value.result c.too_large_value.ensures

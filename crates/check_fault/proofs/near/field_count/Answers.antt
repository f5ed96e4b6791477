use Rattle.std.proofs.Common.{◌<◌, length, rules}
use Rattle.check_fault.proofs.NearLemmas.{no_more_fields, no_fields}
use Rattle.check_fault.proofs.near.field_count.Goals as goal

pub returns-in-Ref : goal.returns-in-Ref
returns-in-Ref c = λ i past.
    let there : c.in-Ref.object < length c.args.heap.now = search rules in
    no_more_fields c.args.heap.now c.args.value c.in-Ref.object i c.fields_in.result c.kind.result c.in-Ref.is
    there c.kind.ensures.kind c.fields_in.ensures past

pub returns-in_default : goal.returns-in_default
returns-in_default c = λ i past. no_fields c.args.heap.now c.args.value i c.in_default.not-Ref

use Rattle.std.proofs.Common.{refl}
use Rattle.base_data.specs.declared.model.out_of_memory.Memory.{Memory}
use Rattle.cmd_scan.proofs.sweep.SweepPartsLemmas.{none_passed, last_of}
use Rattle.cmd_scan.proofs.sweep.next_part.last_part.Goals as goal

pub returns-then-claims_more : goal.returns-then-claims_more
returns-then-claims_more c =
    none_passed c.args.limit c.args.at c.args.bytes.now c.args.text.now.items c.args.text.now.items
    c.requires.some (c.claims_more.ensures c.if-claims_more.true c.args.limit) refl

pub returns : goal.returns
returns c =
    last_of Memory c.args.limit c.args.at c.args.bytes.now c.args.text.now.items c.next_part.new.text.items
    c.in_ok-next.next c.last.result c.requires.some c.in_ok-next.ensures c.last.ensures

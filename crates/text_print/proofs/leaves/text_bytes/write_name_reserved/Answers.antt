use Rattle.std.proofs.Common.{arith}
use Rattle.text_print.proofs.leaves.LeafNameLemmas.{name_written}
use Rattle.text_print.proofs.leaves.text_bytes.write_name_reserved.Goals as goal

pub returns-clause-items : goal.returns-clause-items
returns-clause-items c =
    name_written c.args.text.now.items c.args.name.now c.write_reserved-2.new.text.items c.truncate.new.self.items c.write_reserved-3.new.text.items
    _ (omega arith) (omega arith) (omega arith) c.write_reserved-2.ensures.items c.truncate.ensures.items c.write_reserved-3.ensures.items

use Rattle.std.proofs.Common.{arith}
use Rattle.text_print.proofs.leaves.LeafNumberLemmas.{digit_more}
use Rattle.text_print.proofs.leaves.number_text.write_four.Goals as goal

pub returns-else-n-lt1000-clause-items : goal.returns-else-n-lt1000-clause-items
returns-else-n-lt1000-clause-items c =
    digit_more c.args.n c.args.text.now.items c.write_three-else-n-lt1000.new.text.items c.push_reserved.new.self.items (omega arith) (omega arith) c.write_three-else-n-lt1000.ensures.items c.push_reserved.ensures.items

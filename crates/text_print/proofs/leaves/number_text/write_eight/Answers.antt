use Rattle.std.proofs.Common.{arith}
use Rattle.text_print.proofs.leaves.LeafNumberLemmas.{digit_more}
use Rattle.text_print.proofs.leaves.number_text.write_eight.Goals as goal

pub returns-else-n-lt10000000 : goal.returns-else-n-lt10000000
returns-else-n-lt10000000 c =
    digit_more c.args.n c.args.text.now.items c.write_seven-else-n-lt10000000.new.text.items c.push_reserved.new.self.items (omega arith) (omega arith) c.write_seven-else-n-lt10000000.ensures.items c.push_reserved.ensures.items

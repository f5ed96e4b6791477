use Rattle.std.proofs.Common.{arith}
use Rattle.text_print.proofs.leaves.LeafNumberLemmas.{digit_more}
use Rattle.text_print.proofs.leaves.number_text.write_two.Goals as goal

pub returns-else-n-lt10-clause-items : goal.returns-else-n-lt10-clause-items
returns-else-n-lt10-clause-items c =
    digit_more c.args.n c.args.text.now.items c.write_digit-else-n-lt10.new.text.items c.push_reserved.new.self.items (omega arith) (omega arith) c.write_digit-else-n-lt10.ensures.items c.push_reserved.ensures.items

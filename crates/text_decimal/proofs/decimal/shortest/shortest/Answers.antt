use Rattle.text_decimal.proofs.decimal.ClosestLemmas.{shortest_is}
use Rattle.text_decimal.proofs.decimal.shortest.shortest.Goals as goal

pub returns : goal.returns
returns c =
    let n = c.nearest in
    shortest_is c.args.size.bits n.result c.raised-digits.result.1 c.args.size.some n.ensures.reads n.ensures.above n.ensures.below c.raised-digits.ensures.highest

use Rattle.std.proofs.Common.{arith, refl, ap}
use Rattle.text_literal.specs.parser.Openings.{opening_in, prefix_of}
use Rattle.text_literal.proofs.parser.part.make_block.Goals as goal

pub returns-clause-made : goal.returns-clause-made
returns-clause-made c = record {
  tag = c.in-Block.tag;
  prefix = prefix_of c.in-Block.hash;
  start_is = ap (opening_in c.args.t) c.in-Block.is;
  behind = c.in_ok-block.ensures.block.1;
  block_is = c.in_ok-block.ensures.block.0;
  field_is = c.prefix_len.ensures.len;
  part_is = refl;
  left_is = refl;
  some = c.in_ok-block.ensures.many.0;
  few = omega (arith, c.prefix_len.ensures.few, c.in_ok-block.ensures.many.1);
}

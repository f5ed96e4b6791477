use Rattle.std.proofs.Common.{◌<◌, length, arith}
use Rattle.text_print.specs.leaves.LeafTexts.{escaped}
use Rattle.text_print.proofs.leaves.EscapeLemmas.{plain_byte, other_byte}
use Rattle.text_print.proofs.leaves.escape.write_escaped.Goals as goal

pub loop-i-preserved-then-is_plain : goal.loop-i-preserved-then-is_plain
loop-i-preserved-then-is_plain c =
    let less : c.loop-i.i < length c.args.bytes.now = omega arith in record {
      behind = omega arith;
      write =
          plain_byte (escaped c.args.quote) c.args.bytes.now c.args.text.now.items c.loop-i.text.items c.loop-i.start c.loop-i.i less c.loop-i.invariant.write c.loop-i.invariant.behind c.if-is_plain.ensures;
    }

pub loop-i-preserved : goal.loop-i-preserved
loop-i-preserved c =
    let less : c.loop-i.i < length c.args.bytes.now = omega arith in record {
      behind = omega arith;
      write =
          other_byte (escaped c.args.quote) c.args.bytes.now c.args.text.now.items c.loop-i.text.items c.loop-i.start c.loop-i.i less c.loop-i.invariant.write c.write.new.text.items c.write_byte.new.text.items c.in_ok-write.ensures c.in_ok-write_byte.ensures;
    }

use Rattle.std.proofs.Common.{◌%◌, take, ap, arith}
use Rattle.text_print.specs.leaves.LeafTexts.{escaped}
use Rattle.text_print.proofs.leaves.LeafStringLemmas.{words_written}
use Rattle.text_print.proofs.leaves.string_text.write_words.Goals as goal

pub returns : goal.returns
returns c =
    words_written (escaped 34) c.args.words.now c.args.len c.loop-j.j c.args.text.now.items c.loop-j.text.items (take (c.args.len % 8) c.to_le_bytes-2.result) c.write_word-2.new.text.items
    c.requires (omega arith) (ap (take (c.args.len % 8)) c.to_le_bytes-2.ensures) c.loop-j.invariant c.in_ok-write_word-2.ensures

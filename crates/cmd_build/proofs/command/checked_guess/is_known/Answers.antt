use Rattle.std.proofs.Common.{arith}
use Rattle.cmd_build.proofs.command.GuessLemmas.{each_ok, is_right}
use Rattle.cmd_build.proofs.command.checked_guess.is_known.Goals as goal

pub has_text-requires : goal.has_text-requires
has_text-requires c = record { typed = rw c.table.ensures.same c.requires.typed }

pub returns : goal.returns
returns c =
    let shown = rw c.table.ensures.same at c.has_text.ensures in
    each_ok c.has_text.result _ _ (λ same known is.
    is_right c.args.requested.now c.holds.ensures c.args.line.now c.args.value.now.heap.now c.args.value.now.root
    c.tables_decide.ensures.root c.tables_decide.ensures.decide c.roots_show_agree.ensures
    c.the_same_has_the_same_types.ensures.declared c.the_same_has_the_same_text.ensures.declared
    c.encoded_are_readable.ensures c.texts_are_read_again.ensures c.requires.encoded
    c.count.ensures.heap.is_graph (omega (arith, c.if-count.false, c.count.ensures.count))
    c.args.value.now.value c.requires.typed (known is)) shown

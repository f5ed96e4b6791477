use Rattle.std.proofs.Common.{◌≡◌, ◌∙◌, true, sym, arith, rules}
use Rattle.std.proofs.lemmas.Grind.{common_steps}
use Rattle.text_print.specs.print.PrintLevels.{levels_of}
use Rattle.text_print.specs.print.PrintWalk.{chunks_left}
use Rattle.text_print.proofs.print.PrintLabelLemmas.{none_next}
use Rattle.text_print.proofs.print.PrintLeftLemmas.{none_left}
use Rattle.text_print.proofs.print.PrintLevelLemmas.{no_levels}
use Rattle.text_print.proofs.print.PrintPlainLemmas.{write_then}
use Rattle.text_print.proofs.print.text_until_again.write_until_again.Goals as goal

pub loop-fresh-preserved : goal.loop-fresh-preserved
loop-fresh-preserved c = (
  write_then c.args.table.now c.args.heap.now (chunks_left c.args.table.now c.args.heap.now c.args.walk.now) c.args.walk.now.order c.args.text.now.items c.loop-fresh.text.items c.write_part.new.text.items
      c.loop-fresh.walk c.write_part.new.walk c.loop-fresh.invariant.0 c.in_ok-fresh-2.ensures.write,
  c.in_ok-fresh-2.ensures.none,
)

pub returns-else-not-has_none-clause-all : goal.returns-else-not-has_none-clause-all
returns-else-not-has_none-clause-all c fresh =
    let walk = c.loop-fresh.walk in
    let done : c.has_none.result ≡ true = first_of (search rules, grind (arith, common_steps)) in
    let nothing = no_levels walk (c.has_none.ensures.none done) (c.has_none.ensures.no_end done) in
    sym (none_next c.args.table.now c.args.heap.now walk (c.loop-fresh.invariant.1 fresh)) ∙ none_left c.args.table.now c.args.heap.now (levels_of walk) walk.order nothing

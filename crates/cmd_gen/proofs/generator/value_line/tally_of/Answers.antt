use Rattle.std.proofs.Common.{ap}
use Rattle.cmd_gen.specs.generator.Tally.{Known}
use Rattle.cmd_gen.proofs.generator.GeneratorLineLemmas.{written_is}
use Rattle.cmd_gen.proofs.generator.value_line.tally_of.Goals as goal

pub returns-in-Ok : goal.returns-in-Ok
returns-in-Ok c = λ tree is_tree.
    let write = c.in-Ok.ensures.writes in
    written_is c.args.value.now.heap.now c.args.value.now.root c.new-tally.result c.write.new.out write.0 tree c.count-graph.ensures.heap c.args.value.now.value
    (ap (λ (t : Known). t.written) c.new-tally.ensures) write.1 write.2 is_tree

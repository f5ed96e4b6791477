use Rattle.std.proofs.Common.{◌∙◌, ap}
use Rattle.cmd_gen.specs.generator.ValueLine.{generated_text}
use Rattle.cmd_gen.proofs.command.GenLineLemmas.{graph_line}
use Rattle.cmd_gen.proofs.command.output_line.line_of.Goals as goal

pub returns : goal.returns
returns c =
    graph_line c.the_same_has_the_same_types.ensures.declared c.the_same_has_the_same_line.ensures
    c.args.requested.now c.holds.ensures c.args.value.now.heap.now c.args.value.now.root c.count-graph.ensures.heap
    c.args.value.now.value c.in_ok-verdict.verdict.text.items c.in_ok-verdict.verdict.ok
    c.in_ok-verdict.ensures c.in_ok-text.text.items c.write.new.text.items
    (λ tree is.
    c.in_ok-text.ensures tree is ∙ ap (λ v. generated_text tree v) c.as_slice.ensures.value)
    c.in_ok-write.ensures

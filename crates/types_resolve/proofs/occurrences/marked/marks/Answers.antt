use Rattle.std.proofs.Common.{arith, ap, ◌∙◌, ◌++◌}
use Rattle.types_resolve.specs.occurrences.Counted.{one_if}
use Rattle.types_resolve.proofs.occurrences.OccurrenceMarkLemmas.{marks_next}
use Rattle.types_resolve.proofs.occurrences.marked.marks.Goals as goal

pub loop-i-preserved : goal.loop-i-preserved
loop-i-preserved c = let i = c.loop-i.i in let so_far = c.loop-i.marked.items in let first = c.push_if.new.marked.items in
    marks_next c.args.lexemes.now i c.index-lexemes-i.result c.loop-i.fresh c.opens_item-fresh.result so_far first
    c.push_if-in-loop-i.new.marked.items (omega arith) c.index-lexemes-i.is c.loop-i.invariant
    (c.in_ok-push_if.ensures ∙ ap (λ b. so_far ++ one_if b i) c.includes.ensures)
    (c.in_ok-push_if-2.ensures ∙ ap (λ b. first ++ one_if b i) c.is_marked.ensures) c.opens_item-fresh.ensures

use Rattle.std.proofs.Common.{List, ◌≡◌, ◌<◌, ◌∙◌, ◌+◌, length, drop, sym, ap, arith}
use Rattle.std.specs.Prelude.{slice_index}
use Rattle.std.proofs.lemmas.Result.{IfOk-weaker}
use Rattle.types_spec.specs.types.TypeNodes.{types_of, type_at}
use Rattle.types_resolve.specs.occurrences.Counted.{items_in}
use Rattle.types_resolve.specs.declared.scope.type_brackets.BracketItem.{BracketItem}
use Rattle.types_resolve.specs.declared.occurrences.fact.Facts.{Facts}
use Rattle.types_resolve.specs.scope.TypeBrackets.{items_known}
use Rattle.types_resolve.specs.occurrences.Facts.{capped}
use Rattle.types_resolve.proofs.occurrences.OccurrenceItemLemmas.{items_fall, items_turn, items_end}
use Rattle.types_resolve.proofs.occurrences.OccurrenceWalkLemmas.{type_at-node}
use Rattle.types_resolve.proofs.occurrences.items.items_of.Goals as goal

pub loop-w-smaller : goal.loop-w-smaller
loop-w-smaller c =
    let small : length c.args.marks.now < 18446744073709551616 = omega arith in
    items_fall c.args.nodes.now c.requires.ordered c.args.facts.now c.requires.facts c.args.marks.now small
    c.args.first c.loop-w.n c.in-Some.w c.index-nodes-n.result c.loop-w.invariant.below c.index-nodes-n.is
    (sym c.without_item.ensures ∙ c.in-Some.is)

pub loop-w-preserved : goal.loop-w-preserved
loop-w-preserved c =
    let small : length c.args.marks.now < 18446744073709551616 = omega arith in
    let is = sym c.without_item.ensures ∙ c.in-Some.is in
    let below = c.loop-w.invariant.below in
    let falls : c.in-Some.w < c.loop-w.n =
    items_fall c.args.nodes.now c.requires.ordered c.args.facts.now c.requires.facts c.args.marks.now small
    c.args.first c.loop-w.n c.in-Some.w c.index-nodes-n.result below c.index-nodes-n.is is in
    let position : c.position_at-position.result ≡ slice_index c.args.marks.now (capped (c.args.first + c.fact_at.result.inner)) =
    c.position_at-position.ensures ∙ ap (slice_index c.args.marks.now) c.saturating_add.ensures in
    record {
      below = omega arith;
      left = items_turn c.args.nodes.now c.requires.ordered c.args.facts.now c.requires.facts c.args.marks.now small
          c.args.first c.loop-w.n c.in-Some.w c.index-nodes-n.result below c.index-nodes-n.is is c.position_at-position.result
          c.loop-w.items.items c.write_item.new.items.items
          (items_in (drop c.args.first c.args.marks.now) (type_at (types_of c.args.nodes.now) c.args.node))
          (position ∙ ap (λ (f : Facts). slice_index c.args.marks.now (capped (c.args.first + f.inner))) c.fact_at.ensures)
          c.in_ok-write_item.ensures c.loop-w.invariant.left;
    }

pub returns : goal.returns
returns c =
    let end = items_end (types_of c.args.nodes.now) (drop c.args.first c.args.marks.now) c.loop-w.n c.index-nodes-n.result
    c.loop-w.items.items (items_in (drop c.args.first c.args.marks.now) (type_at (types_of c.args.nodes.now) c.args.node))
    (sym c.without_item.ensures ∙ c.in_default.is)
    (type_at-node c.args.nodes.now c.loop-w.n c.index-nodes-n.result c.requires.ordered c.loop-w.invariant.below c.index-nodes-n.is)
    c.loop-w.invariant.left in
    IfOk-weaker c.reversed.result _ _ (λ (items : List BracketItem) h. ap (items_known (types_of c.args.nodes.now)) h ∙ end) c.reversed.ensures

use Rattle.std.proofs.Common.{◌++◌, ◌∙◌, ap, sym, arith}
use Rattle.types_spec.specs.types.TypeNodes.{type_at}
use Rattle.types_table.specs.type_table.PrintedTypes.{parts_text, added_text, waiting_text}
use Rattle.types_table.proofs.type_table.TypeTableTextLemmas.{part_waits, parts_text-whole, parts_text-none}
use Rattle.types_table.proofs.type_table.waiting.push_parts.Goals as goal

pub loop-whole-preserved : goal.loop-whole-preserved
loop-whole-preserved c =
    let types = c.args.types.now in
    let at = type_at types c.loop-whole.at in
    let whole = type_at types c.in-Some.whole in
    let between = c.args.between.now in
    let end = c.loop-whole.end.now in (
      omega (arith, c.in-Some.ensures.below, c.loop-whole.invariant.0),
      c.in_ok-wait-2.ensures.within types c.loop-whole.invariant.0
          (c.in_ok-wait.ensures.within types tt c.loop-whole.invariant.1),
      part_waits (parts_text c.args.asked between between whole) (added_text c.args.asked at) end
          (waiting_text types c.loop-whole.waiting.items) (waiting_text types c.wait.new.waiting.items)
          (waiting_text types c.wait-in-Some.new.waiting.items) (parts_text c.args.asked between end at) _
          (parts_text-whole c.args.asked between end at whole c.in-Some.ensures.is)
          (c.in_ok-wait.ensures.text types) (c.in_ok-wait-2.ensures.text types) c.loop-whole.invariant.2,
    )

pub returns-clause-parts : goal.returns-clause-parts
returns-clause-parts c =
    ap (λ prefix. prefix ++ waiting_text c.args.types.now c.loop-whole.waiting.items)
    (sym (parts_text-none c.args.asked c.args.between.now c.loop-whole.end.now (type_at c.args.types.now c.loop-whole.at)
    c.in_default.ensures.is)) ∙ c.loop-whole.invariant.2

use Rattle.std.proofs.Common.{rules, ℕ, ◌≤◌, ◌+◌, ◌∙◌, ap, refl, arith}
use Rattle.std.specs.Prelude.{if◌then◌else◌}
use Rattle.check_stream.proofs.checker.AgainLemmas.{mark_position, inspects_from, skip_more, block_found, if_some_weaker}
use Rattle.check_stream.proofs.checker.reread.block_at.Goals as goal

pub skip-init : goal.skip-init
skip-init c = mark_position c.args.prefix.now c.args.marks.now c.args.object c.mark_at-at.result c.mark_at-at.ensures

pub returns-then-made-object : goal.returns-then-made-object
returns-then-made-object c =
    let inspects = inspects_from c.args.prefix.now c.skip.at c.in-Some.seen c.in-Some.len c.in-Some.ensures in
    if_some_weaker c.block_seen.result
    (λ block seen. block_found c.args.prefix.now c.args.marks.now c.args.object c.skip.at c.skip.made c.in-Some.seen c.in-Some.len block.0 block.1 block.2 c.skip.invariant.1 c.if-made-object.true inspects seen)
    c.block_seen.ensures

pub skip-preserved-then-makes_object : goal.skip-preserved-then-makes_object
skip-preserved-then-makes_object c =
    let inspects = inspects_from c.args.prefix.now c.skip.at c.in-Some.seen c.in-Some.len c.in-Some.ensures in
    let few : c.skip.made + 1 ≤ c.args.object = search rules in (
      few,
      skip_more c.args.prefix.now c.args.marks.now c.skip.at c.skip.made 1 (c.skip.made + 1) c.in-Some.seen c.in-Some.len c.skip.invariant.1 inspects
          (λ t seen. c.makes_object.ensures t seen ∙ ap (λ b. let k : ℕ = (if b then 1 else 0) in k) c.if-makes_object.true) refl,
    )

pub skip-preserved : goal.skip-preserved
skip-preserved c =
    let inspects = inspects_from c.args.prefix.now c.skip.at c.in-Some.seen c.in-Some.len c.in-Some.ensures in (
      c.skip.invariant.0,
      skip_more c.args.prefix.now c.args.marks.now c.skip.at c.skip.made 0 c.skip.made c.in-Some.seen c.in-Some.len c.skip.invariant.1 inspects
          (λ t seen. c.makes_object.ensures t seen ∙ ap (λ b. let k : ℕ = (if b then 1 else 0) in k) c.if-makes_object.false) (omega arith),
    )

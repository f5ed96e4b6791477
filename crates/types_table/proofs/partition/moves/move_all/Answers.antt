use Rattle.std.proofs.Common.{◌≡◌, ◌∙◌, length, get_or, refl, subst, arith}
use Rattle.std.proofs.Math.ListN.{length-set}
use Rattle.std.proofs.lemmas.Option.{slice_get-get_or}
use Rattle.types_table.specs.partition.Refinement.{AreMoved}
use Rattle.types_table.proofs.partition.PartitionLoopLemmas.{moved_none, moved_more}
use Rattle.types_table.proofs.partition.moves.move_all.Goals as goal

pub loop-at-init : goal.loop-at-init
loop-at-init c = (moved_none _ _ _ _, refl)

pub loop-at-preserved : goal.loop-at-preserved
loop-at-preserved c =
    let at = c.loop-at.at in
    let position = get_or c.args.positions.now at 0 in
    let x = get_or c.args.inspected.now at 0 in
    let d = get_or c.args.numbers.now position 0 in (
      moved_more _ _ _ at _ c.loop-at.class.items position d c.loop-at.invariant.0 c.loop-at-test.true
          (omega (arith, c.requires.inspected at 0 c.loop-at-test.true, c.loop-at.invariant.1))
          (slice_get-get_or c.args.positions.now at 0 (omega (arith, c.requires.many)))
          (slice_get-get_or c.args.numbers.now position 0 (c.requires.positions at 0 (omega (arith, c.requires.many)))),
      length-set c.loop-at.class.items x d ∙ c.loop-at.invariant.1,
    )

pub index_mut-requires : goal.index_mut-requires
index_mut-requires c = omega (arith, c.requires.inspected c.loop-at.at 0 c.loop-at-test.true, c.loop-at.invariant.1)

pub returns-clause-moved : goal.returns-clause-moved
returns-clause-moved c =
    let end : c.loop-at.at ≡ length c.args.inspected.now = omega arith in
    subst (λ n. AreMoved c.args.inspected.now c.args.positions.now c.args.numbers.now n c.args.class.now.items
    c.loop-at.class.items) end c.loop-at.invariant.0

use Rattle.types_table.proofs.store.StoreHeldLemmas.{Grows-then}
use Rattle.types_build.proofs.representation.RepresentationSumLemmas.{parts_below, next_block}
use Rattle.types_build.proofs.representation.sum.blocks.Goals as goal

pub members-requires : goal.members-requires
members-requires c =
    parts_below c.args.types.now c.loop-row.types c.loop-row.invariant.0 c.args.parts.now c.requires c.args.name.now

pub loop-row-preserved : goal.loop-row-preserved
loop-row-preserved c = (
  Grows-then _ _ _ c.loop-row.invariant.0 c.in_ok-fields.ensures.grown,
  rw (c.in_ok-push.ensures.items, c.of.ensures)
      (next_block c.args.types.now c.loop-row.types c.members.new.types c.loop-row.invariant.0 c.in_ok-fields.ensures.grown
      c.args.parts.now c.requires c.args.name.now c.args.rows.now c.loop-row.row-index _ c.loop-row-test.true
      _ c.loop-row.invariant.1 c.in_ok-fields.fields.items c.in_ok-fields.ensures.ok),
)

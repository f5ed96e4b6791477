use Rattle.std.proofs.Common.{◌≡◌, length, arith}
use Rattle.std.proofs.lemmas.Option.{slice_get_within, slice_get-get_or}
use Rattle.types_table.proofs.store.StoreHeldLemmas.{Grows-held, Holds-grows}
use Rattle.types_build.proofs.representation.RepresentationSumLemmas.{part_below, itself_more, itself_whole}
use Rattle.types_build.proofs.representation.sum.itself.Goals as goal

pub loop-part-init : goal.loop-part-init
loop-part-init c = record {
  grown = Holds-grows _ _ _ _ c.in_ok-whole.ensures.ok;
  whole = c.in_ok-whole.ensures.ok.there;
}

pub add_part-requires-clause-whole : goal.add_part-requires-clause-whole
add_part-requires-clause-whole c =
    slice_get_within c.loop-part.types c.loop-part.whole _ c.loop-part.invariant.whole

pub add_part-requires-clause-added : goal.add_part-requires-clause-added
add_part-requires-clause-added c =
    let parts = c.args.parts.now in
    part_below c.args.types.now c.loop-part.types c.loop-part.invariant.grown parts c.requires c.loop-part.part-index _
    (slice_get-get_or parts c.loop-part.part-index 0 c.loop-part-test.true)

pub loop-part-preserved : goal.loop-part-preserved
loop-part-preserved c =
    let parts = c.args.parts.now in
    let held = c.in_ok-whole-2.ensures.ok in
    record {
      grown = Grows-held _ _ _ _ _ c.loop-part.invariant.grown held;
      whole = itself_more c.args.types.now c.loop-part.types c.loop-part.invariant.grown parts c.requires c.loop-part.part-index _
          (slice_get-get_or parts c.loop-part.part-index 0 c.loop-part-test.true)
          c.args.name.now c.loop-part.whole c.loop-part.invariant.whole c.add_part.new.self _ held;
    }

pub returns-clause-ok : goal.returns-clause-ok
returns-clause-ok c =
    let end : c.loop-part.part-index ≡ length c.args.parts.now = omega arith in
    itself_whole c.args.types.now c.loop-part.types c.args.parts.now c.args.name.now c.loop-part.part-index c.loop-part.whole
    end c.loop-part.invariant.grown c.loop-part.invariant.whole

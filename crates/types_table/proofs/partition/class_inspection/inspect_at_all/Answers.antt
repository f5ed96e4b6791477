use Rattle.std.proofs.Common.{◌<◌, length, subst, sym}
use Rattle.std.specs.Prelude.{All, slice_index}
use Rattle.types_table.specs.partition.Refinement.{AreSigned}
use Rattle.types_table.proofs.partition.InspectLemmas.{inspect_within, signed_grown, all_inspect}
use Rattle.types_table.proofs.partition.class_inspection.inspect_at_all.Goals as goal

pub positions_of-requires-clause-within : goal.positions_of-requires-clause-within
positions_of-requires-clause-within c =
    subst (λ l. All (λ i. i < length c.args.forms.now) l) (sym c.as_slice.ensures.value)
    (inspect_within c.args.members.now c.args.class.now c.args.wanted _ _ c.in_ok-inspected.ensures c.requires.many)

pub returns : goal.returns
returns c = all_inspect c.args.forms.now c.args.class.now c.args.wanted c.args.members.now _ c.in_ok-inspected.ensures
    (subst (λ l. AreSigned c.args.forms.now (slice_index c.args.class.now) c.kept_position.new.found l c.in_ok-positions.positions.items)
    c.as_slice.ensures.value
    (signed_grown _ _ _ _ _ _ c.in_ok-kept.ensures.grown c.in_ok-positions.ensures.signed))
    c.in_ok-kept.ensures.distinct c.requires.members c.in_ok-kept.ensures.within

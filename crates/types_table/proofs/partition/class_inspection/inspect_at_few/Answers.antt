use Rattle.std.proofs.Common.{ap, subst, sym, Some, ◌∙◌}
use Rattle.std.specs.Prelude.{All, slice_index}
use Rattle.std.proofs.Common.{◌<◌, length}
use Rattle.base_data.proofs.model.Lists.{slice_get-read}
use Rattle.types_table.proofs.store.StoreHeldLemmas.{there_kept}
use Rattle.types_table.specs.partition.Refinement.{AreSigned}
use Rattle.types_table.proofs.partition.InspectLemmas.{inspect_within, few_inspect}
use Rattle.types_table.proofs.partition.class_inspection.inspect_at_few.Goals as goal

pub positions_of-requires-clause-within : goal.positions_of-requires-clause-within
positions_of-requires-clause-within c =
    subst (λ l. All (λ i. i < length c.args.forms.now) l) (sym c.as_slice-2.ensures.value)
    (inspect_within c.args.waiting.now c.args.class.now c.args.wanted _ _ c.in_ok-inspected.ensures c.requires.many)

pub returns : goal.returns
returns c = few_inspect c.args.forms.now c.args.class.now c.args.wanted c.args.waiting.now _ c.in_ok-inspected.ensures
    (subst (λ l. AreSigned c.args.forms.now (slice_index c.args.class.now) c.positions_of.new.found l c.in_ok-positions.positions.items)
    c.as_slice-2.ensures.value c.in_ok-positions.ensures.signed)
    c.in_ok-positions.ensures.distinct c.args.signatures.now c.index-signatures-wanted.result
    (slice_get-read c.args.signatures.now c.args.wanted c.index-signatures-wanted.result c.requires.wanted c.index-signatures-wanted.is)
    c.requires.settled
    (there_kept _ _ _ _ c.in_ok-positions.ensures.grown c.in_ok-kept.ensures.ok.there
    ∙ ap (λ l. Some l) (c.in_ok-signature.ensures.items ∙ c.as_slice.ensures.value))

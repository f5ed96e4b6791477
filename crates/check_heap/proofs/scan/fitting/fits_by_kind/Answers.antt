use Rattle.std.proofs.Common.{◌∙◌, sym, ap, subst}
use Rattle.std.specs.Prelude.{IsSome}
use Rattle.types_spec.specs.types.Fitting.{fields_of}
use Rattle.types_spec.specs.types.Table.{node_or_none}
use Rattle.marshal_heap.proofs.heap.HeapReadLemmas.{word_of-inj}
use Rattle.check_heap.specs.fits.Needs.{needs_in}
use Rattle.check_heap.proofs.scan.ScanRowLemmas.{some_mapped}
use Rattle.check_heap.proofs.scan.fitting.fits_by_kind.Goals as goal

pub returns : goal.returns
returns c = λ v is same.
    let value = word_of-inj c.args.heap.now c.value_of.result v c.count-count.ensures.heap.is_graph c.value_of.ensures.valid is (sym c.value_of.ensures.word ∙ same) in
    let fields = ap (λ n. fields_of c.args.heap.now v (node_or_none n)) c.shape.ensures
    ∙ ap (λ u. fields_of c.args.heap.now u c.shape.result.now) (sym value) ∙ sym c.needs_of.ensures in
    let both = some_mapped needs_in c.needs_of.result c.is_some.result c.is_some.ensures in
    (λ fits. subst (λ o. IsSome o) (sym fields) (both.0 fits), λ some. both.1 (subst (λ o. IsSome o) fields some))

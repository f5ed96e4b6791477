use Rattle.std.proofs.Common.{Some, refl, sym, subst}
use Rattle.std.specs.Prelude.{IsSome}
use Rattle.base_data.specs.declared.model.value.Val.TheVariants as vals
use Rattle.types_spec.specs.types.Fitting.{fields_of}
use Rattle.types_spec.specs.types.Table.{node_or_none}
use Rattle.check_heap.specs.declared.fits.needs.Needs.TheVariants as needs
use Rattle.types_table.specs.type_table.Made.{table_of}
use Rattle.check_heap.proofs.scan.ScanNeedLemmas.{needs_are}
use Rattle.check_heap.proofs.scan.straight.meet_all.Goals as goal

pub meet_counted-requires-then-needs_nothing-clause-needs : goal.meet_counted-requires-then-needs_nothing-clause-needs
meet_counted-requires-then-needs_nothing-clause-needs c =
    let graph = c.args.heap.now in
    let v = vals.Ref c.args.o in
    let fits = subst (λ n. IsSome (fields_of graph v (node_or_none n))) c.shape-shape.ensures c.requires.fits in
    let none = c.needs_nothing.ensures graph v c.if-needs_nothing.true fits in
    needs_are (table_of c.args.fitting.table.now) graph c.args.o c.args.ty c.shape-shape.result.now (Some needs.Nothing) needs.Nothing c.shape-shape.ensures (sym none) refl

use Rattle.std.proofs.Common.{rules}
use Rattle.base_data.specs.declared.model.value.Val.TheVariants as vals
use Rattle.types_table.specs.type_table.Made.{table_of}
use Rattle.cert_verify.proofs.certificate.RightLemmas.{worded_there, pair_fits, fixed_is_at_one_type}
use Rattle.cert_verify.proofs.certificate.right.is_right.Goals as goal

pub fits_type-requires-clause-word : goal.fits_type-requires-clause-word
fits_type-requires-clause-word c =
    (vals.Ref c.args.own.object, (worded_there (table_of c.args.stated.fitting.table.now) c.args.stated.heap.now c.args.stated.pairs.now c.args.i c.args.own c.args.stated.there c.requires.own).0, c.requires.own.named)

pub fits_type-requires-clause-node : goal.fits_type-requires-clause-node
fits_type-requires-clause-node c = (worded_there (table_of c.args.stated.fitting.table.now) c.args.stated.heap.now c.args.stated.pairs.now c.args.i c.args.own c.args.stated.there c.requires.own).1

pub shape-shape-requires : goal.shape-shape-requires
shape-shape-requires c = (worded_there (table_of c.args.stated.fitting.table.now) c.args.stated.heap.now c.args.stated.pairs.now c.args.i c.args.own c.args.stated.there c.requires.own).1

pub holds_needs-requires-clause-fits : goal.holds_needs-requires-clause-fits
holds_needs-requires-clause-fits c =
    pair_fits (table_of c.args.stated.fitting.table.now) c.args.stated.heap.now c.args.stated.pairs.now c.args.i c.args.own c.fits_type.result c.args.stated.there c.requires.own
    c.fits_type.ensures c.if-not-fits_type.false

pub holds_needs-requires-clause-one_type : goal.holds_needs-requires-clause-one_type
holds_needs-requires-clause-one_type c =
    fixed_is_at_one_type (table_of c.args.stated.fitting.table.now) c.args.stated.heap.now c.args.stated.pairs.now c.args.own.object c.args.own.ty c.shape-shape.result.now
    c.shape-shape.ensures (search rules)

pub holds_needs-requires-in-Product-false-default-clause-fits : goal.holds_needs-requires-in-Product-false-default-clause-fits
holds_needs-requires-in-Product-false-default-clause-fits c =
    pair_fits (table_of c.args.stated.fitting.table.now) c.args.stated.heap.now c.args.stated.pairs.now c.args.i c.args.own c.fits_type.result c.args.stated.there c.requires.own
    c.fits_type.ensures c.if-not-fits_type.false

pub holds_needs-requires-in-Product-false-default-clause-one_type : goal.holds_needs-requires-in-Product-false-default-clause-one_type
holds_needs-requires-in-Product-false-default-clause-one_type c =
    fixed_is_at_one_type (table_of c.args.stated.fitting.table.now) c.args.stated.heap.now c.args.stated.pairs.now c.args.own.object c.args.own.ty c.shape-shape.result.now
    c.shape-shape.ensures (search rules)

pub holds_needs-requires-in-Bytes-false-clause-fits : goal.holds_needs-requires-in-Bytes-false-clause-fits
holds_needs-requires-in-Bytes-false-clause-fits c =
    pair_fits (table_of c.args.stated.fitting.table.now) c.args.stated.heap.now c.args.stated.pairs.now c.args.i c.args.own c.fits_type.result c.args.stated.there c.requires.own
    c.fits_type.ensures c.if-not-fits_type.false

pub holds_needs-requires-in-Bytes-false-clause-one_type : goal.holds_needs-requires-in-Bytes-false-clause-one_type
holds_needs-requires-in-Bytes-false-clause-one_type c =
    fixed_is_at_one_type (table_of c.args.stated.fitting.table.now) c.args.stated.heap.now c.args.stated.pairs.now c.args.own.object c.args.own.ty c.shape-shape.result.now
    c.shape-shape.ensures (search rules)

pub holds_needs-requires-in-Double-clause-fits : goal.holds_needs-requires-in-Double-clause-fits
holds_needs-requires-in-Double-clause-fits c =
    pair_fits (table_of c.args.stated.fitting.table.now) c.args.stated.heap.now c.args.stated.pairs.now c.args.i c.args.own c.fits_type.result c.args.stated.there c.requires.own
    c.fits_type.ensures c.if-not-fits_type.false

pub holds_needs-requires-in-Double-clause-one_type : goal.holds_needs-requires-in-Double-clause-one_type
holds_needs-requires-in-Double-clause-one_type c =
    fixed_is_at_one_type (table_of c.args.stated.fitting.table.now) c.args.stated.heap.now c.args.stated.pairs.now c.args.own.object c.args.own.ty c.shape-shape.result.now
    c.shape-shape.ensures (search rules)

pub is_any_right-requires-clause-fits : goal.is_any_right-requires-clause-fits
is_any_right-requires-clause-fits c =
    pair_fits (table_of c.args.stated.fitting.table.now) c.args.stated.heap.now c.args.stated.pairs.now c.args.i c.args.own c.fits_type.result c.args.stated.there c.requires.own
    c.fits_type.ensures c.if-not-fits_type.false

use Rattle.std.proofs.Common.{arith, refl}
use Rattle.types_table.specs.type_table.Made.{table_of}
use Rattle.check_heap.proofs.fits.FitsRowLemmas.{is_reference}
use Rattle.cert_verify.proofs.certificate.EntryHeldLemmas.{no_object_held, object_held, unfit_not_held}
use Rattle.cert_verify.proofs.certificate.held.is_held.Goals as goal

pub is_among-requires-clause-there : goal.is_among-requires-clause-there
is_among-requires-clause-there c = λ k o t at. let there = (c.args.stated.there k (o, t) at).1 in omega (arith, there, c.holds.ensures.lawful.classed)

pub number-object-requires : goal.number-object-requires
number-object-requires c = is_reference c.args.stated.heap.now c.args.word c.requires.word c.if-word-ne0.false

pub returns-then-not-fits_type : goal.returns-then-not-fits_type
returns-then-not-fits_type c v valid is =
    let never = unfit_not_held (table_of c.args.stated.fitting.table.now) c.args.stated.heap.now c.args.stated.pairs.now c.args.ty v c.fits_type.result
    (c.fits_type.ensures v valid is) c.if-not-fits_type.true in
    (λ yes'. cc yes', λ held. absurd (never held))

pub returns-then-word-ne0 : goal.returns-then-word-ne0
returns-then-word-ne0 c v valid is =
    let fits = (c.fits_type.ensures v valid is).0 c.if-not-fits_type.false in (
      λ yes'. no_object_held (table_of c.args.stated.fitting.table.now) c.args.stated.heap.now c.args.stated.pairs.now c.args.ty v c.args.word is c.if-word-ne0.true fits,
      λ held. refl,
    )

pub returns : goal.returns
returns c v valid is =
    object_held (table_of c.args.stated.fitting.table.now) c.args.stated.heap.now c.args.stated.pairs.now c.args.ty v c.args.word c.number-object.result c.is_among.result
    c.count-count.ensures.heap.is_graph valid is c.number-object.ensures.in_range c.number-object.ensures.named
    ((c.fits_type.ensures v valid is).0 c.if-not-fits_type.false) c.is_among.ensures

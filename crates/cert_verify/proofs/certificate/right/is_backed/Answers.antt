use Rattle.std.proofs.Common.{sym, subst}
use Rattle.std.proofs.lemmas.Bool.{OnTrue_at, OnTrue_from}
use Rattle.types_table.specs.type_table.Made.{table_of}
use Rattle.check_heap.proofs.fits.FitsRowLemmas.{is_reference}
use Rattle.cert_verify.specs.certificate.Testing.{StandsAt}
use Rattle.cert_verify.proofs.certificate.RightLemmas.{stands_backed, fits_backed}
use Rattle.cert_verify.proofs.certificate.right.is_backed.Goals as goal

pub returns-then-word-ne0 : goal.returns-then-word-ne0
returns-then-word-ne0 c =
    fits_backed (table_of c.args.stated.fitting.table.now) c.args.stated.heap.now c.args.stated.pairs.now c.args.word c.args.ty c.fits_type.result c.if-word-ne0.true c.fits_type.ensures

pub returns-then-ty-near : goal.returns-then-ty-near
returns-then-ty-near c =
    let t = table_of c.args.stated.fitting.table.now in
    stands_backed t c.args.stated.heap.now c.args.stated.pairs.now c.holds.ensures.lawful.lawful c.count-count.ensures.heap.is_graph c.args.word c.args.ty
    (λ asked. subst (λ w. StandsAt t c.args.stated.heap.now c.args.stated.pairs.now w c.args.ty) (sym c.if-word-near.true)
    (subst (λ u. StandsAt t c.args.stated.heap.now c.args.stated.pairs.now c.args.near.word u) (sym c.if-ty-near.true) c.requires.near))

pub is_listed-requires-clause-word : goal.is_listed-requires-clause-word
is_listed-requires-clause-word c = is_reference c.args.stated.heap.now c.args.word c.requires.word c.if-word-ne0.false

pub returns : goal.returns
returns c =
    let t = table_of c.args.stated.fitting.table.now in
    OnTrue_from c.is_listed.result _
    (λ yes'. stands_backed t c.args.stated.heap.now c.args.stated.pairs.now c.holds.ensures.lawful.lawful c.count-count.ensures.heap.is_graph c.args.word c.args.ty
    (OnTrue_at yes' c.is_listed.ensures))

use Rattle.std.proofs.Common.{◌<◌, ◌∙◌, length, ap, subst, arith}
use Rattle.std.specs.Prelude.{slice_get}
use Rattle.check_heap.specs.fits.Needs.{needs_in}
use Rattle.check_heap.proofs.fits.FitsNeedLemmas.{length-numbered, length-each, slice_get-numbered, slice_get-replicate}
use Rattle.std.specs.Prelude.{replicate}
use Rattle.check_heap.proofs.fits.needs.Needs.get.Goals as goal

pub type_at-requires : goal.type_at-requires
type_at-requires c =
    let within = subst (λ n. c.args.k < length (needs_in n)) c.in-Listed.is c.requires in
    omega (arith, within, length-numbered 0 c.in-Listed.types.now)

pub returns-in-Listed : goal.returns-in-Listed
returns-in-Listed c =
    ap (λ n. slice_get (needs_in n) c.args.k) c.in-Listed.is
    ∙ slice_get-numbered c.in-Listed.types.now c.args.k c.type_at.result c.type_at.ensures

pub returns-in-Each : goal.returns-in-Each
returns-in-Each c =
    let within = subst (λ n. c.args.k < length (needs_in n)) c.in-Each.is c.requires in
    let size = c.in-Each.field-0 in
    ap (λ n. slice_get (needs_in n) c.args.k) c.in-Each.is
    ∙ slice_get-numbered (replicate size c.in-Each.ty) c.args.k c.in-Each.ty
    (slice_get-replicate size c.args.k c.in-Each.ty (omega (arith, within, length-each size c.in-Each.ty)))

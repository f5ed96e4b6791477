use Rattle.std.proofs.Common.{◌∙◌, ap, sym}
use Rattle.std.specs.Prelude.{replicate}
use Rattle.types_spec.specs.types.Fault.{type_of_field}
use Rattle.check_heap.specs.fits.Needs.{needs_in}
use Rattle.check_heap.proofs.fits.FitsNeedLemmas.{type_of_field-numbered, slice_get-replicate, slice_get-replicate_past}
use Rattle.check_heap.proofs.fits.needs.Needs.type_of.Goals as goal

pub returns-in-Listed : goal.returns-in-Listed
returns-in-Listed c =
    c.type_if_there.ensures
    ∙ sym (ap (λ n. type_of_field (needs_in n) c.args.i) c.in-Listed.is ∙ type_of_field-numbered c.in-Listed.types.now c.args.i)

pub returns-then-i-size : goal.returns-then-i-size
returns-then-i-size c =
    let size = c.in-Each.size in
    let ty = c.in-Each.ty in
    sym (ap (λ n. type_of_field (needs_in n) c.args.i) c.in-Each.is ∙ type_of_field-numbered (replicate size ty) c.args.i
    ∙ slice_get-replicate size c.args.i ty c.if-i-size.true)

pub returns-else-i-size : goal.returns-else-i-size
returns-else-i-size c =
    let size = c.in-Each.size in
    let ty = c.in-Each.ty in
    sym (ap (λ n. type_of_field (needs_in n) c.args.i) c.in-Each.is ∙ type_of_field-numbered (replicate size ty) c.args.i
    ∙ slice_get-replicate_past size c.args.i ty c.if-i-size.false)

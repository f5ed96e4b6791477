use Rattle.std.proofs.Common.{◌∙◌, sym, subst}
use Rattle.types_spec.specs.types.Reached.{ReachesTooMany}
use Rattle.cli_spec.specs.Outcome.{asked_with}
use Rattle.run_types.proofs.RequestedTypeLemmas.{type_refused, type_too_many}
use Rattle.run_types.proofs.requested_texts.read_requested.Goals as goal

pub returns-in-Err : goal.returns-in-Err
returns-in-Err c = rw (← c.as_slice.ensures) (type_refused c.as_slice.result.now (asked_with c.args.type_text.now c.args.lines c.args.decimal) c.in-Err.fault c.type_exit.result c.in-Err.ensures.fault c.type_exit.ensures)

pub returns-in-Err-TooManyTypes : goal.returns-in-Err-TooManyTypes
returns-in-Err-TooManyTypes c =
    let many : ReachesTooMany c.as_slice-2.result.now c.in-Ok.ty = rw c.in-Err-TooManyTypes.field-0-is at c.in-Err-TooManyTypes.ensures.err in
    rw (← c.as_slice.ensures)
    (type_too_many c.as_slice.result.now (asked_with c.args.type_text.now c.args.lines c.args.decimal) c.in-Ok.ty c.in-Ok.ensures.written
    (subst (λ d. ReachesTooMany d c.in-Ok.ty) (c.as_slice-2.ensures ∙ sym c.as_slice.ensures) many)
    c.refused_type.result c.refused_type.ensures)

use Rattle.std.proofs.Common.{rules, ◌≡◌, ◌*◌, length, take, drop, ap, subst, sym, ◌∙◌, arith, length-drop}
use Rattle.std.proofs.lemmas.Result.{on_ok_weaker}
use Rattle.base_data.specs.declared.model.code.CodeKind.{CodeKind}
use Rattle.base_data.specs.declared.model.code.CodeKind.TheVariants as kinds
use Rattle.marshal_heap.specs.heap.Heap.{custom_object}
use Rattle.marshal_spec.specs.format.Raw.{measure_after}
use Rattle.marshal_spec.specs.format.Token.{EncodesAfter, measure_of, leaf_measure}
use Rattle.marshal_spec.proofs.format.EncodeLemmas.{encoded_measure}
use Rattle.marshal_read.specs.Build.{absorb_in, Fits}
use Rattle.marshal_spec.proofs.format.ContentLemmas.{doubles_whole}
use Rattle.marshal_read.proofs.decode.decode.Goals as goal
use Rattle.marshal_read.proofs.decode.decode.Goals.{In-Doubles}
use Rattle.base_data.specs.model.Bytes.{number}

-- The contents of an array have eight bytes for each double.
whole_doubles : (c : In-Doubles) → length (drop c.in-Doubles.width c.args.rest.now) ≡ 8 * number (take c.in-Doubles.width c.args.rest.now)
whole_doubles c =
    let h = c.requires.encoded in
    doubles_whole c.in-Doubles.width c.in-Doubles.little c.args.rest.now h.0 (subst (λ (k : CodeKind). EncodesAfter k c.args.rest.now h.0) c.in-Doubles.is h.1)

pub doubles-requires-clause-small : goal.doubles-requires-clause-small
doubles-requires-clause-small c =
    let whole = whole_doubles (goal.at.doubles-requires-clause-small c).In-Doubles in
    omega (arith, length-drop c.in-Doubles.width c.args.rest.now)

pub doubles-requires-clause-whole : goal.doubles-requires-clause-whole
doubles-requires-clause-whole c =
    let whole = whole_doubles (goal.at.doubles-requires-clause-whole c).In-Doubles in
    let width : c.from-in-Doubles.result ≡ c.in-Doubles.width = search rules in
    cc (whole, width)

pub returns-in-Custom : goal.returns-in-Custom
returns-in-Custom c =
    on_ok_weaker c.custom.result (λ e t s.
    e ∙ ap (absorb_in c.args.builder.now) (sym (c.custom_value.ensures t (subst (λ (k : CodeKind). EncodesAfter k c.args.rest.now t) c.in-Custom.is s)))) c.custom.ensures

pub custom-requires : goal.custom-requires
custom-requires c =
    let h = c.requires.encoded in
    let encoded : EncodesAfter (kinds.Custom c.in-Custom.field-0) c.args.rest.now h.0 = subst (λ (k : CodeKind). EncodesAfter k c.args.rest.now h.0) c.in-Custom.is h.1 in
    let same : measure_after c.args.kind.kind c.args.rest.now ≡ leaf_measure (custom_object c.custom_value.result) =
    encoded_measure c.args.kind.kind c.args.rest.now h.0 h.1 ∙ ap measure_of (c.custom_value.ensures h.0 encoded) in
    subst (Fits c.args.builder.now) same c.requires.fits

use Rattle.std.proofs.Common.{rules, ℕ, List, Option, ◌≡◌, drop, length, subst, ap, sym, ◌∙◌, arith, Some, FitsSigned, w32, w64, to_z, of_z, length-drop}
use Rattle.std.proofs.lemmas.Int.{to_z-of_z}
use Rattle.base_data.specs.declared.model.value.Obj.TheVariants as objects
use Rattle.marshal_spec.specs.format.Token.{leaf}
use Rattle.marshal_spec.specs.format.Code.{custom_of}
use Rattle.base_data.specs.declared.model.code.CustomKind.{CustomKind}
use Rattle.base_data.specs.declared.model.code.CustomKind.TheVariants as customs
use Rattle.base_data.specs.model.Bytes.{signed}
use Rattle.base_data.proofs.model.Numbers.{are_bytes}
use Rattle.marshal_spec.proofs.format.ContentLemmas.{data_at, native_at, fits_four}
use Rattle.test_oracles.proofs.token.custom_token.Goals as goal

-- Two equal identifiers name one custom type.
named : {first three : List ℕ} {found kind : Option CustomKind} → first ≡ three → found ≡ custom_of first → found ≡ kind → kind ≡ custom_of three
named e f g = sym g ∙ (f ∙ ap custom_of e)

pub signed-requires-clause-few : goal.signed-requires-clause-few
signed-requires-clause-few c =
    let encoded = data_at (Some customs.Int32) c.args.rest.now c.requires.0 c.requires.1 (named c.first.ensures c.custom_of.ensures (search rules)) in
    omega (arith, ap length c.skip.ensures, length-drop 3 c.args.rest.now)

pub overflow_cast-result : goal.overflow_cast-result
overflow_cast-result c =
    let encoded = data_at (Some customs.Int32) c.args.rest.now c.requires.0 c.requires.1 (named c.first.ensures c.custom_of.ensures (search rules)) in
    let fits = fits_four c.args.rest.now (are_bytes _ c.type_inv.rest) encoded.0 in
    let wide : FitsSigned w64 c.signed.result = search rules in
    let is : to_z w64 (of_z w64 c.signed.result) ≡ signed (drop 3 c.args.rest.now) = to_z-of_z w64 c.signed.result wide ∙ c.signed.ensures ∙ ap signed c.skip.ensures in
    subst (FitsSigned w32) (sym is) fits

pub signed-requires-in-Some-Int64-clause-few : goal.signed-requires-in-Some-Int64-clause-few
signed-requires-in-Some-Int64-clause-few c =
    let encoded = data_at (Some customs.Int64) c.args.rest.now c.requires.0 c.requires.1 (named c.first.ensures c.custom_of.ensures (search rules)) in
    omega (arith, ap length c.skip-in-Some-Int64.ensures, length-drop 3 c.args.rest.now)

pub returns-in-Some-Int32 : goal.returns-in-Some-Int32
returns-in-Some-Int32 c = λ t s.
    let rest = c.args.rest.now in
    let encoded = data_at (Some customs.Int32) rest t s (named c.first.ensures c.custom_of.ensures (search rules)) in
    let fits = fits_four rest (are_bytes _ c.type_inv.rest) encoded.0 in
    let wide : FitsSigned w64 c.signed.result = search rules in
    let read : to_z w64 (of_z w64 c.signed.result) ≡ signed (drop 3 rest) = to_z-of_z w64 c.signed.result wide ∙ c.signed.ensures ∙ ap signed c.skip.ensures in
    let narrow : to_z w32 (of_z w32 (to_z w64 (of_z w64 c.signed.result))) ≡ signed (drop 3 rest) = ap (λ z. to_z w32 (of_z w32 z)) read ∙ to_z-of_z w32 (signed (drop 3 rest)) fits in
    ap (λ z. leaf (objects.I32 z)) narrow ∙ sym encoded.1

pub returns-in-Some-Int64 : goal.returns-in-Some-Int64
returns-in-Some-Int64 c = λ t s.
    let rest = c.args.rest.now in
    let result = c.signed-in-Some-Int64.result in
    let encoded = data_at (Some customs.Int64) rest t s (named c.first.ensures c.custom_of.ensures (search rules)) in
    let wide : FitsSigned w64 result = search rules in
    let read : to_z w64 (of_z w64 result) ≡ signed (drop 3 rest) = to_z-of_z w64 result wide ∙ c.signed-in-Some-Int64.ensures ∙ ap signed c.skip-in-Some-Int64.ensures in
    ap (λ z. leaf (objects.I64 z)) read ∙ sym encoded.1

pub returns-in_default : goal.returns-in_default
returns-in_default c = λ t s.
    let rest = c.args.rest.now in
    let result = c.signed-in_default.result in
    let no_32 : c.custom_of.result ≡ Some customs.Int32 → ⊥ = search rules in
    let no_64 : c.custom_of.result ≡ Some customs.Int64 → ⊥ = search rules in
    let encoded = native_at c.custom_of.result rest t s (c.custom_of.ensures ∙ ap custom_of c.first.ensures) no_32 no_64 in
    let wide : FitsSigned w64 result = search rules in
    let read : to_z w64 (of_z w64 result) ≡ signed (drop 4 rest) = to_z-of_z w64 result wide ∙ c.signed-in_default.ensures ∙ ap signed c.skip-in_default.ensures in
    ap (λ z. leaf (objects.Native z)) read ∙ sym encoded.2

use Rattle.std.proofs.Common.{rules, ℕ, ◌≡◌, ◌^◌, ◌<◌, length, arith, ap, ap₂, sym, ◌∙◌}
use Rattle.std.proofs.lemmas.Int.{to_z-of_z}
use Rattle.std.specs.Int.{w64, cast_signed}
use Rattle.base_data.specs.model.Bytes.{twos_complement}
use Rattle.marshal_codec.proofs.token.token_number.signed_eight.Goals as goal

halves : (n : ℕ) → n < 2 ^ 64 → cast_signed w64 n ≡ twos_complement (2 ^ 64) n
halves n h = grind arith

pub returns : goal.returns
returns c =
    let bytes = c.args.bytes.now in
    let numbers : 2 ^ 64 ≡ 256 ^ length bytes = sym (ap (λ n. 256 ^ n) c.requires) in
    to_z-of_z w64 c.cast_signed.result (search rules) ∙ c.cast_signed.ensures ∙ halves c.eight.result (omega arith) ∙ ap₂ twos_complement numbers c.eight.ensures

use Rattle.std.proofs.Common.{rules, ℕ, ◌≡◌, ◌^◌, ◌<◌, List, [], ◌∷◌, length, get_or, arith, refl, ap, ap₂, sym, ◌∙◌}
use Rattle.std.proofs.lemmas.Int.{to_z-of_z}
use Rattle.std.specs.Int.{w32, w64, from_be_bytes, cast_signed}
use Rattle.base_data.specs.model.Bytes.{number, twos_complement}
use Rattle.marshal_codec.proofs.token.token_number.signed_four.Goals as goal

-- `from_be_bytes` and `number` decode four bytes to one number.
four_bytes : (a b c d : ℕ) → from_be_bytes w32 (a ∷ b ∷ c ∷ d ∷ []) ≡ number (a ∷ b ∷ c ∷ d ∷ [])
four_bytes a b c d = omega arith

listed : (bytes : List ℕ) → length bytes ≡ 4 → get_or bytes 0 0 ∷ get_or bytes 1 0 ∷ get_or bytes 2 0 ∷ get_or bytes 3 0 ∷ [] ≡ bytes
listed (a ∷ b ∷ c ∷ d ∷ []) e = refl
listed [] e = absurd (omega arith)
listed (a ∷ []) e = absurd (omega arith)
listed (a ∷ b ∷ []) e = absurd (omega arith)
listed (a ∷ b ∷ c ∷ []) e = absurd (omega arith)
listed (a ∷ b ∷ c ∷ d ∷ x ∷ xs) e = absurd (omega arith)

halves : (n : ℕ) → n < 2 ^ 32 → cast_signed w32 n ≡ twos_complement (2 ^ 32) n
halves n h = grind arith

pub returns : goal.returns
returns c =
    let bytes = c.args.bytes.now in
    let v = c.from_be_bytes-value.result in
    let value : v ≡ number bytes = c.from_be_bytes-value.ensures ∙ four_bytes (get_or bytes 0 0) (get_or bytes 1 0) (get_or bytes 2 0) (get_or bytes 3 0) ∙ ap number (listed bytes c.requires) in
    let same : c.from.result ≡ c.cast_signed.result = search rules in
    let numbers : 2 ^ 32 ≡ 256 ^ length bytes = sym (ap (λ n. 256 ^ n) c.requires) in
    to_z-of_z w64 c.from.result (search rules) ∙ same ∙ c.cast_signed.ensures ∙ halves v (omega arith) ∙ ap₂ twos_complement numbers value

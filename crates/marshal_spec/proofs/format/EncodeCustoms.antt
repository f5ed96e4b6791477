-- The bytes that identify a custom block.
use Rattle.std.proofs.Common.{ℕ, ◌≡◌, Bool, true, false, ◌&&◌, cond, eqb, [], ◌∷◌, Some, None, refl, eqb-true}
use Rattle.base_data.specs.declared.model.code.CustomKind.{CustomKind}
use Rattle.base_data.specs.declared.model.code.CustomKind.TheVariants as customs
use Rattle.marshal_spec.specs.format.Code.{custom_of}

-- The middle byte of a custom block's identifier.
abbrev pub custom_letter : CustomKind → ℕ
custom_letter customs.Int32 = 105
custom_letter customs.Int64 = 106
custom_letter customs.Native = 110

-- The test, among three tests, that belongs to the kind of the custom block.
pick : Bool → Bool → Bool → CustomKind → Bool
pick p q r customs.Int32 = p
pick p q r customs.Int64 = q
pick p q r customs.Native = r

-- If three bytes are found to be an identifier of a kind, then the tests of that kind succeeded.
choice : (x y p q r : Bool) (kind : CustomKind) → cond (x && y) (cond p (Some customs.Int32) (cond q (Some customs.Int64) (cond r (Some customs.Native) None))) None ≡ Some kind → (x ≡ true) × (y ≡ true) × (pick p q r kind ≡ true)
unfolding pick
choice false y p q r kind e = absurd (cc)
choice true false p q r kind e = absurd (cc)
choice true true true q r customs.Int32 e = (refl, refl, refl)
choice true true true q r customs.Int64 e = absurd (cc)
choice true true true q r customs.Native e = absurd (cc)
choice true true false true r customs.Int32 e = absurd (cc)
choice true true false true r customs.Int64 e = (refl, refl, refl)
choice true true false true r customs.Native e = absurd (cc)
choice true true false false true customs.Int32 e = absurd (cc)
choice true true false false true customs.Int64 e = absurd (cc)
choice true true false false true customs.Native e = (refl, refl, refl)
choice true true false false false kind e = absurd (cc)

-- If a kind's test of the middle byte succeeded, then the byte is the kind's middle byte.
picked : (b : ℕ) (kind : CustomKind) → pick (eqb b 105) (eqb b 106) (eqb b 110) kind ≡ true → b ≡ custom_letter kind
unfolding pick
picked b customs.Int32 e = eqb-true b 105 e
picked b customs.Int64 e = eqb-true b 106 e
picked b customs.Native e = eqb-true b 110 e

-- If three bytes are an identifier of a kind, then the bytes are `_`, the kind's letter and 0.
pub custom_of_parts : (a b c : ℕ) (kind : CustomKind) → custom_of (a ∷ b ∷ c ∷ []) ≡ Some kind → (a ≡ 95) × (b ≡ custom_letter kind) × (c ≡ 0)
unfolding custom_of
custom_of_parts a b c kind e =
    let parts = choice (eqb a 95) (eqb c 0) (eqb b 105) (eqb b 106) (eqb b 110) kind e in
    (eqb-true a 95 parts.0, picked b kind parts.2, eqb-true c 0 parts.1)

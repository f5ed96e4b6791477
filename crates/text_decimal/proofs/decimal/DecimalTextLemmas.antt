-- The text of a double is the value of `double_text` at its bits.
use Rattle.std.proofs.Common.{◌≡◌, ℕ, ◌++◌, Bool, true, false, cond, eqb, leb, List, Option, Some, None, refl, inl, inr, arith, eqb-true}
use Rattle.std.proofs.lemmas.Bool.{eqb-false, leb-true, leb-false}
use Rattle.std.specs.Prelude.{codes}
use Rattle.std.specs.Fmt.{sign_text}
use Rattle.text_print.specs.leaves.LeafTexts.{float_text}
use Rattle.text_decimal.specs.decimal.Doubles.{is_negative, size_of, infinite, IsSome}
use Rattle.text_decimal.specs.decimal.Layout.{IsDoubleText}
use Rattle.text_decimal.specs.decimal.Shortest.{shortest_of, decimal_or_bits, double_text}
use Rattle.text_decimal.proofs.decimal.UniqueLemmas.{one_text}
use Rattle.text_decimal.proofs.decimal.ShortestLemmas.{IsFound, shortest_found}

by_decimal : (bits : ℕ) → IsSome (size_of bits) → (found : Option (ℕ × ℕ)) → IsFound (size_of bits) found → IsDoubleText bits (decimal_or_bits bits found)
by_decimal bits some None none = inr (inr (record { none = inr (some, none); text_is = refl }))
by_decimal bits some (Some d) is = inr (inl (record { some = some; digits = d.0; power = d.1; shortest = is; text_is = refl }))

by_size : (bits : ℕ) (none big : Bool) → eqb (size_of bits) 0 ≡ none → leb infinite (size_of bits) ≡ big
    → IsDoubleText bits (cond none (sign_text (is_negative bits) ++ codes "0.") (cond big (float_text bits) (decimal_or_bits bits (shortest_of (size_of bits)))))
by_size bits true big e f = inl (record { zero_is = eqb-true (size_of bits) 0 e; text_is = refl })
by_size bits false true e f = inr (inr (record { none = inl (leb-true infinite (size_of bits) f); text_is = refl }))
by_size bits false false e f =
    let n = eqb-false (size_of bits) 0 e in
    let some : IsSome (size_of bits) = (omega (arith, n), leb-false infinite (size_of bits) f) in
    by_decimal bits some (shortest_of (size_of bits)) (shortest_found (size_of bits) some)

pub double_text_is : (bits : ℕ) → IsDoubleText bits (double_text bits)
unfolding double_text
double_text_is bits = by_size bits (eqb (size_of bits) 0) (leb infinite (size_of bits)) refl refl

pub is_double_text : (bits : ℕ) (text : List ℕ) → IsDoubleText bits text → text ≡ double_text bits
is_double_text bits text is = one_text bits text (double_text bits) is (double_text_is bits)

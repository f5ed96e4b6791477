-- A double has one shortest decimal, and one text.
use Rattle.std.proofs.Common.{◌≡◌, ℕ, ◌+◌, ◌%◌, ◌<◌, ◌≤◌, ◌++◌, List, sym, ◌∙◌, subst, inl, inr, arith}
use Rattle.std.proofs.lemmas.Bool.{cases_lt}
use Rattle.std.specs.Fmt.{sign_text}
use Rattle.text_decimal.specs.decimal.Doubles.{IsSome, is_negative, size_of, Reads, IsShortest, decimal_units, double_units, distance}
use Rattle.text_decimal.specs.decimal.Layout.{IsDecimalOf, IsByBits, IsDoubleText, size_text}
use Rattle.text_decimal.proofs.decimal.NearestLemmas.{between}
use Rattle.text_decimal.proofs.decimal.ClosestLemmas.{gap, some_unit, more, units_mono}

-- A point between two equally distant points is nearer than the two points.
inside : (x u m z y : ℕ) → 0 < u → m ≡ x + u → m + u ≤ z → gap x y ≡ gap z y → gap x y ≤ gap m y → ⊥
inside x u m z y p e h same k = omega arith

-- If two decimals are equally near and read as the double, then no digits between the two decimals
-- are farther from the double.
pub none_between : (size d e power : ℕ) → IsSome size → Reads size d power → Reads size e power → d + 1 < e → distance size d power ≡ distance size e power
    → (Reads size (d + 1) power → distance size d power ≤ distance size (d + 1) power) → ⊥
none_between size d e power some r t l same near =
    let middle : Reads size (d + 1) power = record {
      some = omega arith;
      few = omega (arith, t.few);
      nearest = between size d (d + 1) e power some (omega arith) (omega arith) r.nearest t.nearest;
    } in
    inside (decimal_units d power) (decimal_units 1 power) (decimal_units (d + 1) power) (decimal_units e power) (double_units size power) (some_unit power) (more d power)
    (omega (arith, more (d + 1) power, units_mono (d + 1 + 1) e power (omega arith))) same (near middle)

-- Of two shortest decimals with one power, the first is not less than the second.
no_two : (size d e power : ℕ) → IsSome size → IsShortest size d power → IsShortest size e power → d < e → ⊥
no_two size d e power some s t l =
    let same : distance size d power ≡ distance size e power = omega (arith, s.closest e t.reads, t.closest d s.reads) in
    let de : d % 2 ≡ 0 = s.even e t.reads (λ q. omega arith) same in
    let ee : e % 2 ≡ 0 = t.even d s.reads (λ q. omega arith) (sym same) in
    none_between size d e power some s.reads t.reads (omega arith) same (s.closest (d + 1))

pub one_shortest : (size d p e q : ℕ) → IsSome size → IsShortest size d p → IsShortest size e q → (d ≡ e) × (p ≡ q)
one_shortest size d p e q some s t =
    let powers : p ≡ q = omega (arith, s.highest e q t.reads, t.highest d p s.reads) in
    let u : IsShortest size e p = subst (IsShortest size e) (sym powers) t in (
      elim (cases_lt d e) [
        | inl l ↦ absurd (no_two size d e p some s u l)
        | inr g ↦ elim (cases_lt e d) [ inl l ↦ absurd (no_two size e d p some u s l) | inr h ↦ omega arith ]
      ],
      powers,
    )

by_bits_alone : (bits : ℕ) (text other : List ℕ) → IsDecimalOf bits text → IsByBits bits other → ⊥
by_bits_alone bits text other d b =
    elim b.none [
      | inl i ↦ omega (arith, d.some.1)
      | inr n ↦ n.1 d.digits d.power d.shortest.reads
    ]

pub one_text : (bits : ℕ) (text other : List ℕ) → IsDoubleText bits text → IsDoubleText bits other → text ≡ other
one_text bits text other (inl z) (inl w) = z.text_is ∙ sym w.text_is
one_text bits text other (inl z) (inr (inl d)) = absurd (omega (arith, z.zero_is, d.some.0))
one_text bits text other (inl z) (inr (inr b)) = elim b.none [ inl i ↦ absurd (omega (arith, z.zero_is)) | inr n ↦ absurd (omega (arith, z.zero_is, n.0.0)) ]
one_text bits text other (inr (inl d)) (inl z) = absurd (omega (arith, z.zero_is, d.some.0))
one_text bits text other (inr (inl d)) (inr (inl e)) =
    let one = one_shortest (size_of bits) d.digits d.power e.digits e.power d.some d.shortest e.shortest in
    d.text_is ∙ (λ i. sign_text (is_negative bits) ++ size_text (one.0 i) (one.1 i)) ∙ sym e.text_is
one_text bits text other (inr (inl d)) (inr (inr b)) = absurd (by_bits_alone bits text other d b)
one_text bits text other (inr (inr b)) (inl z) = elim b.none [ inl i ↦ absurd (omega (arith, z.zero_is)) | inr n ↦ absurd (omega (arith, z.zero_is, n.0.0)) ]
one_text bits text other (inr (inr b)) (inr (inl d)) = absurd (by_bits_alone bits other text d b)
one_text bits text other (inr (inr b)) (inr (inr c)) = b.text_is ∙ sym c.text_is

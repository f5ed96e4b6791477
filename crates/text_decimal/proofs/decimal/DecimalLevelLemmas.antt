-- If a double is neither below nor above a positive double, then the two doubles are equal.
use Rattle.std.proofs.Common.{◌≡◌, ℕ, zero, suc, ◌+◌, ◌-◌, ◌*◌, ◌/◌, ◌^◌, ◌<◌, ◌≤◌, Bool, true, false, cond, eqb, ltb, ◌&&◌, ◌||◌, ◌⊎◌, T, refl, sym, ap, ◌∙◌, inl, inr, arith, true≢false}
use native.Mathlib.Nat.{mul-div_cancel, eq_of_mul-eq-mul_right}
use lib.Dec.{eqb→eq, ltb→lt}
use lib.Ieee.{Float, Format, nan, inf, fin, prec, low, hid, top, up, down, size, le, lt, eq, fits, of_bits, to_bits}
use lib.Ieee.Fits.{down_pos, and_l, and_r}
use lib.Ieee.Bits.{of_bits-to_bits}
use lib.Ieee.Exact.{HasValue}

-- ---- two doubles with one value are equal

bits_of_value : (f : Format) (x : Float) (s : Bool) (a : ℕ) → HasValue x s a (2 ^ low f)
    → to_bits f x ≡ cond s (top f) 0 + (size a - prec f) * hid f + a / 2 ^ (size a - prec f)
unfolding to_bits
bits_of_value f nan s a v = absurd v
bits_of_value f (inf t) s a v = absurd v
bits_of_value f (fin t m e) s a v =
    let n : m * up e * 2 ^ low f / down e ≡ a = ap (λ (k : ℕ). k / down e) v.1 ∙ mul-div_cancel a (down_pos e) in
    λ i. cond (v.0 i) (top f) 0 + (size (n i) - prec f) * hid f + n i / 2 ^ (size (n i) - prec f)

pub same_value : (f : Format) (x y : Float) (s : Bool) (a : ℕ) → T (fits f x) → T (fits f y) → HasValue x s a (2 ^ low f) → HasValue y s a (2 ^ low f) → x ≡ y
same_value f x y s a p q v w = sym (of_bits-to_bits f x p) ∙ ap (of_bits f) (bits_of_value f x s a v ∙ sym (bits_of_value f y s a w)) ∙ of_bits-to_bits f y q

-- ---- a double that is level with another one has the same value

either : (a b : Bool) → T (a || b) → T a ⊎ T b
either true b t = inl tt
either false b t = inr t

both : (a b : ℕ) → T (ltb a b || (eqb a b && true)) → T (ltb b a || (eqb b a && true)) → a ≡ b
both a b h k = omega (arith, at_most a b h, at_most b a k)
  where
    at_most : (x y : ℕ) → T (ltb x y || (eqb x y && true)) → x ≤ y
    at_most x y t = elim (either (ltb x y) (eqb x y && true) t) [ inl l ↦ omega (arith, ltb→lt x y l) | inr e ↦ omega (arith, eqb→eq x y (and_l (eqb x y) true e)) ]

none_level : (a b : ℕ) → 0 < a → T (false || (eqb a b && (false || eqb a 0))) → ⊥
none_level a b p t = omega (arith, eqb→eq a 0 (and_r (eqb a b) (eqb a 0) t))

crossed : (u v a c d e : ℕ) → 0 < e → u * c ≡ a * e → u * d ≡ v * e → v * c ≡ a * d
crossed u v a c d e E p q = eq_of_mul-eq-mul_right e E _ _ (omega (arith, ap (λ (k : ℕ). k * c) q, ap (λ (k : ℕ). k * d) p))

positive : (u a c e d : ℕ) → 0 < a → 0 < c → 0 < e → 0 < d → u * c ≡ a * e → 0 < u * d
positive zero a c e d A C E D p = omega (arith, native.Mathlib.Nat.mul-pos A E)
positive (suc u) a c e d A C E D p = let s : 0 < suc u = omega arith in native.Mathlib.Nat.mul-pos s D

pub value_of_level : (r v : Float) (a c : ℕ) → 0 < a → 0 < c → HasValue r false a c → T (le r v) → T (le v r) → HasValue v false a c
unfolding le lt eq
value_of_level nan v a c A C p h k = absurd p
value_of_level (inf s) v a c A C p h k = absurd p
value_of_level (fin true m e) v a c A C p h k = absurd (true≢false p.0)
value_of_level (fin false m e) nan a c A C p h k = absurd h
value_of_level (fin false m e) (inf true) a c A C p h k = absurd h
value_of_level (fin false m e) (inf false) a c A C p h k = absurd k
value_of_level (fin false m e) (fin true n d) a c A C p h k = absurd (none_level (m * up e * down d) (n * up d * down e) (positive (m * up e) a c (down e) (down d) A C (down_pos e) (down_pos d) p.1) h)
value_of_level (fin false m e) (fin false n d) a c A C p h k =
    (refl, crossed (m * up e) (n * up d) a c (down d) (down e) (down_pos e) p.1 (both (m * up e * down d) (n * up d * down e) h k))

-- The split before the first occurrence of a byte is unique.
use Rattle.std.proofs.Common.{ℕ, ◌<◌, ◌≤◌, ◌+◌, ◌-◌, ◌≡◌, ◌∙◌, ◌⊎◌, ⊎_elim, inl, inr, Bool, true, false, cond, List, [], ◌∷◌, ◌++◌, length, take, drop, get_or, refl, sym, ap, subst, arith}
use Rattle.std.specs.Prelude.{Contains, ◌==◌}
use Rattle.std.proofs.lemmas.Bool.{false≢true}
use Rattle.std.proofs.lemmas.Bool.Decides.{Decides-eqb}
use Rattle.std.proofs.lemmas.List.Elements.{Contains-append_cases}
use Rattle.std.proofs.lemmas.List.{take-append-drop, length-take-le, get_or_default, get_or-take, drop_more, drop_all, take_rest}
use Rattle.base_data.proofs.model.Options.{Contains-first, Contains-later, Contains-none, Contains-cases, same_or_not}
use Rattle.cert_format.specs.CertificateReading.{BeginsAt, IsCut}

-- ---- bytes that do not occur

pub lacks_append : (a b : List ℕ) (c : ℕ) → ¬ Contains a c → ¬ Contains b c → ¬ Contains (a ++ b) c
lacks_append a b c one two among = ⊎_elim one two (Contains-append_cases a b c among)

pub lacks_more : (b : ℕ) (bs : List ℕ) (c : ℕ) → ¬ (b ≡ c) → ¬ Contains bs c → ¬ Contains (b ∷ bs) c
lacks_more b bs c one two among = ⊎_elim one two (Contains-cases b bs c among)

unfoldable pub has : ℕ → List ℕ → Bool
has c [] = false
has c (b ∷ bs) = cond (b == c) true (has c bs)

neither : (x y : Bool) → cond x true y ≡ false → (x ≡ false) × (y ≡ false)
neither true y is = absurd (false≢true (sym is))
neither false y is = (refl, is)

-- If the test `has` finds no occurrence of a byte, then the byte does not occur. The test is
-- computed for literal bytes.
pub lacks_by_test : (c : ℕ) (bs : List ℕ) → has c bs ≡ false → ¬ Contains bs c
unfolding has
lacks_by_test c [] test among = Contains-none c among
lacks_by_test c (b ∷ bs) test among =
    let both = neither (b == c) (has c bs) test in
    ⊎_elim
    (λ here. false≢true (sym both.0 ∙ (Decides-eqb b c).1 here))
    (λ later. lacks_by_test c bs both.1 later)
    (Contains-cases b bs c among)

-- ---- uniqueness of the split

pub cut_is_one :
    (at : ℕ) (a b x y : List ℕ) → ¬ Contains a at → ¬ Contains b at → BeginsAt at x → BeginsAt at y → a ++ x ≡ b ++ y
    → (a ≡ b) × (x ≡ y)
cut_is_one at [] [] x y one two begins other is = (refl, is)
cut_is_one at [] (c ∷ b) x y one two (inl none) other is =
    let e : [] ≡ c ∷ (b ++ y) = sym none ∙ is in absurd (let never : ⊥ = cc in never)
cut_is_one at [] (c ∷ b) x y one two (inr (rest, begins)) other is =
    let e : at ∷ rest ≡ c ∷ (b ++ y) = sym begins ∙ is in
    let same : at ≡ c = cc in
    absurd (two (subst (λ (d : ℕ). Contains (d ∷ b) at) same (Contains-first at b)))
cut_is_one at (c ∷ a) [] x y one two begins (inl none) is =
    let e : [] ≡ c ∷ (a ++ x) = sym none ∙ sym is in absurd (let never : ⊥ = cc in never)
cut_is_one at (c ∷ a) [] x y one two begins (inr (rest, other)) is =
    let e : at ∷ rest ≡ c ∷ (a ++ x) = sym other ∙ sym is in
    let same : at ≡ c = cc in
    absurd (one (subst (λ (d : ℕ). Contains (d ∷ a) at) same (Contains-first at a)))
cut_is_one at (c ∷ a) (d ∷ b) x y one two begins other is =
    let e : c ∷ (a ++ x) ≡ d ∷ (b ++ y) = is in
    let first : c ≡ d = cc in
    let others : a ++ x ≡ b ++ y = cc in
    let r = cut_is_one at a b x y (λ h. one (Contains-later c a at h)) (λ h. two (Contains-later d b at h)) begins other others in
    let behind : a ≡ b = r.0 in
    let whole : c ∷ a ≡ d ∷ b = cc in
    (whole, r.1)

-- ---- the position of the first occurrence

pub is_cut :
    (bytes : List ℕ) (at position : ℕ) → position ≤ length bytes → ((k : ℕ) → k < position → get_or bytes k 0 ≡ at → ⊥)
    → (position < length bytes → get_or bytes position 0 ≡ at) → IsCut bytes at (take position bytes) (drop position bytes)
is_cut bytes at position within before found = record {
  whole = sym (take-append-drop position bytes);
  none = none;
  begins = begins (less_or_same (same_or_not position (length bytes)));
} where
  none : ¬ Contains (take position bytes) at
  none (k, inside, is) =
      let long = length-take-le position bytes within in
      let less : k < position = omega (arith, inside, long) in
      let there : k < length bytes = omega (arith, less, within) in
      before k less (get_or_default bytes k 0 at there ∙ (sym (get_or-take position bytes k at less) ∙ is))

  less_or_same : (position ≡ length bytes) ⊎ (position ≡ length bytes → ⊥) → (position < length bytes) ⊎ (length bytes ≤ position)
  less_or_same (inl same) = inr (omega (arith, same))
  less_or_same (inr other) = inl (omega (arith, within, other))

  begins : (position < length bytes) ⊎ (length bytes ≤ position) → BeginsAt at (drop position bytes)
  begins (inl less) =
      inr (drop (position + 1) bytes, drop_more bytes position 0 less ∙ ap (λ (b : ℕ). b ∷ drop (position + 1) bytes) (found less))
  begins (inr more) = inl (drop_all position bytes more)

-- The split at the first occurrence of a byte, with the second part as a slice.
pub is_cut_slice :
    (bytes : List ℕ) (at position : ℕ) → position ≤ length bytes → ((k : ℕ) → k < position → get_or bytes k 0 ≡ at → ⊥)
    → (position < length bytes → get_or bytes position 0 ≡ at) → IsCut bytes at (take position bytes) (take (length bytes - position) (drop position bytes))
is_cut_slice bytes at position within before found =
    subst (λ (z : List ℕ). IsCut bytes at (take position bytes) z) (sym (take_rest bytes position)) (is_cut bytes at position within before found)

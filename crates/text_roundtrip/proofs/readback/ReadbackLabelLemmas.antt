-- Labels that increase with the objects. The number of a label is the number of labels before it.
use Rattle.std.proofs.Common.{◌≡◌, ℕ, zero, suc, ◌+◌, ◌<◌, ◌≤◌, Bool, true, false, eqb, ltb, List, [], ◌∷◌, ◌++◌, length, Some, refl, sym, ap, subst, ◌∙◌, arith, inl, inr}
use Rattle.std.specs.Prelude.{slice_get, filter}
use Rattle.std.proofs.lemmas.Bool.{false≢true, true≢false, ne_eqb, eqb-true, lt-ltb, le-ltb, cases_lt, cases_Bool}
use Rattle.std.proofs.lemmas.Bool.Decides.{nat_tests}
use Rattle.text_print.specs.show.TextChunks.{has, number_in}
use Rattle.text_roundtrip.specs.literal_texts.NumberedLabels.{count_from, down, AreIncreasing, before}

eqb_same : (n : ℕ) → eqb n n ≡ true
eqb_same n = grind (arith, nat_tests)

-- ---- visited objects

pub has_down : (c o : ℕ) → has (down c) o ≡ ltb o c
has_down zero o = sym (le-ltb o zero (omega arith))
has_down (suc c) o =
    elim (cases_lt o c) [
      | inl lt ↦ rw (ne_eqb c o (λ e. absurd (omega arith)), has_down c o, lt-ltb o c lt) (sym (lt-ltb o (suc c) (omega arith)))
      | inr le ↦ elim (cases_lt c o) [
        | inl lt ↦ rw (ne_eqb c o (λ e. absurd (omega arith)), has_down c o, le-ltb o c le) (sym (le-ltb o (suc c) (omega arith)))
        | inr ge ↦ let e : o ≡ c = omega arith in rw (e, eqb_same c) (sym (lt-ltb c (suc c) (omega arith)))
      ]
    ]

pub count_both : (m n c : ℕ) → count_from c (m + n) ≡ count_from c m ++ count_from (c + m) n
count_both zero n c = let e : zero + n ≡ n = omega arith in let f : c + zero ≡ c = omega arith in rw (e, f) refl
count_both (suc m) n c =
    let e : suc m + n ≡ suc (m + n) = omega arith in
    let f : c + suc m ≡ suc c + m = omega arith in
    rw (e, f) (ap (λ t. c ∷ t) (count_both m n (suc c)))

-- ---- increasing numbers

pub increasing_count : (n c low : ℕ) → low ≤ c → AreIncreasing low (count_from c n)
increasing_count zero c low le = tt
increasing_count (suc n) c low le = (le, increasing_count n (suc c) (suc c) (omega arith))

pub increasing_lower : (xs : List ℕ) (high low : ℕ) → low ≤ high → AreIncreasing high xs → AreIncreasing low xs
increasing_lower [] high low le up = tt
increasing_lower (x ∷ xs) high low le up = (omega (arith, up.0), up.1)

pub increasing_filter : (p : ℕ → Bool) (xs : List ℕ) (low : ℕ) → AreIncreasing low xs → AreIncreasing low (filter p xs)
increasing_filter p [] low up = tt
increasing_filter p (x ∷ xs) low up = by_test (increasing_filter p xs (suc x) up.1) (p x) refl
  where
    by_test : AreIncreasing (suc x) (filter p xs) → (b : Bool) → p x ≡ b → AreIncreasing low (filter p (x ∷ xs))
    by_test others true e = rw e (up.0, others)
    by_test others false e = rw e (increasing_lower (filter p xs) (suc x) low (omega (arith, up.0)) others)

none_has : (xs : List ℕ) (low o : ℕ) → o < low → AreIncreasing low xs → has xs o ≡ false
none_has [] low o lt up = refl
none_has (x ∷ xs) low o lt up = rw (ne_eqb x o (λ e. absurd (omega (arith, up.0))), none_has xs (suc x) o (omega (arith, up.0)) up.1) refl

none_before : (xs : List ℕ) (low c : ℕ) → c ≤ low → AreIncreasing low xs → before c xs ≡ []
none_before [] low c le up = refl
none_before (x ∷ xs) low c le up = rw (le-ltb x c (omega (arith, up.0))) refl

pub before_nothing : (xs : List ℕ) → AreIncreasing 0 xs → before 0 xs ≡ []
before_nothing xs up = none_before xs 0 0 (omega arith) up

pub record IsNext (labels : List ℕ) (c : ℕ) : Type 0 where
  pub number : number_in labels c ≡ length (before c labels)
  pub one_more : before (suc c) labels ≡ before c labels ++ c ∷ []

pub next_label : (labels : List ℕ) (low c : ℕ) → AreIncreasing low labels → has labels c ≡ true → IsNext labels c
next_label [] low c up e = absurd (false≢true e)
next_label (x ∷ xs) low c up e =
    elim (cases_lt x c) [
      | inl lt ↦
          let there : has xs c ≡ true = rw (ne_eqb x c (λ e. absurd (omega arith))) at e in
          let next = next_label xs (suc x) c up.1 there in
          record {
            number = rw (ne_eqb x c (λ e. absurd (omega arith)), lt-ltb x c lt, next.number) refl;
            one_more = rw (lt-ltb x (suc c) (omega arith), lt-ltb x c lt, next.one_more) refl;
          }
      | inr le ↦ elim (cases_lt c x) [
        | inl lt ↦ absurd (false≢true (sym (rw (ne_eqb x c (λ e. absurd (omega arith)), none_has xs (suc x) c (omega arith) up.1) refl) ∙ e))
        | inr ge ↦
            let same : x ≡ c = omega arith in
            subst (λ y. IsNext (y ∷ xs) c) (sym same) (record {
              number = rw (eqb_same c, le-ltb c c (omega arith)) refl;
              one_more = rw (lt-ltb c (suc c) (omega arith), le-ltb c c (omega arith), none_before xs (suc x) (suc c) (omega arith) up.1) refl;
            })
      ]
    ]

pub no_label : (labels : List ℕ) (low c : ℕ) → AreIncreasing low labels → has labels c ≡ false → before (suc c) labels ≡ before c labels
no_label [] low c up e = refl
no_label (x ∷ xs) low c up e =
    elim (cases_lt x c) [
      | inl lt ↦
          let there : has xs c ≡ false = rw (ne_eqb x c (λ e. absurd (omega arith))) at e in
          rw (lt-ltb x (suc c) (omega arith), lt-ltb x c lt, no_label xs (suc x) c up.1 there) refl
      | inr le ↦ elim (cases_lt c x) [
        | inl lt ↦ rw (le-ltb x (suc c) (omega arith), le-ltb x c (omega arith)) refl
        | inr ge ↦
            let same : x ≡ c = omega arith in
            absurd (true≢false (sym (rw (same, eqb_same c) refl) ∙ e))
      ]
    ]

pub label_of : (labels : List ℕ) (low c o : ℕ) → AreIncreasing low labels → has labels o ≡ true → o < c → slice_get (before c labels) (number_in labels o) ≡ Some o
label_of [] low c o up e lt = absurd (false≢true e)
label_of (x ∷ xs) low c o up e lt =
    elim (cases_lt x o) [
      | inl less ↦
          let there : has xs o ≡ true = rw (ne_eqb x o (λ e. absurd (omega arith))) at e in
          rw (lt-ltb x c (omega arith), ne_eqb x o (λ e. absurd (omega arith))) (label_of xs (suc x) c o up.1 there lt)
      | inr le ↦ elim (cases_lt o x) [
        | inl more ↦ absurd (false≢true (sym (rw (ne_eqb x o (λ e. absurd (omega arith)), none_has xs (suc x) o (omega arith) up.1) refl) ∙ e))
        | inr ge ↦
            let same : x ≡ o = omega arith in
            rw (same, lt-ltb o c lt, eqb_same o) refl
      ]
    ]

-- The number of a label is at most the number of labels.
pub number_small : (labels : List ℕ) (o : ℕ) → number_in labels o ≤ length labels
number_small [] o = omega arith
number_small (x ∷ xs) o = elim (cases_Bool (eqb x o)) [ inl e ↦ rw e (omega arith) | inr e ↦ rw e (omega (arith, number_small xs o)) ]

pub has_filter : (p : ℕ → Bool) (xs : List ℕ) (o : ℕ) → has xs o ≡ true → p o ≡ true → has (filter p xs) o ≡ true
has_filter p [] o e q = absurd (false≢true e)
has_filter p (x ∷ xs) o e q = by_same (λ there. has_filter p xs o there q) (eqb x o) refl
  where
    by_test : (has xs o ≡ true → has (filter p xs) o ≡ true) → (b : Bool) → p x ≡ b → eqb x o ≡ false → has (filter p (x ∷ xs)) o ≡ true
    by_test others true f none = let there : has xs o ≡ true = rw none at e in rw (f, none) (others there)
    by_test others false f none = let there : has xs o ≡ true = rw none at e in rw f (others there)

    by_same : (has xs o ≡ true → has (filter p xs) o ≡ true) → (b : Bool) → eqb x o ≡ b → has (filter p (x ∷ xs)) o ≡ true
    by_same others true same = let is : x ≡ o = eqb-true x o same in let passes : p x ≡ true = ap p is ∙ q in rw (passes, same) refl
    by_same others false none = by_test others (p x) refl none

pub has_count : (n c o : ℕ) → c ≤ o → o < c + n → has (count_from c n) o ≡ true
has_count zero c o le lt = absurd (omega arith)
has_count (suc n) c o le lt =
    elim (cases_lt c o) [
      | inl less ↦ rw (ne_eqb c o (λ e. absurd (omega arith))) (has_count n (suc c) o (omega arith) (omega arith))
      | inr ge ↦ let same : c ≡ o = omega arith in rw (same, eqb_same o) refl
    ]

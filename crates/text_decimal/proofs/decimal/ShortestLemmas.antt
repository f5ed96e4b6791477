-- The search of all decimals finds the shortest decimal.
use Rattle.std.proofs.Common.{◌≡◌, ◌≢◌, ◌∙◌, ℕ, zero, suc, ◌+◌, ◌*◌, ◌-◌, ◌%◌, ◌^◌, ◌<◌, ◌≤◌, Bool, true, false, true≢false, not, T, cond, eqb, ltb, Option, Some, None, refl, sym, ap, subst, inl, inr, arith, lt-ltb, ltb-true, ltb-false, eq-eqb, eqb-true}
use Rattle.std.proofs.lemmas.Bool.{and_parts, cases_lt}
use Rattle.std.proofs.lemmas.Float.{not_nan_f64_bits}
use lib.Ieee.{binary64, of_bits, to_bits, round, is_nan}
use lib.Ieee.Bits.{nan_bits_is, to_bits-of_bits, of_bits-to_bits}
use lib.Ieee.Fits.{round-fits}
use Rattle.text_decimal.specs.decimal.Doubles.{IsSome, Reads, IsShortest, HasNone, distance, infinite}
use Rattle.text_decimal.specs.decimal.Shortest.{reads, rank, better_of, best_below, or_lower, shortest_below, shortest_of}
use Rattle.text_decimal.proofs.decimal.NearestLemmas.{few_powers}
use Rattle.text_decimal.proofs.decimal.UniqueLemmas.{none_between}

-- ---- one decimal

number : (size : ℕ) → size < infinite → T (not (is_nan (of_bits binary64 size)))
number size h = subst (λ b. T (not b)) (nan_bits_is binary64 size) (not_nan_f64_bits size (omega arith))

-- If a decimal reads as the double, then the test `reads` returns true.
pub passes : (size digits power : ℕ) → IsSome size → Reads size digits power → reads size digits power ≡ true
unfolding reads
passes size digits power some r =
    let v = round binary64 false (digits * 10 ^ (power - 342)) (10 ^ (342 - power)) in
    let e : to_bits binary64 v ≡ size = ap (to_bits binary64) (sym r.nearest.0) ∙ to_bits-of_bits binary64 size (omega (arith, some.1)) (number size some.1) in
    rw (lt-ltb 0 digits r.some, eq-eqb (to_bits binary64 v) size e) refl

-- If the test `reads` returns true for a decimal, then the decimal reads as the double.
pub passed : (size digits power : ℕ) → IsSome size → digits < 10 ^ 19 → reads size digits power ≡ true → Reads size digits power
unfolding reads
passed size digits power some few is =
    let v = round binary64 false (digits * 10 ^ (power - 342)) (10 ^ (342 - power)) in
    let both = and_parts (ltb 0 digits) (eqb (to_bits binary64 v) size) is in
    let e : to_bits binary64 v ≡ size = eqb-true (to_bits binary64 v) size both.1 in
    record {
      some = ltb-true 0 digits both.0;
      few = few;
      nearest = (ap (of_bits binary64) (sym e) ∙ of_bits-to_bits binary64 v (round-fits binary64 false _ _), omega (arith, some.1));
    }

-- ---- the best digits

record IsBest (size power n digits : ℕ) : Type 0 where
  below : digits < n
  reading : reads size digits power ≡ true
  least : (other : ℕ) → other < n → reads size other power ≡ true → rank size digits power ≤ rank size other power

abbrev IsBestIn : (size power n : ℕ) → Option ℕ → Type 0
IsBestIn size power n None = (other : ℕ) → other < n → reads size other power ≡ true → ⊥
IsBestIn size power n (Some digits) = IsBest size power n digits

-- If a property holds below `n` and at `n`, then the property holds below `n + 1`.
one_more : (P : ℕ → Type 0) (n : ℕ) → ((m : ℕ) → m < n → P m) → P n → (m : ℕ) → m < suc n → P m
one_more P n below here m l =
    elim (cases_lt m n) [ inl a ↦ below m a | inr b ↦ let e : n ≡ m = omega arith in subst P e here ]

one_best : (size power n : ℕ) (fewer : Option ℕ) (here : Bool) → reads size n power ≡ here → IsBestIn size power n fewer
    → IsBestIn size power (suc n) (cond here (Some (better_of (λ d. rank size d power) n fewer)) fewer)
one_best size power n None false e none = one_more (λ m. reads size m power ≡ true → ⊥) n none (λ h. true≢false (sym h ∙ e))
one_best size power n (Some d) false e best = record {
  below = omega (arith, best.below);
  reading = best.reading;
  least = one_more (λ m. reads size m power ≡ true → rank size d power ≤ rank size m power) n best.least (λ h. absurd (true≢false (sym h ∙ e)));
}
one_best size power n None true e none = record {
  below = omega arith;
  reading = e;
  least = one_more (λ m. reads size m power ≡ true → rank size n power ≤ rank size m power) n (λ m l h. absurd (none m l h)) (λ h. omega arith);
}
one_best size power n (Some d) true e best = by_rank (ltb (rank size n power) (rank size d power)) refl
  where
    by_rank : (less : Bool) → ltb (rank size n power) (rank size d power) ≡ less → IsBest size power (suc n) (cond less n d)
    by_rank true f =
        let l = ltb-true (rank size n power) (rank size d power) f in
        record {
          below = omega arith;
          reading = e;
          least = one_more (λ m. reads size m power ≡ true → rank size n power ≤ rank size m power) n (λ m k h. omega (arith, best.least m k h, l)) (λ h. omega arith);
        }
    by_rank false f =
        let l = ltb-false (rank size n power) (rank size d power) f in
        record {
          below = omega (arith, best.below);
          reading = best.reading;
          least = one_more (λ m. reads size m power ≡ true → rank size d power ≤ rank size m power) n best.least (λ h. l);
        }

best_is : (size power n : ℕ) → IsBestIn size power n (best_below size power n)
unfolding best_below
best_is size power zero = λ other l h. omega arith
best_is size power (suc n) = one_best size power n (best_below size power n) (reads size n power) refl (best_is size power n)

-- ---- the greatest power

record IsTop (size n digits power : ℕ) : Type 0 where
  below : power < n
  best : best_below size power (10 ^ 19) ≡ Some digits
  above : (other : ℕ) → other < n → power < other → best_below size other (10 ^ 19) ≡ None

abbrev IsTopIn : (size n : ℕ) → Option (ℕ × ℕ) → Type 0
IsTopIn size n None = (other : ℕ) → other < n → best_below size other (10 ^ 19) ≡ None
IsTopIn size n (Some decimal) = IsTop size n decimal.0 decimal.1

one_top : (size n : ℕ) (here : Option ℕ) (lower : Option (ℕ × ℕ)) → best_below size n (10 ^ 19) ≡ here → IsTopIn size n lower
    → IsTopIn size (suc n) (or_lower n here lower)
one_top size n None None e none = one_more (λ m. best_below size m (10 ^ 19) ≡ None) n none e
one_top size n None (Some d) e top = record {
  below = omega (arith, top.below);
  best = top.best;
  above = one_more (λ m. d.1 < m → best_below size m (10 ^ 19) ≡ None) n top.above (λ l. e);
}
one_top size n (Some d) lower e top = record { below = omega arith; best = e; above = λ other l h. absurd (omega arith) }

top_is : (size n : ℕ) → IsTopIn size n (shortest_below size n)
unfolding shortest_below
top_is size zero = λ other l. absurd (omega arith)
top_is size (suc n) = one_top size n (best_below size n (10 ^ 19)) (shortest_below size n) refl (top_is size n)

-- ---- the shortest decimal

closer : (a b c d : ℕ) → 2 * a + c % 2 ≤ 2 * b + d % 2 → a ≤ b
closer a b c d h = omega arith

odd_both : (a b c d : ℕ) → a ≡ b → 2 * a + c % 2 ≤ 2 * b + d % 2 → 0 < c % 2 → d % 2 ≡ c % 2
odd_both a b c d same h odd = omega arith

none_reads : (size digits power : ℕ) → IsSome size → best_below size power (10 ^ 19) ≡ None → Reads size digits power → ⊥
none_reads size digits power some e r =
    (subst (IsBestIn size power (10 ^ 19)) e (best_is size power (10 ^ 19))) digits r.few (passes size digits power some r)

module _ (size digits power : ℕ) (some : IsSome size) (top : IsTop size 651 digits power) where
  best : IsBest size power (10 ^ 19) digits
  best = subst (IsBestIn size power (10 ^ 19)) top.best (best_is size power (10 ^ 19))

  read : Reads size digits power
  read = passed size digits power some best.below best.reading

  ranks : (other : ℕ) → Reads size other power → rank size digits power ≤ rank size other power
  ranks other r = best.least other r.few (passes size other power some r)

  near : (other : ℕ) → Reads size other power → distance size digits power ≤ distance size other power
  near other r = closer (distance size digits power) (distance size other power) digits other (ranks other r)

  even : (other : ℕ) → Reads size other power → other ≢ digits → distance size digits power ≡ distance size other power → digits % 2 ≡ 0
  even other r n same =
      elim (cases_lt 0 (digits % 2)) [
        | inr g ↦ omega arith
        | inl odd ↦
            let both = odd_both (distance size digits power) (distance size other power) digits other same (ranks other r) odd in
            elim (cases_lt digits other) [
              | inl l ↦ absurd (none_between size digits other power some read r (omega arith) same (near (digits + 1)))
              | inr g ↦
                  let l : other < digits = omega (arith, n) in
                  absurd (none_between size other digits power some r read (omega arith) (sym same) (λ m. subst (λ x. x ≤ distance size (other + 1) power) same (near (other + 1) m)))
            ]
      ]

  highest : (other above : ℕ) → Reads size other above → above ≤ power
  highest other above r =
      elim (cases_lt power above) [
        | inr g ↦ g
        | inl l ↦ absurd (none_reads size other above some (top.above above (few_powers size other above some r) l) r)
      ]

  top_shortest : IsShortest size digits power
  top_shortest = record { reads = read; highest = highest; closest = near; even = even }

-- A decimal that is found is the shortest decimal. If no decimal is found, then no decimal reads as
-- the double.
abbrev pub IsFound : ℕ → Option (ℕ × ℕ) → Type 0
IsFound size None = HasNone size
IsFound size (Some decimal) = IsShortest size decimal.0 decimal.1

by_top : (size : ℕ) → IsSome size → (found : Option (ℕ × ℕ)) → IsTopIn size 651 found → IsFound size found
by_top size some None none = λ digits power r. none_reads size digits power some (none power (few_powers size digits power some r)) r
by_top size some (Some d) top = top_shortest size d.0 d.1 some top

pub shortest_found : (size : ℕ) → IsSome size → IsFound size (shortest_of size)
unfolding shortest_of
shortest_found size some = by_top size some (shortest_below size 651) (top_is size 651)

-- The number of bytes up to a closing bracket, byte by byte.
use Rattle.std.proofs.Common.{◌≡◌, ℕ, suc, ◌+◌, ◌<◌, leb, List, [], ◌∷◌, drop, Option, Some, None, refl, ap, sym, ◌∙◌, arith}
use Rattle.std.specs.Prelude.{option_map}
use Rattle.std.proofs.lemmas.Bool.{cond-false, lt-leb, cond_both}
use Rattle.text_pretty.specs.declared.break_point.BreakPoint.{BreakPoint}
use Rattle.text_pretty.specs.BreakPoints.{mark_of, next_break_point}
use Rattle.text_pretty.specs.Fit.{closing_length, depth_after, counted, to_close, within}

-- The number of bytes, increased by `i`.
abbrev pub more : ℕ → Option ℕ → Option ℕ
more i found = option_map (λ n. n + i) found

-- ---- the count is positive

abbrev pub IsPositive : Option ℕ → Type 0
IsPositive None = Unit {0}
IsPositive (Some n) = 0 < n

suc_positive : (found : Option ℕ) → IsPositive (option_map suc found)
suc_positive None = tt
suc_positive (Some n) = omega arith

counted_positive : (n : ℕ) (depth : Option ℕ) (rest : ℕ → Option ℕ) → 0 < n → IsPositive (counted n depth rest)
counted_positive n None rest positive = positive
counted_positive n (Some depth) rest positive = suc_positive (rest depth)

pub closing_positive : (b : ℕ) → 0 < closing_length b
closing_positive b = cond_both _ 2 1 (λ n. 0 < n) (λ _. omega arith) (λ _. omega arith)

pub close_positive : (break_point : BreakPoint) (depth : ℕ) (bytes : List ℕ) → IsPositive (to_close break_point depth bytes)
close_positive break_point depth [] = tt
close_positive break_point depth (b ∷ bytes) =
    counted_positive (closing_length b) (depth_after (mark_of break_point b) depth)
    (λ deeper. to_close (next_break_point break_point b) deeper bytes) (closing_positive b)

too_many : (left : ℕ) (found : Option ℕ) → IsPositive found → within left (more left found) ≡ 0
too_many left None positive = refl
too_many left (Some n) positive = cond-false (leb (n + left) left) (n + left) 0 (lt-leb (n + left) left (omega arith))

-- ---- steps of the count

module _ (all : Option ℕ) (left : ℕ) (break_point : BreakPoint) (depth : ℕ) (bytes : List ℕ) (i : ℕ) (so_far : all ≡ more i (to_close break_point depth (drop i bytes))) where
  pub at_width : i ≡ left → 0 ≡ within left all
  at_width full =
      sym (ap (λ o. within left o) (so_far ∙ ap (λ n. more n (to_close break_point depth (drop i bytes))) full)
      ∙ too_many left (to_close break_point depth (drop i bytes)) (close_positive break_point depth (drop i bytes)))

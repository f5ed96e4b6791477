-- Lemmas about the index of a script's lines by value number.
use Rattle.std.proofs.Common.{ℕ, zero, suc, ◌+◌, ◌≡◌, ◌<◌, ◌≤◌, ◌∙◌, Bool, true, false, cond, ltb, leb, eqb, List, [], ◌∷◌, length, take, drop, get_or, Some, refl, sym, ap, subst, arith, tests}
use Rattle.std.specs.Prelude.{filter, not, ◌&&◌, slice_get, All}
use Rattle.std.specs.List.{cons_option, AllWithin}
use Rattle.std.specs.List.Sorted.{IsPartitionPoint, IsStableByKey, ties}
use Rattle.std.specs.Ordering.{nat_cmp, is_lt}
use Rattle.std.proofs.lemmas.List.Elements.{filter_agree, All-cons, All-head, All-nil, All-tail, All-filter}
use Rattle.std.proofs.lemmas.Option.{slice_get-get_or}
use Rattle.text_path.specs.declared.edits.ScriptLine.{ScriptLine}
use Rattle.text_path.specs.LineOrder.{lines_of, positions_from, positions_of, IsOrder, AreWithin, lines_at}

-- ---- the position at which a test becomes false

module _ {X : Type 0} (test : X → Bool) where
  abbrev fails : X → Bool
  fails x = not (test x)

  none_left : (xs : List X) → AllWithin (λ x. test x ≡ false) xs 0 (length xs) → filter test xs ≡ []
  none_left [] out = refl
  none_left (x ∷ xs) out =
      let first : test x ≡ false = out 0 x (omega arith) (omega arith) in
      rw first (none_left xs (λ k d above below. out (suc k) d (omega arith) (omega (arith, below))))

  all_left : (xs : List X) → AllWithin (λ x. test x ≡ false) xs 0 (length xs) → filter fails xs ≡ xs
  all_left [] out = refl
  all_left (x ∷ xs) out =
      let first : test x ≡ false = out 0 x (omega arith) (omega arith) in
      rw first (ap (λ l. x ∷ l) (all_left xs (λ k d above below. out (suc k) d (omega arith) (omega (arith, below)))))

  pub prefix_is : (xs : List X) (i : ℕ) → IsPartitionPoint (λ x. test x ≡ true) (λ x. test x ≡ false) xs i → i ≤ length xs → take i xs ≡ filter test xs
  prefix_is xs zero (held, out) within = sym (none_left xs out)
  prefix_is [] (suc i) (held, out) within = refl
  prefix_is (x ∷ xs) (suc i) (held, out) within =
      let first : test x ≡ true = held 0 x (omega arith) (omega arith) in
      let rest : IsPartitionPoint (λ x. test x ≡ true) (λ x. test x ≡ false) xs i =
      (λ k d above below. held (suc k) d (omega arith) (omega (arith, below)), λ k d above below. out (suc k) d (omega (arith, above)) (omega (arith, below))) in
      rw first (ap (λ l. x ∷ l) (prefix_is xs i rest (omega (arith, within))))

  pub back_is : (xs : List X) (i : ℕ) → IsPartitionPoint (λ x. test x ≡ true) (λ x. test x ≡ false) xs i → i ≤ length xs → drop i xs ≡ filter fails xs
  back_is xs zero (held, out) within = sym (all_left xs out)
  back_is [] (suc i) (held, out) within = refl
  back_is (x ∷ xs) (suc i) (held, out) within =
      let first : test x ≡ true = held 0 x (omega arith) (omega arith) in
      let rest : IsPartitionPoint (λ x. test x ≡ true) (λ x. test x ≡ false) xs i =
      (λ k d above below. held (suc k) d (omega arith) (omega (arith, below)), λ k d above below. out (suc k) d (omega (arith, above)) (omega (arith, below))) in
      rw first (back_is xs i rest (omega (arith, within)))

-- ---- two filters in sequence

module _ {X : Type 0} (one other both : X → Bool) (is : (x : X) → (one x && other x) ≡ both x) where
  kept_twice : (x : X) (xs : List X) (a b : Bool) → one x ≡ a → other x ≡ b → filter one (filter other xs) ≡ filter both xs → filter one (cond b (x ∷ filter other xs) (filter other xs)) ≡ cond (a && b) (x ∷ filter both xs) (filter both xs)
  kept_twice x xs true true p q h = rw p (ap (λ l. x ∷ l) h)
  kept_twice x xs false true p q h = rw p h
  kept_twice x xs true false p q h = h
  kept_twice x xs false false p q h = h

  pub filter_twice : (xs : List X) → filter one (filter other xs) ≡ filter both xs
  filter_twice [] = refl
  filter_twice (x ∷ xs) = kept_twice x xs (one x) (other x) refl refl (filter_twice xs) ∙ ap (λ b. cond b (x ∷ filter both xs) (filter both xs)) (is x)

-- ---- the lines of one value

-- A number that is neither less than nor greater than another number is equal to the other number.
same_number : (a b : ℕ) → (not (ltb a b) && leb a b) ≡ eqb a b
same_number a b = grind (arith, tests)

pub value_is : (k : ℕ) (order : List (ℕ × ℕ)) → filter (λ position. not (ltb position.0 k)) (filter (λ position. leb position.0 k) order) ≡ positions_of k order
value_is k order = filter_twice (λ position. not (ltb position.0 k)) (λ position. leb position.0 k) (λ position. eqb position.0 k) (λ position. same_number position.0 k) order

same_ties : (k : ℕ) (position : ℕ × ℕ) → ties (λ x y. is_lt (nat_cmp x.0 y.0)) (k, 0) position ≡ eqb position.0 k
same_ties k (v, at) = grind (arith, tests)

-- A stable sort by value keeps the order of the lines of each value.
pub order_kept : (from order : List (ℕ × ℕ)) → IsStableByKey (λ position. position.0) nat_cmp from order → (k : ℕ) → positions_of k order ≡ positions_of k from
order_kept from order stable k =
    sym (filter_agree (ties (λ x y. is_lt (nat_cmp x.0 y.0)) (k, 0)) (λ position. eqb position.0 k) (same_ties k) order)
    ∙ (stable (k, 0) ∙ filter_agree (ties (λ x y. is_lt (nat_cmp x.0 y.0)) (k, 0)) (λ position. eqb position.0 k) (same_ties k) from)

-- The lines at the indices of the entries for value `k` are the lines that edit value `k`.
module _ (all : List ScriptLine) (k : ℕ) where
  picked : (line : ScriptLine) (position : ℕ × ℕ) (positions : List (ℕ × ℕ)) (lines : List ScriptLine) → slice_get all position.1 ≡ Some line → lines_at all positions ≡ lines
      → (b : Bool) → lines_at all (cond b (position ∷ positions) positions) ≡ cond b (line ∷ lines) lines
  picked line position positions lines first more true = ap (λ o. cons_option o (lines_at all positions)) first ∙ ap (λ l. line ∷ l) more
  picked line position positions lines first more false = more

  pub lines_found : (n : ℕ) (rest : List ScriptLine) → ((i : ℕ) → slice_get all (n + i) ≡ slice_get rest i) → lines_at all (positions_of k (positions_from n rest)) ≡ lines_of k rest
  lines_found n [] at = refl
  lines_found n (line ∷ rest) at =
      let here : n ≡ n + 0 = omega arith in
      let next : (i : ℕ) → suc n + i ≡ n + suc i = λ i. omega arith in
      picked line (line.value, n) (positions_of k (positions_from (suc n) rest)) (lines_of k rest) (ap (slice_get all) here ∙ at 0)
      (lines_found (suc n) rest (λ i. ap (slice_get all) (next i) ∙ at (suc i))) (eqb line.value k)

positions_within : (m n : ℕ) (rest : List ScriptLine) → n + length rest ≤ m → All (λ (position : ℕ × ℕ). position.1 < m) (positions_from n rest)
positions_within m n [] within = All-nil (λ (position : ℕ × ℕ). position.1 < m)
positions_within m n (line ∷ rest) within =
    let here : n < m = omega (arith, within) in
    let next : suc n + length rest ≤ m = omega (arith, within) in
    All-cons (λ (position : ℕ × ℕ). position.1 < m) (line.value, n) (positions_from (suc n) rest) here (positions_within m (suc n) rest next)

module _ (lines : List ScriptLine) (order : List (ℕ × ℕ)) (is : IsOrder lines order) (k : ℕ) (positions : List (ℕ × ℕ)) (are : positions ≡ positions_of k order) where
  pub found_within : AreWithin lines positions
  found_within =
      let all : AreWithin lines (positions_from 0 lines) = positions_within (length lines) 0 lines (omega arith) in
      subst (AreWithin lines) (sym (are ∙ is.stable k)) (All-filter (λ position. eqb position.0 k) (λ (position : ℕ × ℕ). position.1 < length lines) (positions_from 0 lines) all)

  pub found_lines : lines_at lines positions ≡ lines_of k lines
  found_lines = ap (lines_at lines) (are ∙ is.stable k) ∙ lines_found lines k 0 lines (λ i. let same : 0 + i ≡ i = omega arith in ap (slice_get lines) same)

-- ---- one index after another

module _ (lines : List ScriptLine) (positions : List (ℕ × ℕ)) (position : ℕ × ℕ) (more : List (ℕ × ℕ)) (are : positions ≡ position ∷ more) where
  pub more_within : AreWithin lines positions → AreWithin lines more
  more_within within = All-tail (λ (p : ℕ × ℕ). p.1 < length lines) position more (subst (AreWithin lines) are within)

  pub next_line : (d : ScriptLine) → AreWithin lines positions → lines_at lines positions ≡ get_or lines position.1 d ∷ lines_at lines more
  next_line d within =
      let here : position.1 < length lines = All-head (λ (p : ℕ × ℕ). p.1 < length lines) position more (subst (AreWithin lines) are within) in
      ap (lines_at lines) are ∙ ap (λ o. cons_option o (lines_at lines more)) (slice_get-get_or lines position.1 d here)

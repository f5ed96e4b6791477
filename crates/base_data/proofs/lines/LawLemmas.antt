-- Line and column determine a position. Between two positions of one line there is no line feed,
-- and therefore the distance of the positions is the difference of their columns.
use Rattle.std.proofs.Common.{ℕ, ◌+◌, ◌-◌, ◌≤◌, ◌<◌, ◌≡◌, ◌∙◌, Bool, true, false, not, cond, List, ◌++◌, length, take, drop, inl, inr, refl, sym, ap, arith, get_or, leb}
use Rattle.std.specs.Prelude.{◌⊎◌, reverse}
use Rattle.std.specs.List.{count_by, prefix_len, suffix_len}
use Rattle.std.proofs.lemmas.Bool.{eq-eqb}
use Rattle.std.proofs.lemmas.Bool.Decides.{leb_tells}
use Rattle.std.proofs.lemmas.List.{length-reverse, length-drop, length-take-le, reverse-append, take-append-drop, take-take}
use Rattle.std.proofs.lemmas.List.Folds.{prefix_len-append}
use Rattle.std.proofs.lemmas.List.Sums.{sum_by-append, get_or-le-sum_by, suffix_len_is}
use Rattle.base_data.specs.lines.Lines.{is_feed, goes_on, line_of, column_of}
use Rattle.base_data.specs.lines.Laws.{LinesReportPositions, FirstLinesCount}

-- The number of line feeds that a byte adds.
abbrev counted : ℕ → ℕ
counted b = cond (is_feed b) 1 0

uncounted : (t : Bool) → cond t 1 0 ≤ 0 → not t ≡ true
uncounted true few = absurd (omega (arith, few))
uncounted false few = refl

-- If bytes contain no line feed, then none of the bytes ends a line.
all_go_on : (bytes : List ℕ) → count_by is_feed bytes ≡ 0
    → suffix_len goes_on bytes ≡ length bytes
all_go_on bytes none = suffix_len_is goes_on bytes 0 0 (omega arith) each first ∙ whole where
  whole : length bytes - 0 ≡ length bytes
  whole = omega arith

  each : (k : ℕ) → 0 ≤ k → k < length bytes → goes_on (get_or bytes k 0) ≡ true
  each k from short =
      let one : counted (get_or bytes k 0) ≤ count_by is_feed bytes =
      get_or-le-sum_by counted bytes k 0 short in
      uncounted (is_feed (get_or bytes k 0)) (omega (arith, one, none))

  first : 0 < 0 → goes_on (get_or bytes (0 - 1) 0) ≡ false
  first never = absurd (omega (arith, never))

-- If bytes without a line feed are appended to a text, then the column grows by the number of
-- bytes.
column_more : (before bytes : List ℕ) → count_by is_feed bytes ≡ 0
    → suffix_len goes_on (before ++ bytes) ≡ length bytes + suffix_len goes_on before
column_more before bytes none =
    let same : prefix_len goes_on (reverse bytes) ≡ length (reverse bytes) =
    all_go_on bytes none ∙ sym (length-reverse bytes) in
    ap (prefix_len goes_on) (reverse-append before bytes)
    ∙ (prefix_len-append goes_on (reverse bytes) (reverse before)
    ∙ (ap (λ t. cond t (length (reverse bytes) + prefix_len goes_on (reverse before))
    (prefix_len goes_on (reverse bytes)))
    (eq-eqb (prefix_len goes_on (reverse bytes)) (length (reverse bytes)) same)
    ∙ ap (λ n. n + prefix_len goes_on (reverse before)) (length-reverse bytes)))

module _ (text : List ℕ) where
  -- If two positions in ascending order have equal lines and equal columns, then the positions are
  -- equal.
  later : (position other : ℕ) → position ≤ other → other ≤ length text
      → line_of text position ≡ line_of text other → column_of text position ≡ column_of text other
      → position ≡ other
  later position other less within line column =
      let whole : take position text ++ drop position (take other text) ≡ take other text =
      ap (λ t. t ++ drop position (take other text)) (sym (take-take position other text less))
      ∙ take-append-drop position (take other text) in
      let counts :
      count_by is_feed (take position text) + count_by is_feed (drop position (take other text))
      ≡ count_by is_feed (take other text) =
      sym (sum_by-append counted (take position text) (drop position (take other text)))
      ∙ ap (count_by is_feed) whole in
      let none : count_by is_feed (drop position (take other text)) ≡ 0 =
      omega (arith, counts, line) in
      let moved : suffix_len goes_on (take other text)
      ≡ length (drop position (take other text)) + suffix_len goes_on (take position text) =
      sym (ap (suffix_len goes_on) whole)
      ∙ column_more (take position text) (drop position (take other text)) none in
      let size : length (drop position (take other text)) ≡ length (take other text) - position =
      length-drop position (take other text) in
      let taken : length (take other text) ≡ other = length-take-le other text within in
      omega (arith, moved, size, taken, column, less)

  either : (position other : ℕ) → (position ≤ other) ⊎ (other ≤ position)
  either position other = by (leb_tells position other) where
    by : ((leb position other ≡ true) × (position ≤ other))
        ⊎ ((leb position other ≡ false) × (other < position))
        → (position ≤ other) ⊎ (other ≤ position)
    by (inl h) = inl h.1
    by (inr h) = inr (omega (arith, h.1))

pub lines_report : LinesReportPositions
lines_report text position other within other_within line column = by (either text position other) where
  by : (position ≤ other) ⊎ (other ≤ position) → position ≡ other
  by (inl less) = later text position other less other_within line column
  by (inr less) = sym (later text other position less within (sym line) (sym column))

pub first_count : FirstLinesCount
first_count text position within none =
    let all : suffix_len goes_on (take position text) ≡ length (take position text) =
    all_go_on (take position text) none in
    let size : length (take position text) ≡ position = length-take-le position text within in
    (omega (arith, none), omega (arith, all, size))

-- Lines are narrow. By the invariant, the line so far has one of these forms:
--
-- - one word,
-- - a line that ends by column 80 with a bracket that fits the line,
-- - a line after a closing bracket by column 80.
use Rattle.std.proofs.Common.{◌≡◌, ◌≢◌, ◌⊎◌, inl, inr, ℕ, zero, suc, ◌+◌, Bool, true, false, ◌==◌, List, ◌∷◌, ◌++◌, replicate, Some, refl, ap, sym, subst, ◌∙◌, ⊎_elim, arith}
use Rattle.std.specs.Bool.{MatchBool}
use Rattle.std.proofs.lemmas.Bool.{cond_both, both_ways, false≢true, ne_eqb, eqb-true}
use Rattle.text_pretty.specs.declared.break_point.BreakPoint.{BreakPoint}
use Rattle.text_pretty.specs.declared.break_point.BreakPoint.TheVariants as break_points
use Rattle.text_pretty.specs.declared.break_point.ByteRole.{ByteRole}
use Rattle.text_pretty.specs.declared.break_point.ByteRole.TheVariants as marks
use Rattle.text_pretty.specs.BreakPoints.{bare_mark, mark_of, next_break_point}
use Rattle.text_pretty.specs.PrettyLines.{line_text}
use Rattle.text_pretty.specs.Narrow.{is_behind_position, is_before_position, Seen, nothing, seen_more, IsNarrow, AreNarrow}

-- ---- the roles of bytes

abbrev Parts : ℕ → Type 0
Parts b = (b ≡ 124) ⊎ ((b ≡ 41) ⊎ ((b ≡ 125) ⊎ ((b ≡ 44) ⊎ (b ≡ 59))))

abbrev Opens : ℕ → Type 0
Opens b = (b ≡ 40) ⊎ ((b ≡ 124) ⊎ (b ≡ 123))

-- If the test is true of the role, then the fact holds.
abbrev Gives : (ByteRole → Bool) → Type 0 → ByteRole → Type 0
Gives test P mark = test mark ≡ true → P

bare_parts : (paren bar : ByteRole) (b : ℕ) → is_behind_position paren ≡ false → Gives is_behind_position (Parts b) (bare_mark paren bar b)
bare_parts paren bar b none =
    cond_both (b == 40) paren _ (Gives is_behind_position (Parts b)) (λ _ h. absurd (both_ways (is_behind_position paren) none h))
    (λ _. cond_both (b == 124) bar _ (Gives is_behind_position (Parts b)) (λ e _. inl (eqb-true b 124 e))
    (λ _. cond_both (b == 123) marks.Opens _ (Gives is_behind_position (Parts b)) (λ _ h. absurd (false≢true h))
    (λ _. cond_both (b == 41) marks.Closes _ (Gives is_behind_position (Parts b)) (λ e _. inr (inl (eqb-true b 41 e)))
    (λ _. cond_both (b == 125) marks.Closes _ (Gives is_behind_position (Parts b)) (λ e _. inr (inr (inl (eqb-true b 125 e))))
    (λ _. cond_both (b == 44) marks.Parts _ (Gives is_behind_position (Parts b)) (λ e _. inr (inr (inr (inl (eqb-true b 44 e)))))
    (λ _. cond_both (b == 59) marks.Parts marks.Other (Gives is_behind_position (Parts b)) (λ e _. inr (inr (inr (inr (eqb-true b 59 e)))))
    (λ _ h. absurd (false≢true h))))))))

bare_opens : (paren bar : ByteRole) (b : ℕ) → Gives is_before_position (Opens b) (bare_mark paren bar b)
bare_opens paren bar b =
    cond_both (b == 40) paren _ (Gives is_before_position (Opens b)) (λ e _. inl (eqb-true b 40 e))
    (λ _. cond_both (b == 124) bar _ (Gives is_before_position (Opens b)) (λ e _. inr (inl (eqb-true b 124 e)))
    (λ _. cond_both (b == 123) marks.Opens _ (Gives is_before_position (Opens b)) (λ e _. inr (inr (eqb-true b 123 e)))
    (λ _. cond_both (b == 41) marks.Closes _ (Gives is_before_position (Opens b)) (λ _ h. absurd (false≢true h))
    (λ _. cond_both (b == 125) marks.Closes _ (Gives is_before_position (Opens b)) (λ _ h. absurd (false≢true h))
    (λ _. cond_both (b == 44) marks.Parts _ (Gives is_before_position (Opens b)) (λ _ h. absurd (false≢true h))
    (λ _. cond_both (b == 59) marks.Parts marks.Other (Gives is_before_position (Opens b)) (λ _ h. absurd (false≢true h))
    (λ _ h. absurd (false≢true h))))))))

parts_is : (break_point : BreakPoint) (b : ℕ) → is_behind_position (mark_of break_point b) ≡ true → Parts b
parts_is break_points.Outside b h = bare_parts marks.Opens marks.Closes b refl h
parts_is break_points.Name b h = bare_parts marks.Opens marks.Closes b refl h
parts_is break_points.Square b h = bare_parts marks.Opens marks.Opens b refl h
parts_is break_points.Colon b h = bare_parts marks.OpensList marks.Closes b refl h
parts_is break_points.Text b h = absurd (false≢true h)
parts_is break_points.TextEscape b h = absurd (false≢true h)
parts_is break_points.Letter b h = absurd (false≢true h)
parts_is break_points.LetterEscape b h = absurd (false≢true h)

opens_is : (break_point : BreakPoint) (b : ℕ) → is_before_position (mark_of break_point b) ≡ true → Opens b
opens_is break_points.Outside b h = bare_opens marks.Opens marks.Closes b h
opens_is break_points.Name b h = bare_opens marks.Opens marks.Closes b h
opens_is break_points.Square b h = bare_opens marks.Opens marks.Opens b h
opens_is break_points.Colon b h = bare_opens marks.OpensList marks.Closes b h
opens_is break_points.Text b h = absurd (false≢true h)
opens_is break_points.TextEscape b h = absurd (false≢true h)
opens_is break_points.Letter b h = absurd (false≢true h)
opens_is break_points.LetterEscape b h = absurd (false≢true h)

-- True if the context is outside of quotes.
abbrev is_bare : BreakPoint → Bool
is_bare break_points.Text = false
is_bare break_points.TextEscape = false
is_bare break_points.Letter = false
is_bare break_points.LetterEscape = false
is_bare break_point = true

-- If a fact holds for each separator and each closing byte, then it holds for a byte that is one of
-- them.
at_parts : (P : ℕ → Type 0) (b : ℕ) → Parts b → P 124 → P 41 → P 125 → P 44 → P 59 → P b
at_parts P b is bar paren brace comma semicolon =
    ⊎_elim (λ e. subst P (sym e) bar)
    (⊎_elim (λ e. subst P (sym e) paren)
    (⊎_elim (λ e. subst P (sym e) brace) (⊎_elim (λ e. subst P (sym e) comma) (λ e. subst P (sym e) semicolon)))) is

at_opens : (P : ℕ → Type 0) (b : ℕ) → Opens b → P 40 → P 124 → P 123 → P b
at_opens P b is paren bar brace =
    ⊎_elim (λ e. subst P (sym e) paren) (⊎_elim (λ e. subst P (sym e) bar) (λ e. subst P (sym e) brace)) is

abbrev LeadsOut : BreakPoint → ℕ → Type 0
LeadsOut break_point b = next_break_point break_point b ≡ break_points.Outside

parts_out : (break_point : BreakPoint) (b : ℕ) → is_bare break_point ≡ true → Parts b → LeadsOut break_point b
parts_out break_points.Outside b bare is = at_parts (LeadsOut break_points.Outside) b is refl refl refl refl refl
parts_out break_points.Name b bare is = at_parts (LeadsOut break_points.Name) b is refl refl refl refl refl
parts_out break_points.Square b bare is = at_parts (LeadsOut break_points.Square) b is refl refl refl refl refl
parts_out break_points.Colon b bare is = at_parts (LeadsOut break_points.Colon) b is refl refl refl refl refl
parts_out break_points.Text b bare is = absurd (false≢true bare)
parts_out break_points.TextEscape b bare is = absurd (false≢true bare)
parts_out break_points.Letter b bare is = absurd (false≢true bare)
parts_out break_points.LetterEscape b bare is = absurd (false≢true bare)

opens_out : (break_point : BreakPoint) (b : ℕ) → is_bare break_point ≡ true → Opens b → LeadsOut break_point b
opens_out break_points.Outside b bare is = at_opens (LeadsOut break_points.Outside) b is refl refl refl
opens_out break_points.Name b bare is = at_opens (LeadsOut break_points.Name) b is refl refl refl
opens_out break_points.Square b bare is = at_opens (LeadsOut break_points.Square) b is refl refl refl
opens_out break_points.Colon b bare is = at_opens (LeadsOut break_points.Colon) b is refl refl refl
opens_out break_points.Text b bare is = absurd (false≢true bare)
opens_out break_points.TextEscape b bare is = absurd (false≢true bare)
opens_out break_points.Letter b bare is = absurd (false≢true bare)
opens_out break_points.LetterEscape b bare is = absurd (false≢true bare)

bare_by : (break_point : BreakPoint) (b : ℕ) → (mark_of break_point b ≡ marks.Other → ⊥) → is_bare break_point ≡ true
bare_by break_points.Outside b h = refl
bare_by break_points.Name b h = refl
bare_by break_points.Square b h = refl
bare_by break_points.Colon b h = refl
bare_by break_points.Text b h = absurd (h refl)
bare_by break_points.TextEscape b h = absurd (h refl)
bare_by break_points.Letter b h = absurd (h refl)
bare_by break_points.LetterEscape b h = absurd (h refl)

-- After a separator or a closing byte, the next context does not depend on the context before the
-- byte.
pub parts_lead : (break_point : BreakPoint) (b : ℕ) → is_behind_position (mark_of break_point b) ≡ true → next_break_point break_point b ≡ next_break_point break_points.Outside b
parts_lead break_point b h =
    let is : Parts b = parts_is break_point b h in
    parts_out break_point b (bare_by break_point b (λ other. both_ways (is_behind_position (mark_of break_point b)) (ap is_behind_position other) h)) is ∙ sym (parts_out break_points.Outside b refl is)

pub parts_open_nothing : (break_point : BreakPoint) (b : ℕ) → is_behind_position (mark_of break_point b) ≡ true → is_before_position (mark_of break_points.Outside b) ≡ false
parts_open_nothing break_point b h = at_parts (λ c. is_before_position (mark_of break_points.Outside c) ≡ false) b (parts_is break_point b h) refl refl refl refl refl

pub opening_leads_out : (break_point : BreakPoint) (b : ℕ) → mark_of break_point b ≡ marks.Opens → next_break_point break_point b ≡ break_points.Outside
opening_leads_out break_point b is =
    let h : is_before_position (mark_of break_point b) ≡ true = ap is_before_position is in
    opens_out break_point b (bare_by break_point b (λ other. both_ways (is_before_position (mark_of break_point b)) (ap is_before_position other) h)) (opens_is break_point b h)

-- ---- lines, byte by byte

on_false : (t : Bool) (P Q : Type 0) → t ≡ false → Q → MatchBool t P Q
on_false true P Q is_false q = absurd (cc)
on_false false P Q is_false q = q

pub goes_byte : (columns : ℕ) (seen : Seen) (b : ℕ) (text : List ℕ) → b ≢ 10 → AreNarrow (columns + 1) (seen_more seen b) text → AreNarrow columns seen (b ∷ text)
goes_byte columns seen b text no_feed narrow = on_false (b == 10) (IsNarrow columns seen × AreNarrow 0 nothing text) (AreNarrow (columns + 1) (seen_more seen b) text) (ne_eqb b 10 no_feed) narrow

goes_blanks : (n columns : ℕ) (text : List ℕ) → AreNarrow (columns + n) nothing text → AreNarrow columns nothing (replicate n 32 ++ text)
goes_blanks zero columns text narrow = let same : columns + 0 ≡ columns = omega arith in subst (λ (m : ℕ). AreNarrow m nothing text) same narrow
goes_blanks (suc n) columns text narrow =
    let same : columns + suc n ≡ columns + 1 + n = omega arith in
    goes_blanks n (columns + 1) text (subst (λ (m : ℕ). AreNarrow m nothing text) same narrow)

pub goes_line : (columns : ℕ) (seen : Seen) (indent b : ℕ) (text : List ℕ) → b ≢ 10 → IsNarrow columns seen → AreNarrow (indent + 1) (seen_more nothing b) text → AreNarrow columns seen (line_text (Some indent) ++ b ∷ text)
goes_line columns seen indent b text no_feed this narrow = (
  this,
  goes_blanks indent 0 (b ∷ text) (goes_byte (0 + indent) nothing b text no_feed
      (let same : indent + 1 ≡ 0 + indent + 1 = omega arith in subst (λ (m : ℕ). AreNarrow m (seen_more nothing b) text) same narrow)),
)

-- Joining the lines of the pretty text gives the plain text.
use Rattle.std.proofs.Common.{◌≡◌, ◌≢◌, ℕ, zero, suc, Bool, true, false, ◌&&◌, ◌==◌, cond, ltb, List, [], ◌∷◌, ◌++◌, replicate, Option, Some, None, refl, ap, ◌∙◌}
use Rattle.std.specs.List.{AllByRecursion}
use Rattle.std.proofs.lemmas.Bool.{cond-false, ne_eqb}
use Rattle.text_pretty.specs.declared.break_point.BreakPoint.{BreakPoint}
use Rattle.text_pretty.specs.declared.break_point.BreakPoint.TheVariants as break_points
use Rattle.text_pretty.specs.declared.break_point.ByteRole.TheVariants as marks
use Rattle.text_pretty.specs.declared.layout.Layout.{Layout}
use Rattle.text_pretty.specs.BreakPoints.{mark_of}
use Rattle.text_pretty.specs.PrettyLines.{inner, base, line_at, line_before, line_text, behind, laid, start}
use Rattle.text_pretty.specs.Stack.{first}
use Rattle.text_pretty.specs.Laws.{joined_from, PrettyIsPlain}

-- ---- removed bytes

blanks_go : (n : ℕ) (bytes : List ℕ) → joined_from true (replicate n 32 ++ bytes) ≡ joined_from true bytes
blanks_go zero bytes = refl
blanks_go (suc n) bytes = blanks_go n bytes

stays : (begun : Bool) (b : ℕ) (bytes : List ℕ) → (b == 10) ≡ false → (begun && b == 32) ≡ false → joined_from begun (b ∷ bytes) ≡ b ∷ joined_from false bytes
stays begun b bytes no_feed no_blank =
    cond-false (b == 10) (joined_from true bytes) (cond (begun && b == 32) (joined_from true bytes) (b ∷ joined_from false bytes)) no_feed
    ∙ cond-false (begun && b == 32) (joined_from true bytes) (b ∷ joined_from false bytes) no_blank

-- ---- no line begins with a blank

blank_is_other : (break_point : BreakPoint) → mark_of break_point 32 ≡ marks.Other
blank_is_other break_points.Outside = refl
blank_is_other break_points.Name = refl
blank_is_other break_points.Square = refl
blank_is_other break_points.Colon = refl
blank_is_other break_points.Text = refl
blank_is_other break_points.TextEscape = refl
blank_is_other break_points.Letter = refl
blank_is_other break_points.LetterEscape = refl

never : (fresh : Bool) (line : Option ℕ) → cond (fresh && false) line None ≡ None
never true line = refl
never false line = refl

either_none : (t : Bool) (line : Option ℕ) → line ≡ None → cond t None line ≡ None
either_none true line none = refl
either_none false line none = none

blank_begins_none : (at : Layout) → line_before at 32 ≡ None
blank_begins_none at =
    either_none (ltb 0 at.flat) (line_at at (mark_of at.break_point 32) 32)
    (ap (λ mark. line_at at mark 32) (blank_is_other at.break_point) ∙ never at.fresh (Some (inner (base (first at.brackets)))))

begins_no_blank : (at : Layout) (b indent : ℕ) → line_before at b ≡ Some indent → (b == 32) ≡ false
begins_no_blank at b indent line =
    ne_eqb b 32 (λ same. let none : line_before at b ≡ None = ap (λ c. line_before at c) same ∙ blank_begins_none at in absurd (cc))

-- ---- a whole text

joins_line : (line : Option ℕ) (b : ℕ) (laid_rest bytes : List ℕ) → (b == 10) ≡ false → ((indent : ℕ) → line ≡ Some indent → (b == 32) ≡ false) → joined_from false laid_rest ≡ bytes → joined_from false (line_text line ++ b ∷ laid_rest) ≡ b ∷ bytes
joins_line None b laid_rest bytes no_feed no_blank rest = stays false b laid_rest no_feed refl ∙ ap (λ t. b ∷ t) rest
joins_line (Some indent) b laid_rest bytes no_feed no_blank rest =
    blanks_go indent (b ∷ laid_rest) ∙ stays true b laid_rest no_feed (no_blank indent refl) ∙ ap (λ t. b ∷ t) rest

joins : (plain : List ℕ) (at : Layout) → AllByRecursion (λ b. b ≢ 10) plain → joined_from false (laid at plain) ≡ plain
joins [] at one_line = refl
joins (b ∷ bytes) at one_line =
    joins_line (line_before at b) b (laid (behind (line_before at b) b bytes at) bytes) bytes
    (ne_eqb b 10 one_line.0)
    (begins_no_blank at b)
    (joins bytes (behind (line_before at b) b bytes at) one_line.1)

pub pretty_is_plain_lem : PrettyIsPlain
pretty_is_plain_lem plain one_line = joins plain start one_line

-- Texts in which brackets occur as in the texts of values, built from words and brackets.
use Rattle.std.specs.Prelude.{◌≡◌, ◌⊎◌, ℕ, true, false, ◌==◌, List, [], ◌∷◌, ◌++◌, codes}
use Rattle.text_pretty.specs.declared.break_point.BreakPoint.{BreakPoint}
use Rattle.text_pretty.specs.declared.break_point.BreakPoint.TheVariants as break_points
use Rattle.text_pretty.specs.declared.break_point.ByteRole.TheVariants as marks
use Rattle.text_pretty.specs.BreakPoints.{mark_of, next_break_point}
use Rattle.text_pretty.specs.Narrow.{goes_on, has_no_blank, is_regular}

-- The text may follow a part.
abbrev pub MayFollow : List ℕ → Type 0
MayFollow rest =
    (goes_on break_points.Outside rest ≡ true) × (is_regular break_points.Outside rest ≡ true)

-- The text may begin with a part.
abbrev pub MayBegin : List ℕ → Type 0
MayBegin text = (has_no_blank text ≡ true) × (is_regular break_points.Outside text ≡ true)

abbrev pub IsPart : List ℕ → Type 0
IsPart text = (rest : List ℕ) → MayFollow rest → MayBegin (text ++ rest)

-- The bytes have no role for brackets, and lead from the first context to the second.
abbrev pub Leads : BreakPoint → List ℕ → BreakPoint → Type 0
Leads break_point [] to = break_point ≡ to
Leads break_point (b ∷ bytes) to =
    (mark_of break_point b ≡ marks.Other) × Leads (next_break_point break_point b) bytes to

pub record PartsAreRegular : Type 0 where
  pub whole : (text : List ℕ) → IsPart text → is_regular break_points.Outside text ≡ true
  -- A word is a part.
  pub word : (b : ℕ) (bytes : List ℕ) (to : BreakPoint) → (b == 32) ≡ false
      → Leads break_points.Outside (b ∷ bytes) to → (to ≡ break_points.Outside)
      ⊎ (to ≡ break_points.Name)
      → IsPart (b ∷ bytes)
  -- A label or a field name may come before a part.
  pub behind_word : (b : ℕ) (bytes text : List ℕ) → (b == 32) ≡ false
      → Leads break_points.Outside (b ∷ bytes) break_points.Outside → MayBegin text
      → MayBegin (b ∷ bytes ++ text)
  -- A closing bracket or a separator may follow a part.
  pub paren : (rest : List ℕ) → MayFollow rest → MayFollow (codes ")" ++ rest)
  pub brace : (rest : List ℕ) → MayFollow rest → MayFollow (codes "}" ++ rest)
  pub bar : (rest : List ℕ) → MayFollow rest → MayFollow (codes "|]" ++ rest)
  pub comma : (text : List ℕ) → MayBegin text → MayFollow (codes ", " ++ text)
  pub semicolon : (text : List ℕ) → MayBegin text → MayFollow (codes "; " ++ text)
  -- An opening bracket, with or without a name before it, may begin a part.
  pub opens_paren : (text : List ℕ) → MayBegin text → MayBegin (codes "(" ++ text)
  pub opens_brace : (text : List ℕ) → MayBegin text → MayBegin (codes "{" ++ text)
  pub opens_array : (text : List ℕ) → MayBegin text → MayBegin (codes "[|" ++ text)
  pub opens_list : (text : List ℕ) → MayBegin text → MayBegin (codes "::(" ++ text)
  pub opens_named : (b : ℕ) (bytes text : List ℕ) → (b == 32) ≡ false
      → Leads break_points.Outside (b ∷ bytes) break_points.Name → MayBegin text
      → MayBegin (b ∷ bytes ++ codes "(" ++ text) × MayBegin (b ∷ bytes ++ codes "{" ++ text)

-- Outputs for lines, by the tables. Outputs determine properties of the lines, and the properties
-- determine outputs.
use Rattle.std.proofs.Common.{◌≡◌, ◌⊎◌, ℕ, ◌+◌, Bool, true, false, List, [], ◌∷◌, ◌++◌, inl, inr, refl, ap, ◌∙◌, subst}
use Rattle.std.specs.Prelude.{◌&&◌, ◌≢◌, ◌==◌}
use Rattle.std.specs.Bool.{Decides}
use Rattle.std.proofs.lemmas.Bool.Decides.{Decides-eqb}
use Rattle.std.specs.List.{AllByRecursion}
use Rattle.cli_spec.specs.Outcome.{Output, nothing_output, all_ok, Language}
use Rattle.run_spec.specs.runs.Commands.{Item, text, Split, AllPrint}
use Rattle.cmd_build.specs.spec.InputTexts.{Built, blank, made, refused, untyped, counted, IsUnbroken, IsLine, write_bytes, IsOutputOf, AreTexts, building}
use Rattle.cmd_build.specs.spec.ExitStatuses.{AreLines, IsFine}
use Rattle.cmd_build.proofs.spec.BuildSpecLineLemmas.{same_text}

-- The lines, each as an item.
abbrev pub texts : List (List ℕ) → List Item
texts [] = []
texts (line ∷ lines) = text line ∷ texts lines

-- The bytes have no line feed, or the bytes begin with a line and a line feed.
pub line_or_rest :
    (bytes : List ℕ) → IsUnbroken bytes ⊎ ((line : List ℕ) × (more : List ℕ) × IsLine bytes line more)
line_or_rest [] = inl tt
line_or_rest (b ∷ bytes) = by (nat_or b) (line_or_rest bytes) where
  nat_or : (b : ℕ) → (b ≡ 10) ⊎ (b ≢ 10)
  nat_or b = at (b == 10) (Decides-eqb b 10) where
    at : (is : Bool) → Decides is (b ≡ 10) → (b ≡ 10) ⊎ (b ≢ 10)
    at true d = inl (d.0 refl)
    at false d = inr (λ e. let never : false ≡ true = d.1 e in cc never)

  by : (b ≡ 10) ⊎ (b ≢ 10)
      → IsUnbroken bytes ⊎ ((line : List ℕ) × (more : List ℕ) × IsLine bytes line more)
      → IsUnbroken (b ∷ bytes) ⊎ ((line : List ℕ) × (more : List ℕ) × IsLine (b ∷ bytes) line more)
  by (inl feed) next =
      inr ([], bytes, record { unbroken = tt; bytes_are = ap (λ b. b ∷ bytes) feed })
  by (inr other) (inl unbroken) = inl (other, unbroken)
  by (inr other) (inr (line, more, h)) = inr (
    b ∷ line,
    more,
    record { unbroken = (other, h.unbroken); bytes_are = ap (λ bytes. b ∷ bytes) h.bytes_are },
  )

module _ {T : Type 0} (TextOf : T → List ℕ → Built → Type 0) (type : T) where
  -- If a line has an output, then the line satisfies `IsFine`, and the output is without errors.
  pub fine_of :
      (line : List ℕ) (built : Built) (output : Output) → TextOf type line built → IsOutputOf built output
      → IsFine TextOf type line × (output.ok ≡ true)
  fine_of line blank output of h = (inl of, ap (λ s. s.ok) h)
  fine_of line (made bytes) output of h = (inr (bytes, of), ap (λ s. s.ok) h)
  fine_of line (refused refusal) output of h = absurd h
  fine_of line (untyped fault) output of h = absurd h

  -- If a line satisfies `IsFine`, then the line has an output.
  pub output_of_fine :
      (line : List ℕ) → IsFine TextOf type line
      → (built : Built) × TextOf type line built × (output : Output) × IsOutputOf built output
  output_of_fine line (inl of) = (blank, of, nothing_output, refl)
  output_of_fine line (inr (bytes, of)) = (made bytes, of, write_bytes bytes, refl)

  -- The texts among lines that satisfy `IsFine` can be counted.
  pub counts_of :
      (lines : List (List ℕ)) → AllByRecursion (IsFine TextOf type) lines
      → (n : ℕ) × AreTexts TextOf type (texts lines) n
  counts_of [] fine = (0, refl)
  counts_of (line ∷ lines) (fine, rest) =
      let next = counts_of lines rest in
      let s = output_of_fine line fine in
      (counted s.0 + next.0, (s.0, s.1, next.0, next.1, refl))

module _ {D T E : Type 0} (language : Language D T E) (TextOf : T → List ℕ → Built → Type 0) (type : T)
  where
    -- If items have an output, then the items are lines that satisfy `IsFine`.
    pub lines_output :
        (before : List Item) (bytes : List ℕ) (items : List Item) (output : List Output) (rest : List ℕ)
        → Split (building language TextOf) type before bytes items rest
        → AllPrint (building language TextOf) type before items output
        → (lines : List (List ℕ)) × AreLines bytes lines rest
        × AllByRecursion (IsFine TextOf type) lines × (all_ok output ≡ true)
    lines_output before bytes [] [] rest split known = ([], split, tt, refl)
    lines_output before bytes [] (s ∷ output) rest split known = absurd known
    lines_output before bytes (item ∷ items) [] rest split known = absurd known
    lines_output before bytes (item ∷ items) (s ∷ output) rest (more, (line, is, e), split) ((other, e', built, of, h), known) =
        let next = lines_output (before ++ item ∷ []) more items output rest split known in
        let same = same_text other line item e' e in
        let f = fine_of TextOf type line built s (subst (λ l. TextOf type l built) same of) h in (
          line ∷ next.0,
          (more, is, next.1),
          (f.0, next.2),
          ap (λ w. w && all_ok output) f.1 ∙ next.3,
        )

    -- If lines satisfy `IsFine`, then the lines have an output.
    pub output_of_lines :
        (before : List Item) (bytes : List ℕ) (lines : List (List ℕ)) (rest : List ℕ)
        → AreLines bytes lines rest → AllByRecursion (IsFine TextOf type) lines
        → (output : List Output) × Split (building language TextOf) type before bytes (texts lines) rest
        × AllPrint (building language TextOf) type before (texts lines) output × (all_ok output ≡ true)
    output_of_lines before bytes [] rest are fine = ([], are, tt, refl)
    output_of_lines before bytes (line ∷ lines) rest (more, is, are) (fine, all) =
        let next = output_of_lines (before ++ text line ∷ []) more lines rest are all in
        let s = output_of_fine TextOf type line fine in (
          s.2 ∷ next.0,
          (more, (line, is, refl), next.1),
          ((line, refl, s.0, s.1, s.3), next.2),
          ap (λ w. w && all_ok next.0) (fine_of TextOf type line s.0 s.2 s.1 s.3).1 ∙ next.3,
        )

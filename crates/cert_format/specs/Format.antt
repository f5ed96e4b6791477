-- The text of a certificate, and the position of the first fault in any other text. The format is
-- defined by this project.
use Rattle.std.specs.Prelude.{ℕ, suc, ◌+◌, ◌-◌, ◌^◌, ◌<◌, ◌≤◌, ◌≡◌, ◌≢◌, ◌⊎◌, List, [], ◌∷◌, ◌++◌}
use Rattle.std.specs.Prelude.{length, map, take, flat_map, All, codes, decimal, Contains}
use Rattle.base_data.specs.model.PathText.{path_text}
use Rattle.cert_format.specs.declared.section.Section.{Section}
use Rattle.cert_format.specs.declared.section.Section.TheVariants as sections
use Rattle.cert_format.specs.Increasing.{AreIncreasing}
use Rattle.cert_format.specs.CertificateNumbers.{IsNumber}

-- ---- entries

abbrev pub IsStated : Section → Type 0
IsStated (sections.Pairs pairs) =
    AreIncreasing pairs × All (λ (pair : ℕ × ℕ). IsNumber pair.0 × IsNumber pair.1) pairs
IsStated (sections.Mismatch path) = All IsNumber path
IsStated (sections.Conflict first second) = All IsNumber first × All IsNumber second

-- The entries that a certificate may have, in order.
pub record AreStated (all : List Section) : Type 0 where
  pub stated : All IsStated all
  pub few : length all ≤ 2 ^ 63

-- ---- lines

abbrev pub pair_line : ℕ × ℕ → List ℕ
pair_line pair = codes "pair " ++ (decimal pair.0 ++ (codes " " ++ decimal pair.1))

-- The verdict: the text after the number in the first line of an entry.
abbrev pub verdict_text : Section → List ℕ
verdict_text (sections.Pairs pairs) = codes "yes"
verdict_text (sections.Mismatch path) = codes "misfit " ++ path_text path
verdict_text (sections.Conflict first second) =
    codes "clash " ++ (path_text first ++ (codes " " ++ path_text second))

-- The first line of entry `k`.
abbrev pub head_line : ℕ → Section → List ℕ
head_line k section = codes "value " ++ (decimal k ++ (codes " " ++ verdict_text section))

abbrev pub pair_lines : Section → List (List ℕ)
pair_lines (sections.Pairs pairs) = map pair_line pairs
pair_lines (sections.Mismatch path) = []
pair_lines (sections.Conflict first second) = []

abbrev pub section_lines : ℕ → Section → List (List ℕ)
section_lines k section = head_line k section ∷ (pair_lines section ++ codes "end" ∷ [])

-- The lines of all entries. The first entry has number `k`.
abbrev pub lines_from : ℕ → List Section → List (List ℕ)
lines_from k [] = []
lines_from k (section ∷ more) = section_lines k section ++ lines_from (suc k) more

-- The text of lines: each line, followed by a line feed.
abbrev pub text_of : List (List ℕ) → List ℕ
text_of lines = flat_map (λ line. line ++ 10 ∷ []) lines

abbrev pub section_text : ℕ → Section → List ℕ
section_text k section = text_of (section_lines k section)

-- The bytes are the certificate of these entries.
pub record IsCertificate (bytes : List ℕ) (all : List Section) : Type 0 where
  pub stated : AreStated all
  pub encoded : bytes ≡ text_of (lines_from 0 all)

-- ---- faults

-- The lines of the bytes that end with a line feed, and the bytes after the last line feed.
pub record AreLinesOf (bytes : List ℕ) (lines : List (List ℕ)) (rest : List ℕ) : Type 0 where
  pub whole : bytes ≡ text_of lines ++ rest
  pub no_feed : (line : List ℕ) → Contains lines line → ¬ Contains line 10
  pub no_feed_behind : ¬ Contains rest 10

-- `ArePrefix`: some certificate begins with these lines. `AreWhole`: some certificate consists of
-- exactly these lines.
abbrev pub ArePrefix : List (List ℕ) → Type 0
ArePrefix lines =
    (all : List Section) × (more : List (List ℕ)) × AreStated all
    × (lines_from 0 all ≡ lines ++ more)

abbrev pub AreWhole : List (List ℕ) → Type 0
AreWhole lines = (all : List Section) × AreStated all × (lines_from 0 all ≡ lines)

-- Line `n`, counted from 1, is the first faulty line: no certificate continues with line `n`. If
-- all lines are possible, but the last line or entry is not complete, line `n` is the line after
-- the last line.
pub record IsSyntaxAt (bytes : List ℕ) (n : ℕ) : Type 0 where
  pub lines : List (List ℕ)
  pub rest : List ℕ
  pub are : AreLinesOf bytes lines rest
  pub counted : 0 < n
  pub within : n ≤ length lines + 1
  pub before : ArePrefix (take (n - 1) lines)
  pub why : ((n ≤ length lines) × (¬ ArePrefix (take n lines)))
      ⊎ ((n ≡ length lines + 1) × ((rest ≢ []) ⊎ (¬ AreWhole lines)))

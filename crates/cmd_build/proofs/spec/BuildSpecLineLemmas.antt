-- The bytes are a line, the line's line feed and further bytes in at most one way.
use Rattle.std.proofs.Common.{◌≡◌, ℕ, List, [], ◌∷◌, ◌++◌, sym, ap, ◌∙◌, subst, append_assoc}
use Rattle.run_spec.specs.runs.Commands.{Item, text}
use Rattle.run_spec.proofs.runs.RunLineLemmas.{broken, same_line}
use Rattle.cmd_build.specs.spec.InputTexts.{IsUnbroken, IsLine}

pub line_once :
    (bytes line other more rest : List ℕ) → IsLine bytes line more → IsLine bytes other rest
    → (line ≡ other) × (more ≡ rest)
line_once bytes line other more rest h k =
    same_line line other more rest h.unbroken k.unbroken (sym h.bytes_are ∙ k.bytes_are)

pub line_prefix :
    (bytes line more : List ℕ) → IsLine bytes line more → bytes ≡ (line ++ 10 ∷ []) ++ more
line_prefix bytes line more h = h.bytes_are ∙ sym (append_assoc line (10 ∷ []) more)

pub line_stays :
    (bytes line more later : List ℕ) → IsLine bytes line more
    → IsLine (bytes ++ later) line (more ++ later)
line_stays bytes line more later h = record {
  unbroken = h.unbroken;
  bytes_are = ap (λ b. b ++ later) h.bytes_are ∙ append_assoc line (10 ∷ more) later;
}

-- If bytes have no line feed, then the bytes do not begin with a complete line.
pub unbroken_is_no_line : (bytes line more : List ℕ) → IsUnbroken bytes → IsLine bytes line more → ⊥
unbroken_is_no_line bytes line more unbroken h =
    broken line more (subst IsUnbroken h.bytes_are unbroken)

pub same_text : (line other : List ℕ) (item : Item) → item ≡ text line → item ≡ text other → line ≡ other
same_text line other item h k = let e : text line ≡ text other = sym h ∙ k in cc e

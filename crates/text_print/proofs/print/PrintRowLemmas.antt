-- Ranges of consecutive numbers, one more number at a time.
use Rattle.std.proofs.Common.{ℕ, suc, ◌≡◌, ◌+◌, ◌-◌, ◌≤◌, ◌∙◌, [], ◌∷◌, ◌++◌, ap, arith}
use Rattle.text_print.specs.print.PrintRow.{row}

pub row_more : (first next : ℕ) → first ≤ next → row first (next + 1 - first) ≡ row first (next - first) ++ next ∷ []
row_more first next within =
    let more : next + 1 - first ≡ suc (next - first) = omega arith in
    let last : first + (next - first) ≡ next = omega arith in
    ap (row first) more ∙ ap (λ n. row first (next - first) ++ n ∷ []) last

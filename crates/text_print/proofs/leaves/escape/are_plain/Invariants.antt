use Rattle.std.proofs.Common.{ℕ, ◌≡◌, ◌≤◌, ◌<◌, ◌∷◌, [], get_or}
use Rattle.text_print.specs.leaves.LeafTexts.{escaped}
use Rattle.text_print.proofs.leaves.escape.are_plain.Given as goal

abbrev pub invariant-loop-i : goal.invariant-loop-i
invariant-loop-i l = (l.others ≤ l.i) × (l.others ≡ 0 → (j : ℕ) → j < l.i → j < l.k → escaped 34 (get_or l.bytes j 0) ≡ get_or l.bytes j 0 ∷ [])

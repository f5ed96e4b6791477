-- Lemmas about the items so far, for `generate` and `add`.
use Rattle.std.proofs.Common.{◌≡◌, ℕ, ◌+◌, ap, add-one}
use Rattle.cmd_gen.specs.generator.Generated.{items_made, next_made}

-- The first `n + 1` items are the first `n` items and one more item.
pub items_made_more : (number n : ℕ) → items_made number (n + 1) ≡ next_made (items_made number n)
items_made_more number n = ap (items_made number) (add-one n)

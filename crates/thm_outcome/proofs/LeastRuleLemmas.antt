-- It is not so that rules are broken and no rule is broken first. Rules are tested in turns, and
-- each rule is tested from the first lexeme on.
use Rattle.std.proofs.Common.{◌<◌, ◌≤◌, ℕ, zero, suc, arith}
use Rattle.types_spec.specs.types.Scope.{Rule, turn, IsFirst, KeepsAll}
use Rattle.thm_outcome.specs.Total.{NotNone}

abbrev IsLeast : (ℕ → Type 0) → ℕ → Type 0
IsLeast P m = P m × ((i : ℕ) → i < m → P i → ⊥)

-- If a number satisfies `P`, then a least number satisfies `P`.
least_some : (P : ℕ → Type 0) (fuel k : ℕ) → k ≤ fuel → P k → NotNone (IsLeast P)
least_some P zero k fits p none = none k (p, λ i less h. absurd (omega (arith, less, fits)))
least_some P (suc fuel) k fits p none =
    none k (p, λ i less h. least_some P fuel i (omega (arith, less, fits)) h none)

module _ (Breaks : Rule → ℕ → Type 0) where
  first_in :
      (fuel : ℕ) (rule : Rule) (k : ℕ) → turn rule ≤ fuel → Breaks rule k
      → ((rule : Rule) (k : ℕ) → IsFirst Breaks rule k → ⊥) → ⊥
  first_in zero rule k fits broken none =
      least_some (Breaks rule) k k (omega arith) broken (λ m h.
      none rule m (record {
        broken = h.0;
        least = h.1;
        earlier = λ other j less b. absurd (omega (arith, less, fits));
      }))
  first_in (suc fuel) rule k fits broken none =
      least_some (Breaks rule) k k (omega arith) broken (λ m h.
      none rule m (record {
        broken = h.0;
        least = h.1;
        earlier = λ other j less b. first_in fuel other j (omega (arith, less, fits)) b none;
      }))

  -- All rules are kept, or a rule is broken first.
  pub kept_or_first :
      (KeepsAll Breaks → ⊥) → ((rule : Rule) (k : ℕ) → IsFirst Breaks rule k → ⊥) → ⊥
  kept_or_first not_kept none =
      not_kept (λ rule k broken. first_in (turn rule) rule k (omega arith) broken none)

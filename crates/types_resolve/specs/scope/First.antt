-- The first rule on names that is broken.
use Rattle.std.specs.Prelude.{ℕ, ◌<◌, Option, None, Some}
use Rattle.types_spec.specs.types.Scope.{IsFirst, Rule, turn}
use Rattle.types_resolve.specs.declared.scope.first_name_rule.Broken.{Broken}
use Rattle.types_resolve.specs.scope.Breaks.{rule_of}

-- No rule with a turn before `n` is broken.
abbrev pub KeepsBefore : (Rule → ℕ → Type 0) → ℕ → Type 0
KeepsBefore Breaks n = (rule : Rule) (k : ℕ) → turn rule < n → ¬ Breaks rule k

-- The first broken rule with a turn before `n`, with the least lexeme that breaks the rule. `None`
-- means that no rule with a turn before `n` is broken.
abbrev pub IsFirstBefore : (Rule → ℕ → Type 0) → ℕ → Option Broken → Type 0
IsFirstBefore Breaks n None = KeepsBefore Breaks n
IsFirstBefore Breaks n (Some broken) =
    (turn (rule_of broken.rule) < n) × IsFirst Breaks (rule_of broken.rule) broken.position

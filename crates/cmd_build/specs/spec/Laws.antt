-- Theorems about the command on texts.
use Rattle.std.specs.Prelude.{ℕ, ◌≡◌, List, None}
use Rattle.cli_spec.specs.Outcome.{Request, Language}
use Rattle.run_spec.specs.command_sum.CommandSum.{IsIdleAt}
use Rattle.cmd_build.specs.spec.InputTexts.{Built, built_by, building}

-- The command ignores each request that is not its own.
abbrev pub IsIdleElsewhere : {D T E : Type 0} → Language D T E → (T → List ℕ → Built → Type 0)
    → Type 0
IsIdleElsewhere language TextOf =
    (request : Request) → built_by request ≡ None → IsIdleAt (building language TextOf) request

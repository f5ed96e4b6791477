-- The laws of the command `verify`.
use Rattle.std.specs.Prelude.{◌≡◌, None}
use Rattle.marshal_spec.specs.format.Tree.{Tree}
use Rattle.cli_spec.specs.Outcome.{Request, Language}
use Rattle.run_spec.specs.command_sum.CommandSum.{IsIdleAt}
use Rattle.cmd_verify.specs.spec.Verification.{Shown, verified_by, ReadsSections, verifying}

-- The command does nothing for a request of another command.
abbrev pub IsIdleElsewhere : {D T E S : Type 0} → Language D T E → ReadsSections S
    → (T → S → Tree → Shown → Type 0) → Type 0
IsIdleElsewhere language Reads ShownBy =
    (request : Request) → verified_by request ≡ None
    → IsIdleAt (verifying language Reads ShownBy) request

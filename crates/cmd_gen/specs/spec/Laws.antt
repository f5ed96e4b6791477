-- The command does nothing for a request of another command.
use Rattle.std.specs.Prelude.{◌≡◌, None}
use Rattle.cli_spec.specs.Outcome.{Request, Language}
use Rattle.run_spec.specs.command_sum.CommandSum.{IsIdleAt}
use Rattle.cmd_gen.specs.spec.GenSpec.{generated_by, gen_spec}

abbrev pub IsIdleElsewhere : {D T E : Type 0} → Language D T E → Type 0
IsIdleElsewhere language =
    (request : Request) → generated_by request ≡ None → IsIdleAt (gen_spec language) request

-- The laws of the command `check --cert`.
use Rattle.std.specs.Prelude.{◌≡◌, None}
use Rattle.cli_spec.specs.Outcome.{Request, Language}
use Rattle.run_spec.specs.command_sum.CommandSum.{IsIdleAt}
use Rattle.cmd_certify.specs.spec.Certification.{OutputsSections, certified_by, certifying}

-- The command does nothing for a request of another command.
abbrev pub IsIdleElsewhere : {D T E : Type 0} → Language D T E → OutputsSections T → Type 0
IsIdleElsewhere language SectionOf =
    (request : Request) → certified_by request ≡ None
    → IsIdleAt (certifying language SectionOf) request

-- The command does nothing for a request of another command.
use Rattle.std.proofs.Common.{◌≡◌, ◌∙◌, Some, None, sym}
use Rattle.cli_spec.specs.Outcome.{Request, Language}
use Rattle.run_spec.specs.command_sum.CommandSum.{IsIdleAt}
use Rattle.cmd_certify.specs.spec.Certification.{CertifyArguments, certified_by, OutputsSections, certifying}

module _ {D T E : Type 0} (language : Language D T E) (SectionOf : OutputsSections T) where
  pub certifying_idle :
      (request : Request) → certified_by request ≡ None
      → IsIdleAt (certifying language SectionOf) request
  certifying_idle request none = record {
    unwanted = λ files turn name h. differ h.0 h.1;
    unfound = λ files result h. differ h.0 h.1;
  } where
    differ : (asked : CertifyArguments) → certified_by request ≡ Some asked → ⊥
    differ asked e = let never : None ≡ Some asked = sym none ∙ e in cc never

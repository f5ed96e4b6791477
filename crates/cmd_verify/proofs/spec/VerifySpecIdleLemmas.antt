-- The command does nothing for a request of another command.
use Rattle.std.proofs.Common.{◌≡◌, ◌∙◌, Some, None, sym}
use Rattle.marshal_spec.specs.format.Tree.{Tree}
use Rattle.cli_spec.specs.Outcome.{Request, Language}
use Rattle.run_spec.specs.command_sum.CommandSum.{IsIdleAt}
use Rattle.cmd_verify.specs.spec.Verification.{Shown, VerifyArguments, verified_by, ReadsSections, verifying}

module _ {D T E S : Type 0} (language : Language D T E) (Reads : ReadsSections S)
    (ShownBy : T → S → Tree → Shown → Type 0) where
  pub certificates_idle :
      (request : Request) → verified_by request ≡ None
      → IsIdleAt (verifying language Reads ShownBy) request
  certificates_idle request none = record {
    unwanted = λ files turn name h. differ h.0 h.1;
    unfound = λ files result h. differ h.0 h.1;
  } where
    differ : (asked : VerifyArguments) → verified_by request ≡ Some asked → ⊥
    differ asked e = let never : None ≡ Some asked = sym none ∙ e in cc never

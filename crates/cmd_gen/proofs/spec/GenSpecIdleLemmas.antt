-- The command does nothing for a request of another command.
use Rattle.std.proofs.Common.{◌≡◌, ◌∙◌, Some, None, sym}
use Rattle.cli_spec.specs.Outcome.{Request, Language}
use Rattle.run_spec.specs.command_sum.CommandSum.{IsIdleAt}
use Rattle.cmd_gen.specs.spec.GenSpec.{GenArguments, generated_by, gen_spec}

module _ {D T E : Type 0} (language : Language D T E) where
  pub gen_spec_idle :
      (request : Request) → generated_by request ≡ None → IsIdleAt (gen_spec language) request
  gen_spec_idle request none = record {
    unwanted = λ files turn name h. h;
    unfound = λ files result h. differ h.0 h.1;
  } where
    differ : (asked : GenArguments) → generated_by request ≡ Some asked → ⊥
    differ asked e = let never : None ≡ Some asked = sym none ∙ e in cc never

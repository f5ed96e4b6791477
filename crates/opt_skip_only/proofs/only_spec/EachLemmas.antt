-- If all items are selected, then the commands are unchanged.
use Rattle.std.proofs.Common.{◌≡◌, ℕ, List, Option, None, sym, subst}
use Rattle.cli_spec.specs.Outcome.{Request}
use Rattle.run_spec.specs.runs.Account.{Account}
use Rattle.run_spec.specs.runs.Call.{Call}
use Rattle.run_spec.specs.runs.Commands.{Commands}
use Rattle.run_spec.specs.runs.RunSpec.{RunSpec}
use Rattle.run_spec.proofs.command_sum.CommandSumAgreeLemmas.{Agrees}
use Rattle.run_spec.proofs.command_sum.BesideLemmas.{account_beside, run_spec_beside}
use Rattle.opt_skip_only.specs.only_spec.OnlyCommand.{only_command, OnlyNothing}

module _ {A : Type 0} (picked_by : Request → Option ℕ) (c : Commands A) where
  abbrev one : Commands (Option ℕ × A)
  one = only_command picked_by c

  pub agree_each : (a : A) → Agrees c one a (None, a)
  agree_each a = record {
    reads = (λ h. h, λ h. h);
    first = λ items bytes item more. (λ h. h, λ h. h);
    outputs = λ items item output. (λ h. h, λ h. h);
    exits = λ items bytes exit. (λ h. h, λ h. h);
    ends = λ items bytes last. (λ h. h, λ h. h);
  }

  agree : (picked : Option ℕ) (a : A) → picked ≡ None → Agrees c one a (picked, a)
  agree picked a none = subst (λ p. Agrees c one a (p, a)) (sym none) (agree_each a)

  module _ (arguments : List (List ℕ)) (each : OnlyNothing picked_by arguments) where
    pub account_of_each : (call : Call) → Account c arguments call → Account one arguments call
    account_of_each call h =
        account_beside picked_by c one arguments (λ picked. picked ≡ None) each agree call h

    pub run_spec_of_each : (call : Call) → RunSpec one arguments call → RunSpec c arguments call
    run_spec_of_each call h =
        run_spec_beside picked_by c one arguments (λ picked. picked ≡ None) each agree call h

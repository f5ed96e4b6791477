-- The specification of a run by lawful commands follows from the account of the run.
use Rattle.run_spec.specs.runs.CommandLaws.{ArePromised}
use Rattle.run_spec.specs.runs.Commands.{Commands}
use Rattle.run_spec.specs.runs.Lawful.{AreLawful}
use Rattle.run_spec.proofs.runs.FailedLemmas.{reports_faults}
use Rattle.run_spec.proofs.runs.RunAnswerLemmas.{answers_given, answers_whole}

module _ {A : Type 0} (c : Commands A) (lawful : AreLawful c) where
  pub promised : ArePromised c
  promised arguments call reports account = record {
    account = account;
    answered = answers_given c lawful arguments call account;
    whole = answers_whole c lawful arguments call account;
    faults = reports_faults c arguments call lawful account;
  }

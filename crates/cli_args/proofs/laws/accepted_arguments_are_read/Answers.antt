use Rattle.cli_args.proofs.ArgumentsAcceptedLemmas as lemmas
use Rattle.cli_args.proofs.laws.accepted_arguments_are_read.Goals as goal

pub returns : goal.returns
returns c = lemmas.accepted_arguments_are_read

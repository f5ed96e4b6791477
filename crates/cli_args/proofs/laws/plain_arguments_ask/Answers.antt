use Rattle.cli_args.proofs.ArgumentsPlainLemmas as lemmas
use Rattle.cli_args.proofs.laws.plain_arguments_ask.Goals as goal

pub returns : goal.returns
returns c = lemmas.plain_arguments_ask

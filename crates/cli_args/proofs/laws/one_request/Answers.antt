use Rattle.cli_args.proofs.RequestLemmas as lemmas
use Rattle.cli_args.proofs.laws.one_request.Goals as goal

pub returns : goal.returns
returns c = lemmas.one_request

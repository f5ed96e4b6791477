use Rattle.cmd_build.proofs.guess.GuessEncodedLemmas.{encoded_are_readable}
use Rattle.cmd_build.proofs.guess.laws.encoded_are_readable.Goals as goal

pub returns : goal.returns
returns c = encoded_are_readable

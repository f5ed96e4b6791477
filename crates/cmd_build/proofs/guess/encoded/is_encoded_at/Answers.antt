use Rattle.std.proofs.Common.{sym, subst}
use Rattle.cmd_build.specs.guess.ReadableNames.{IsEncoded}
use Rattle.cmd_build.proofs.guess.GuessEncodedLemmas.{sum_names}
use Rattle.cmd_build.proofs.guess.encoded.is_encoded_at.Goals as goal

pub returns-then-are_constants : goal.returns-then-are_constants
returns-then-are_constants c is =
    subst (λ shape. IsEncoded shape c.args.names.now) (sym c.in-Sum.is)
    (sum_names c.args.names.now (c.are_constants.ensures c.if-are_constants.true) (c.are_constructors.ensures is))

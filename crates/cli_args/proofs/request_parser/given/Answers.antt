use Rattle.std.specs.Str.Parse.{ParsesUnsigned, ExplainsUnsignedError, HasUnsignedDigitsIfOk}
use Rattle.clap.specs.Words.{found_of}
use Rattle.cli_args.proofs.ArgumentsReadLemmas.{given_got}
use Rattle.cli_args.proofs.request_parser.given.Goals as goal

pub returns : goal.returns
returns c =
    given_got (λ text r. ParsesUnsigned 64 10 text r × ExplainsUnsignedError 10 text r × HasUnsignedDigitsIfOk text r) (λ text r gives. gives.0) (found_of c.args.arguments.now) c.args.name.now c.get_one.result
    c.get_one.ensures.none c.get_one.ensures.value

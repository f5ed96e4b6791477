use Rattle.std.proofs.Common.{refl}
use Rattle.clap.specs.Words.{found_of}
use Rattle.cli_args.proofs.ArgumentsReadLemmas.{word_got}
use Rattle.cli_args.proofs.request_parser.word.Goals as goal

pub returns : goal.returns
returns c = word_got (found_of c.args.arguments.now) c.args.name.now c.get_str.result _ c.unwrap_or.result c.get_str.ensures refl c.unwrap_or.ensures

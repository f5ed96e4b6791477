use Rattle.clap.specs.Words.{found_of, rows_of}
use Rattle.cli_args.proofs.ArgumentsReadLemmas.{met_read}
use Rattle.cli_args.proofs.request_parser.request_met.Goals as goal

pub returns : goal.returns
returns c =
    met_read c.args.matches.now c.in_ok-command.command.now (rows_of (found_of c.in_ok-command.arguments.now)) c.request_by.result c.in_ok-command.ensures.name c.in_ok-command.ensures.rows c.request_by.ensures

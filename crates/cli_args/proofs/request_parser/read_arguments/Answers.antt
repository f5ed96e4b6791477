use Rattle.clap.specs.Words.{app_of}
use Rattle.cli_args.specs.Requests.{texts}
use Rattle.cli_args.proofs.ArgumentsReadLemmas.{asked_read, refusal_read}
use Rattle.cli_args.proofs.request_parser.read_arguments.Goals as goal

pub returns-in-Ok : goal.returns-in-Ok
returns-in-Ok c =
    asked_read (app_of c.in_ok-command_set.field-0) c.in_ok-command_set.ensures (texts c.args.command_line.now) c.in-Ok.matches c.in-Ok.ensures.kinds c.in-Ok.ensures.matches
    c.request_asked.result c.request_asked.ensures

pub returns-in-Err : goal.returns-in-Err
returns-in-Err c =
    refusal_read (app_of c.in_ok-command_set.field-0) c.in_ok-command_set.ensures (texts c.args.command_line.now) c.in-Err.error c.in-Err.ensures.kinds c.refusal_of.result c.refusal_of.ensures

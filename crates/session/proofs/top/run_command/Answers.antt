use Rattle.base_io.specs.StreamState.{change}
use Rattle.cli_args.specs.Requests.{texts}
use Rattle.run_loop.proofs.work.ExitLemmas.{usage_account, unread_account}
use Rattle.session.specs.All.{all_commands}
use Rattle.session.proofs.SessionPartLemmas.{all_in_turns}
use Rattle.session.proofs.top.run_command.Goals as goal

pub returns-in-Err-Usage : goal.returns-in-Err-Usage
returns-in-Err-Usage g c =
    usage_account all_commands (texts c.args.arguments.now) 2 all_in_turns (g.O.Opener.state c.args.files.now)
    (g.S.Source.state c.args.input.now) (g.K.Sink.state c.args.out.now)
    (change (g.E.Sink.state c.args.err.now) (g.E.Sink.state c.report_exit.new.err)) c.report_exit.result
    (rw c.in-Err-Usage.field-0-is at c.in-Err-Usage.ensures) c.report_exit.ensures

pub returns-in-Err-Memory : goal.returns-in-Err-Memory
returns-in-Err-Memory g c =
    unread_account all_commands (texts c.args.arguments.now) 2 all_in_turns (g.O.Opener.state c.args.files.now)
    (g.S.Source.state c.args.input.now) (g.K.Sink.state c.args.out.now)
    (change (g.E.Sink.state c.args.err.now) (g.E.Sink.state c.report_exit-in-Err-Memory.new.err)) c.report_exit-in-Err-Memory.result c.report_exit-in-Err-Memory.ensures

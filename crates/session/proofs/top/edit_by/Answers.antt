use Rattle.std.proofs.Common.{◌≡◌, ℕ, Bool, List, Ok, Err, Result, subst}
use Rattle.cli_spec.specs.Outcome.{Found}
use Rattle.cli_spec.specs.declared.exit.Exit.{Exit}
use Rattle.base_io.specs.StreamState.{change}
use Rattle.text_path.specs.declared.edits.Script.{Script}
use Rattle.run_types.specs.RequestedTexts.{GivesScript}
use Rattle.session.proofs.SessionAccountLemmas.{given_in_time, script_account}
use Rattle.session.proofs.top.edit_by.Goals as goal

-- If the options of a script equal the requested options, then the result is the result with the
-- requested options.
asked_so : (name : List ℕ) (found : Found) (result : Result Script Exit) (l lines d decimal : Bool) → l ≡ lines → d ≡ decimal → GivesScript l d name found result → GivesScript lines decimal name found result
asked_so name found result l lines d decimal same_lines same_decimal gives =
    subst (λ (b : Bool). GivesScript lines b name found result) same_decimal (subst (λ (b : Bool). GivesScript b d name found result) same_lines gives)

pub edit_with-requires : goal.edit_with-requires
edit_with-requires g c =
    let found = c.in-Ok.ensures in record { in_time = given_in_time c.lines_in_time.ensures c.lines.result c.decimal.result c.args.script.now found.0 c.in-Ok.script found.2 }

pub returns-in-Ok : goal.returns-in-Ok
returns-in-Ok g c = λ arguments before asks.
    let found = c.in-Ok.ensures in
    c.edit_with.ensures arguments before (g.O.Opener.state c.find_script.new.files) (record {
      name = c.args.script.now;
      between = g.O.Opener.state c.args.files.now;
      asks = asks;
      found = found.0;
      fetched = found.1;
      gives = asked_so c.args.script.now found.0 (Ok c.in-Ok.script) c.lines.result c.args.requested.now.lines c.decimal.result c.args.requested.now.decimal c.lines.ensures c.decimal.ensures found.2;
    })

pub returns-in-Err : goal.returns-in-Err
returns-in-Err g c = λ arguments before asks.
    let found = c.in-Err.ensures in
    let gives = asked_so c.args.script.now found.0 (Err c.in-Err.exit) c.lines.result c.args.requested.now.lines c.decimal.result c.args.requested.now.decimal c.lines.ensures c.decimal.ensures found.2 in
    script_account arguments c.args.requested c.args.script.now c.args.compat c.args.reading before (g.O.Opener.state c.args.files.now) (g.O.Opener.state c.find_script.new.files) asks
    found.0 found.1 c.in-Err.exit gives
    (g.S.Source.state c.args.input.now) (g.K.Sink.state c.args.out.now)
    (change (g.E.Sink.state c.args.err.now) (g.E.Sink.state c.report_exit.new.err)) c.report_exit.result c.report_exit.ensures

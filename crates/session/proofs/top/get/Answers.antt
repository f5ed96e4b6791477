use Rattle.std.proofs.Common.{Ok, Err, refl, subst}
use Rattle.cli_spec.specs.Outcome.{get}
use Rattle.base_io.specs.StreamState.{change}
use Rattle.text_path.specs.ParserAnswer.{IsAnswer, UnlessMemory}
use Rattle.session.proofs.SessionAccountLemmas.{path_account}
use Rattle.session.proofs.top.get.Goals as goal

pub returns-in-Ok : goal.returns-in-Ok
returns-in-Ok g c = λ arguments asks.
    let reads = subst (λ text. IsAnswer text (Ok c.in-Ok.path)) c.as_bytes.ensures.value c.in-Ok.ensures.path in
    c.announce.ensures arguments (record {
      request = get c.args.file.now c.args.type_text.now c.args.path_text.now c.args.style c.args.lines c.args.reading;
      asks = asks;
      typed = refl;
      limited = refl;
      passes = refl;
      picks = refl;
      has_path = (c.in-Ok.path, reads);
      finds = λ file result h. (Ok c.in-Ok.path, reads, h);
    })

pub returns-in-Err : goal.returns-in-Err
returns-in-Err g c = λ arguments asks.
    path_account arguments c.args.file.now c.args.type_text.now c.args.path_text.now c.args.style c.args.lines c.args.reading asks c.in-Err.fault
    (subst (λ text. UnlessMemory (λ f. IsAnswer text (Err f)) c.in-Err.fault) c.as_bytes.ensures.value c.in-Err.ensures.fault) c.path_exit.result c.path_exit.ensures
    (g.S.Source.state c.args.input.now) (g.K.Sink.state c.args.out.now) (g.O.Opener.state c.args.files.now)
    (change (g.E.Sink.state c.args.err.now) (g.E.Sink.state c.report_exit.new.err)) c.report_exit.result c.report_exit.ensures

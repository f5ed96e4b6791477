use Rattle.std.proofs.Common.{[], ◌∷◌, get_or, sym, subst}
use Rattle.base_io.specs.Sink.{Writes, WritesPart}
use Rattle.base_io.specs.StreamState.{change}
use Rattle.run_spec.specs.runs.Commands.{text as text_item}
use Rattle.opt_skip_only.specs.skip_spec.Skipping.{passed_output, skipping}
use Rattle.opt_skip_only.specs.skip.SkipCommand.{passed_of, HasPassed}
use Rattle.run_spec.proofs.runs.LengthLemmas.{prefix_byte}
use Rattle.opt_skip_only.proofs.skip.SkipCommandLemmas.{some_left, fed_at, stepped, step_fault, feeds_fault, writes_byte, writes_none}
use Rattle.opt_skip_only.proofs.skip.skip_command.SkipCommandWork.feed.Goals.{then-self+in_ok-write_all, else-self}
use Rattle.opt_skip_only.proofs.skip.skip_command.SkipCommandWork.feed.Goals as goal

pub returns-then-self-eq0-clause-feeds : goal.returns-then-self-eq0-clause-feeds
returns-then-self-eq0-clause-feeds g c = λ reads.
    let w = c.args.self.now in
    fed_at g.P.PassesOver.passed_by g.W.Work.commands (passed_of w.over) (g.W.Work.act w.work)
    (g.W.Work.has w.work) w.left c.if-self-eq0.true (g.W.Work.has c.feed.new.self) c.args.chunk.now
    (change (g.K.Sink.state c.args.out.now) (g.K.Sink.state c.feed.new.out)) c.feed.result (c.feed.ensures.feeds reads)

pub returns-in_err-write_all-clause-feeds : goal.returns-in_err-write_all-clause-feeds
returns-in_err-write_all-clause-feeds g c = λ reads.
    let w = c.args.self.now in
    let f = prefix_byte c.args.chunk.now c.requires.some in
    let out = change (g.K.Sink.state c.args.out.now) (g.K.Sink.state c.write_all.new.sink) in
    let there = HasPassed (passed_of w.over) (g.W.Work.has w.work) w.left in
    feeds_fault (skipping g.P.PassesOver.passed_by g.W.Work.commands) (passed_of w.over, g.W.Work.act w.work)
    there there c.args.chunk.now out c.from_residual.result c.from_residual.ensures.1
    (step_fault g.P.PassesOver.passed_by g.W.Work.commands (passed_of w.over) (g.W.Work.act w.work)
    (g.W.Work.has w.work) w.left c.args.chunk.now out (some_left w.left c.if-self-eq0.false)
    c.requires.some c.if-self.true (subst (λ t. WritesPart out t) f.2 c.in_err-write_all.ensures.writes))

pub returns-clause-feeds : goal.returns-clause-feeds
returns-clause-feeds g c = λ reads.
    let w = c.args.self.now in
    stepped g.P.PassesOver.passed_by g.W.Work.commands (passed_of w.over) (g.W.Work.act w.work)
    (g.W.Work.has w.work) w.left c.args.chunk.now
    (change (g.K.Sink.state c.args.out.now) (g.K.Sink.state c.if-self.out))
    (some_left w.left c.if-self-eq0.false) c.requires.some
    (elim c.if-self.branch [
      | then-self+in_ok-write_all v ↦
          writes_byte w.over.copied (get_or c.args.chunk.now 0 0)
          (change (g.K.Sink.state c.args.out.now) (g.K.Sink.state c.if-self.out)) v.if-self.true
          (subst (λ o. Writes (change (g.K.Sink.state c.args.out.now) (g.K.Sink.state o)) (get_or c.args.chunk.now 0 0 ∷ [])) (sym v.out-is)
          (subst (λ t. Writes (change (g.K.Sink.state c.args.out.now) (g.K.Sink.state v.write_all.new.sink)) t)
          (prefix_byte c.args.chunk.now c.requires.some).2 v.in_ok-write_all.ensures.writes))
      | else-self v ↦
          subst (λ o. Writes (change (g.K.Sink.state c.args.out.now) (g.K.Sink.state o))
          (passed_output w.over.copied (text_item (get_or c.args.chunk.now 0 0 ∷ []))).text) (sym v.out-is)
          (writes_none w.over.copied (get_or c.args.chunk.now 0 0) (g.K.Sink.state c.args.out.now) v.if-self.false)
    ])

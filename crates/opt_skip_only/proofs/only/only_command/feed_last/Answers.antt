use Rattle.std.proofs.Common.{subst, arith}
use Rattle.base_io.specs.StreamState.{change}
use Rattle.run_spec.specs.runs.Account.{HaveNoExit}
use Rattle.opt_skip_only.proofs.only.OnlyWorkLemmas.{fed_within, aborts_within, finishes}
use Rattle.opt_skip_only.proofs.only.only_command.feed_last.Goals as goal

pub returns-in_err-taken-clause-feeds : goal.returns-in_err-taken-clause-feeds
returns-in_err-taken-clause-feeds g c = λ reads.
    aborts_within g.P.PicksOne.picked_by g.W.Work.commands (g.W.Work.act c.args.work.now)
    c.args.number (g.W.Work.has c.args.work.now) c.never_finishes.ensures
    (g.W.Work.has c.feed.new.self) c.args.buffered.now
    (change (g.K.Sink.state c.args.out.now) (g.K.Sink.state c.feed.new.out))
    c.requires.last c.in_err-taken.field-0.0 c.from_residual.result c.from_residual.ensures.1
    (c.in_err-taken.ensures.feeds reads)

pub returns-then-number-count-clause-feeds : goal.returns-then-number-count-clause-feeds
returns-then-number-count-clause-feeds g c = λ reads.
    finishes g.P.PicksOne.picked_by g.W.Work.commands (g.W.Work.act c.args.work.now)
    c.args.number (g.W.Work.has c.args.work.now) c.never_finishes.ensures
    (g.W.Work.has c.feed.new.self) c.args.buffered.now
    (change (g.K.Sink.state c.args.out.now) (g.K.Sink.state c.feed.new.out)) c.in_ok-taken.taken
    c.laws.ensures.stay c.requires.last c.laws.ensures.holds
    (λ bytes output there.
    subst (λ a. HaveNoExit g.W.Work.commands a bytes output) c.in_ok-taken.ensures.kept
    (c.laws-then-number-count.ensures.holds bytes output there))
    (λ bytes known there.
    let n = c.count-count.ensures bytes known there in
    let past = c.if-number-count.true in
    omega (arith, n, past))
    c.last_ok.result c.last_ok.ensures (c.in_ok-taken.ensures.feeds reads)

pub returns-clause-feeds : goal.returns-clause-feeds
returns-clause-feeds g c = λ reads.
    fed_within g.P.PicksOne.picked_by g.W.Work.commands (g.W.Work.act c.args.work.now)
    c.args.number (g.W.Work.has c.args.work.now) c.never_finishes.ensures
    (g.W.Work.has c.feed.new.self) c.args.buffered.now
    (change (g.K.Sink.state c.args.out.now) (g.K.Sink.state c.feed.new.out)) c.in_ok-taken.taken
    c.requires.last
    (λ bytes known there.
    let n = c.count-count.ensures bytes known there in
    let most = c.if-number-count.false in
    omega (arith, n, most))
    (c.in_ok-taken.ensures.feeds reads)

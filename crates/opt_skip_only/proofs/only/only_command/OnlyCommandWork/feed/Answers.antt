use Rattle.std.proofs.Common.{Ok, Err, sym, subst, arith}
use Rattle.cli_spec.specs.declared.exit.Exit.TheVariants.{Memory as out_of_memory}
use Rattle.base_io.specs.StreamState.{change}
use Rattle.cli_errors.specs.declared.exit_line.Error.TheVariants as aborts
use Rattle.opt_skip_only.specs.only_spec.OnlyCommand.{only_command}
use Rattle.run_loop.specs.work.Works.{Feeds}
use Rattle.opt_skip_only.specs.only.Picked.{HasPicked}
use Rattle.opt_skip_only.proofs.only.OnlyWorkLemmas.{fed_each, fed_before, fed_picked, feeds_faulted}
use Rattle.opt_skip_only.proofs.only.only_command.OnlyCommandWork.feed.Goals as goal

pub returns-in_default-clause-feeds : goal.returns-in_default-clause-feeds
returns-in_default-clause-feeds g c = λ reads.
    let w = c.args.self.now in
    let out = change (g.K.Sink.state c.args.out.now) (g.K.Sink.state c.feed.new.out) in
    subst (λ picked. Feeds (only_command g.P.PicksOne.picked_by g.W.Work.commands)
    (picked, g.W.Work.act w.work) (HasPicked picked (g.W.Work.has w.work))
    (HasPicked picked (g.W.Work.has c.feed.new.self)) c.args.chunk.now out c.feed.result)
    (sym c.in_default.is)
    (fed_each g.P.PicksOne.picked_by g.W.Work.commands (g.W.Work.act w.work)
    (g.W.Work.has w.work) (g.W.Work.has c.feed.new.self) c.args.chunk.now out c.feed.result
    (c.feed.ensures.feeds reads))

pub returns-then-number-count-clause-feeds : goal.returns-then-number-count-clause-feeds
returns-then-number-count-clause-feeds g c = λ reads.
    let w = c.args.self.now in
    let out = change (g.K.Sink.state c.args.out.now) (g.K.Sink.state c.feed_last.new.out) in
    fed_picked g.P.PicksOne.picked_by g.W.Work.commands (g.W.Work.act w.work) w.picked c.in-Some.number
    c.in-Some.is (g.W.Work.has w.work) (g.W.Work.has c.feed_last.new.work) c.args.chunk.now out
    c.feed_last.result (c.feed_last.ensures.feeds reads)

pub returns-in-Ok-clause-feeds : goal.returns-in-Ok-clause-feeds
returns-in-Ok-clause-feeds g c = λ reads.
    let w = c.args.self.now in
    let act = g.W.Work.act w.work in
    let out = g.K.Sink.state c.args.out.now in
    fed_picked g.P.PicksOne.picked_by g.W.Work.commands act w.picked c.in-Some.number c.in-Some.is
    (g.W.Work.has w.work) (g.W.Work.has c.feed-2.new.self) c.args.chunk.now (change out out)
    (Ok c.in-Ok.taken)
    (fed_before g.P.PicksOne.picked_by g.W.Work.commands act c.in-Some.number (g.W.Work.has w.work)
    c.never_finishes.ensures (g.W.Work.has c.feed-2.new.self) c.args.chunk.now out
    (λ bytes known there.
    let n = c.count.ensures bytes known there in
    let before = c.if-number-count.false in
    omega (arith, n, before))
    (Ok c.in-Ok.taken) (_, c.in-Ok.ensures.feeds reads))

pub returns-in-Err-Exit-clause-feeds : goal.returns-in-Err-Exit-clause-feeds
returns-in-Err-Exit-clause-feeds g c = λ reads.
    let w = c.args.self.now in
    let act = g.W.Work.act w.work in
    let out = g.K.Sink.state c.args.out.now in
    let fed = c.in-Err-Exit.ensures.feeds reads in
    fed_picked g.P.PicksOne.picked_by g.W.Work.commands act w.picked c.in-Some.number c.in-Some.is
    (g.W.Work.has w.work) (g.W.Work.has c.feed-2.new.self) c.args.chunk.now (change out out)
    (Err (aborts.Exit c.in-Err-Exit.exit))
    (fed_before g.P.PicksOne.picked_by g.W.Work.commands act c.in-Some.number (g.W.Work.has w.work)
    c.never_finishes.ensures (g.W.Work.has c.feed-2.new.self) c.args.chunk.now out
    (λ bytes known there.
    let n = c.count.ensures bytes known there in
    let before = c.if-number-count.false in
    omega (arith, n, before))
    (Err (aborts.Exit c.in-Err-Exit.exit)) (_, rw c.in-Err-Exit.field-0-is at fed))

pub returns-in-Err-WriteFault-clause-feeds : goal.returns-in-Err-WriteFault-clause-feeds
returns-in-Err-WriteFault-clause-feeds g c = λ reads.
    let w = c.args.self.now in
    let act = g.W.Work.act w.work in
    let out = g.K.Sink.state c.args.out.now in
    let fed = c.in-Err-WriteFault.ensures.feeds reads in
    fed_picked g.P.PicksOne.picked_by g.W.Work.commands act w.picked c.in-Some.number c.in-Some.is
    (g.W.Work.has w.work) (g.W.Work.has c.feed-2.new.self) c.args.chunk.now (change out out)
    (Err (aborts.Exit out_of_memory))
    (fed_before g.P.PicksOne.picked_by g.W.Work.commands act c.in-Some.number (g.W.Work.has w.work)
    c.never_finishes.ensures (g.W.Work.has c.feed-2.new.self) c.args.chunk.now out
    (λ bytes known there.
    let n = c.count.ensures bytes known there in
    let before = c.if-number-count.false in
    omega (arith, n, before))
    (Err (aborts.Exit out_of_memory))
    (feeds_faulted g.W.Work.commands act (g.W.Work.has w.work) _ (g.W.Work.has c.feed-2.new.self)
    c.args.chunk.now (rw c.in-Err-WriteFault.field-0-is at fed)))

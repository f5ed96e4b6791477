use Rattle.std.proofs.Common.{take, ◌++◌, length-append, arith}
use Rattle.std.proofs.lemmas.List.{length-take-le}
use Rattle.std.proofs.lemmas.Bool.{not-true, not-false}
use Rattle.base_io.specs.StreamState.{change}
use Rattle.run_loop.proofs.work.WorkChunkLemmas.{feeds_error}
use Rattle.cmd_scan.specs.spec.Searching.{searching}
use Rattle.cmd_scan.specs.command.SearchOutput.{HasSearched}
use Rattle.cmd_scan.proofs.command.ScanCommandFeedLemmas.{fed_prefix, stretch_limit, err_limit, fed_stretch}
use Rattle.cmd_scan.proofs.command.ScanCommandSearchLemmas.{memory_aborts, next_aborts}
use Rattle.cmd_scan.proofs.command.searching.SearchingWork.feed.Goals as goal

pub returns-in_err-taken-clause-feeds : goal.returns-in_err-taken-clause-feeds
returns-in_err-taken-clause-feeds g c = λ reads.
    let w = c.args.self.now in
    let n = c.take_some.new.self in
    feeds_error (searching g.S.Searches.limit_by) w.limit
    (HasSearched g.S.Searches.limit_by w.limit w.held.items w.reader w.at)
    (HasSearched g.S.Searches.limit_by n.limit n.held.items n.reader n.at) c.args.chunk.now _ _
    c.from_residual.result c.from_residual.ensures.1
    (λ bytes output h.
    memory_aborts g.S.Searches.limit_by w.limit w.held.items w.reader w.at bytes output h
    c.args.chunk.now (g.K.Sink.state c.args.out.now))

pub take_some-requires-clause-has : goal.take_some-requires-clause-has
take_some-requires-clause-has g c =
    let q = c.requires.has in (q.0, q.1, q.2)

pub returns-then-not-taken-clause-feeds : goal.returns-then-not-taken-clause-feeds
returns-then-not-taken-clause-feeds g c = λ reads.
    let w = c.args.self.now in
    let n = c.take_some.new.self in
    let q = c.requires.has in
    fed_prefix g.S.Searches.limit_by w.limit w.held.items w.reader w.at c.args.chunk.now
    c.in_ok-taken.taken n.limit n.held.items n.reader n.at (g.K.Sink.state c.args.out.now)
    c.take_some.ensures.limit (not-true c.in_ok-taken.taken.decided c.if-not-taken.true)
    c.in_ok-taken.ensures.takes (q.0, q.1, q.2)

pub write_decided-requires-clause-stretch : goal.write_decided-requires-clause-stretch
write_decided-requires-clause-stretch g c =
    let w = c.args.self.now in
    let n = c.take_some.new.self in
    let q = c.requires.has in
    let t = c.in_ok-taken.taken in
    let taken = c.in_ok-taken.ensures.takes q.0 q.1 q.2 in
    let all = q.0 ++ take t.bytes c.args.chunk.now in (
      all,
      q.1,
      stretch_limit g.S.Searches.limit_by w.limit w.held.items w.reader w.at c.args.chunk.now t
          n.limit n.held.items n.at all q.1 c.take_some.ensures.limit
          (taken.3 (not-false t.decided c.if-not-taken.false)),
      omega (
        arith,
        q.3,
        taken.1,
        length-append q.0 (take t.bytes c.args.chunk.now),
        length-take-le t.bytes c.args.chunk.now taken.1,
      ),
    )

pub returns-in_err-write_decided-clause-feeds : goal.returns-in_err-write_decided-clause-feeds
returns-in_err-write_decided-clause-feeds g c = λ reads.
    let w = c.args.self.now in
    let n = c.take_some.new.self in
    let m = c.write_decided.new.self in
    let t = c.in_ok-taken.taken in
    let buffered = c.args.chunk.now in
    let error = c.in_err-write_decided.field-0.0 in
    let out = change (g.K.Sink.state c.args.out.now) (g.K.Sink.state c.write_decided.new.out) in
    feeds_error (searching g.S.Searches.limit_by) w.limit
    (HasSearched g.S.Searches.limit_by w.limit w.held.items w.reader w.at)
    (HasSearched g.S.Searches.limit_by m.limit m.held.items m.reader m.at) buffered out error
    c.from_residual-in_err-write_decided.result c.from_residual-in_err-write_decided.ensures.1
    (λ bytes output h.
    let all = bytes ++ take t.bytes buffered in
    let stretch = (c.in_ok-taken.ensures.takes bytes output h).3 (not-false t.decided c.if-not-taken.false) in
    next_aborts g.S.Searches.limit_by w.limit w.held.items w.reader w.at bytes output h buffered t.bytes
    out m.held.items m.reader m.at error
    (err_limit g.S.Searches.limit_by w.limit w.held.items w.reader w.at buffered t n.limit m.held.items
    m.reader m.at all output out error c.take_some.ensures.limit
    (c.in_err-write_decided.ensures.writes all output
    (stretch_limit g.S.Searches.limit_by w.limit w.held.items w.reader w.at buffered t n.limit
    n.held.items n.at all output c.take_some.ensures.limit stretch))))

pub returns-clause-feeds : goal.returns-clause-feeds
returns-clause-feeds g c = λ reads.
    let w = c.args.self.now in
    let n = c.take_some.new.self in
    let m = c.write_decided.new.self in
    let q = c.requires.has in
    fed_stretch g.S.Searches.limit_by w.limit w.held.items w.reader w.at c.args.chunk.now
    c.in_ok-taken.taken n.limit n.held.items n.reader n.at m.limit m.held.items m.reader m.at
    (change (g.K.Sink.state c.args.out.now) (g.K.Sink.state c.write_decided.new.out))
    c.take_some.ensures.limit c.write_decided.ensures.limit
    (not-false c.in_ok-taken.taken.decided c.if-not-taken.false) c.in_ok-taken.ensures.takes
    (q.0, q.1, q.2) c.in_ok-write_decided.ensures.writes

use Rattle.std.proofs.Common.{length, inl, inr, sym, ap}
use Rattle.check_stream.proofs.mismatch_search.MismatchSearchFindLemmas.{finds_start, finds_marked}
use Rattle.check_stream.proofs.mismatch_search.mismatch.Seeking.begin.Goals as goal
use Rattle.check_stream.proofs.mismatch_search.mismatch.Seeking.begin.Goals.{then-head, else-head}

pub returns : goal.returns
returns c = λ table.
    let head = c.in-Some.head in
    let start = c.if-head.start in
    let first = finds_start table c.args.limit c.args.bytes.now head start c.restart.new.self c.in-Some.ensures
    (elim c.if-head.branch [ then-head w ↦ inl (w.if-head.true, w.start-is) | else-head w ↦ inr (w.if-head.false, w.start-is) ])
    c.restart.ensures in
    finds_marked table c.args.limit c.args.bytes.now head start start 0 c.restart.new.self c.mark.new.self first (sym (ap length c.restart.ensures.types)) c.in_ok-mark.ensures

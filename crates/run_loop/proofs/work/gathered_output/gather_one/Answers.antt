use Rattle.run_loop.proofs.work.WorkGatherLemmas.{one_stopped}
use Rattle.run_loop.proofs.work.gathered_output.gather_one.Goals as goal

pub returns-in-Err-Exit-clause-gathers : goal.returns-in-Err-Exit-clause-gathers
returns-in-Err-Exit-clause-gathers g c =
    let feeds = c.in-Err-Exit.ensures.feeds c.requires.reads in
    one_stopped g.W.Work.commands (g.W.Work.act c.args.work.now) (g.W.Work.has c.args.work.now) (g.W.Work.has c.feed.new.self) c.args.buffered.now c.args.text.now.bytes.items c.feed.new.out.bytes.items
    c.in-Err-Exit.exit (rw c.in-Err-Exit.field-0-is at feeds)

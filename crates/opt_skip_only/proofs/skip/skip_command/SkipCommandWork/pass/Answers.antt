use Rattle.std.proofs.Common.{refl}
use Rattle.opt_skip_only.specs.skip.SkipCommand.{passed_of}
use Rattle.opt_skip_only.proofs.skip.SkipCommandLemmas.{some_left, passes}
use Rattle.opt_skip_only.proofs.skip.skip_command.SkipCommandWork.pass.Goals as goal

pub first_bytes-bytes-requires-clause-left : goal.first_bytes-bytes-requires-clause-left
first_bytes-bytes-requires-clause-left g c = some_left c.args.self.now.left c.if-self-eq0.false

pub returns-clause-passes : goal.returns-clause-passes
returns-clause-passes g c = λ reads.
    let w = c.args.self.now in
    passes g.P.PassesOver.passed_by g.W.Work.commands (passed_of w.over) (g.W.Work.act w.work)
    (g.W.Work.has w.work) c.laws.ensures.holds c.laws.ensures.stay w.left c.args.buffered.now
    c.first_bytes-bytes.result _ refl refl c.first_bytes-bytes.ensures.some c.first_bytes-bytes.ensures.fits
    c.first_bytes-bytes.ensures.within

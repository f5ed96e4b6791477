use Rattle.std.proofs.Common.{[], refl, arith}
use Rattle.run_loop.proofs.work.WorkRunLemmas.{run_alone, run_without_memory}
use Rattle.run_loop.proofs.work.input_loop.run_work.Goals as goal

pub end-requires : goal.end-requires
end-requires g c = ([], [], c.requires, omega arith)

pub returns-else-reads-clause-runs : goal.returns-else-reads-clause-runs
returns-else-reads-clause-runs g c =
    run_alone g.W.Work.commands (g.W.Work.act c.args.work.now) _ (g.S.Source.state c.args.input.now) (g.K.Sink.state c.args.out.now) (g.K.Sink.state c.end.new.out) c.end.result
    (λ reads. let no = c.if-reads.ensures.1 reads in grind (arith, no)) c.requires c.end.ensures

pub returns-in_default-clause-runs : goal.returns-in_default-clause-runs
returns-in_default-clause-runs g c =
    run_without_memory g.W.Work.commands (g.W.Work.act c.args.work.now) (c.if-reads.ensures.0 refl) (g.S.Source.state c.args.input.now) (g.K.Sink.state c.args.out.now) (c.laws.ensures.holds [] [] c.requires)

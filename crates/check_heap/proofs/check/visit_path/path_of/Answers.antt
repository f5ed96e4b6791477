use Rattle.std.proofs.lemmas.Result.{IfOk-weaker}
use Rattle.check_heap.specs.check.Visits.{listed}
use Rattle.check_heap.proofs.check.CheckKnownLemmas.{rest_back, rest_at_root}
use Rattle.check_heap.proofs.check.visit_path.path_of.Goals as goal

pub loop-at-preserved : goal.loop-at-preserved
loop-at-preserved c =
    rest_back (listed c.args.visits.now) c.args.k c.loop-at.at c.loop-at.steps.items c.write_step.new.steps.items _ c.requires.ordered c.loop-at.invariant c.loop-at-test.true
    c.get-visit.ensures c.in_ok-write_step.ensures

pub returns : goal.returns
returns c = IfOk-weaker c.reversed.result _ _ (λ path is. rest_at_root (listed c.args.visits.now) c.args.k c.loop-at.at _ path c.loop-at.invariant c.loop-at-test.false is) c.reversed.ensures

use Rattle.std.proofs.Common.{length, refl, sym, subst, arith, ◌+◌}
use Rattle.std.proofs.lemmas.Option.{slice_get_read}
use Rattle.types_resolve.proofs.scope.ScopeStepLemmas.{AreFirstSteps, more_steps, all_steps}
use Rattle.types_resolve.proofs.scope.abbreviation_steps.step_graph.Goals as goal

pub loop-i-preserved : goal.loop-i-preserved
loop-i-preserved c =
    let decls = c.args.decls.now in
    let sites = c.args.sites.now in
    let i = c.loop-i.i in
    let d = c.at.result.now in
    let site = c.index-sites-i.result in
    let steps = c.in_ok-steps.steps in
    let more = more_steps decls sites c.loop-i.graph i c.loop-i.invariant d site steps
    c.at.ensures
    (slice_get_read sites (length sites) i site refl (omega arith) c.index-sites-i.is)
    c.in_ok-steps.ensures in
    subst (λ g. AreFirstSteps decls sites g (i + 1)) (sym c.in_ok-push.ensures.ok) more

pub returns : goal.returns
returns c = all_steps c.args.decls.now c.args.sites.now c.loop-i.graph c.loop-i.i c.loop-i.invariant (omega arith) (omega arith)

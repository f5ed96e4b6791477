use Rattle.std.proofs.Common.{subst, sym}
use Rattle.std.proofs.lemmas.Result.{IfOk-weaker}
use Rattle.types_spec.specs.types.Scope.{BreaksInFile, cyclic}
use Rattle.types_resolve.specs.scope.Cyclic.{IsCyclicName}
use Rattle.types_resolve.specs.scope.Least.{IsLeast}
use Rattle.types_resolve.specs.scope.AbbreviationSteps.{IsStepGraph}
use Rattle.types_resolve.proofs.scope.CyclicLemmas.{least_of_file}
use Rattle.types_resolve.proofs.scope.cyclic.least_cyclic.Goals as goal

pub returns : goal.returns
returns g c =
    let decls = c.args.decls.now in
    let names = c.args.names.now in
    let sites = c.args.sites.now in
    let graph = c.as_slice.result.now in
    IfOk-weaker c.least_cyclic_name.result (IsLeast (IsCyclicName graph names)) (IsLeast (BreaksInFile g.all cyclic))
    (λ best least. least_of_file decls names sites g.all graph c.requires.0 c.requires.1
    (subst (IsStepGraph decls sites) (sym c.as_slice.ensures) c.in_ok-graph.ensures) best least)
    c.least_cyclic_name.ensures

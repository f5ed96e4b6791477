use Rattle.std.proofs.lemmas.Result.{IfOk-weaker}
use Rattle.types_spec.specs.types.Scope.{BreaksInType}
use Rattle.types_resolve.specs.scope.Breaks.{TypeBreaks, rule_of}
use Rattle.types_resolve.specs.scope.Least.{IsLeast}
use Rattle.types_resolve.proofs.scope.ScopeLeastLemmas.{least_same}
use Rattle.types_resolve.proofs.scope.ScopeFileLemmas.{type_breaks}
use Rattle.types_resolve.proofs.scope.sites.least_break_in_type.Goals as goal

pub returns : goal.returns
returns g c =
    let same = type_breaks c.args.decls.now c.args.site.now g.occurrences c.requires c.args.rule in
    let here = TypeBreaks c.args.rule c.args.decls.now c.args.site.now in
    let there = BreaksInType c.args.decls.now g.occurrences (rule_of c.args.rule) in
    IfOk-weaker c.least_in_type.result (IsLeast here) (IsLeast there)
    (λ best least. least_same here there best least (λ k. (same k).0) (λ k. (same k).1)) c.least_in_type.ensures

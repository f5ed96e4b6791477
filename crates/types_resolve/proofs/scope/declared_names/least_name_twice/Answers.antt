use Rattle.std.proofs.Common.{subst, sym}
use Rattle.types_spec.specs.types.Scope.{IsSecond}
use Rattle.types_resolve.specs.scope.Breaks.{IsPredeclaredAt, NamesTwice}
use Rattle.types_resolve.specs.scope.Least.{IsLeast}
use Rattle.types_resolve.proofs.scope.ScopeLeastLemmas.{least_of_either}
use Rattle.types_resolve.proofs.scope.declared_names.least_name_twice.Goals as goal

pub returns : goal.returns
returns c = subst (IsLeast (NamesTwice c.args.names.now)) (sym c.earliest.ensures)
    (least_of_either (IsSecond c.args.names.now) (IsPredeclaredAt c.args.names.now) c.in_ok-second.second
    c.least_predeclared.result c.in_ok-second.ensures c.least_predeclared.ensures)

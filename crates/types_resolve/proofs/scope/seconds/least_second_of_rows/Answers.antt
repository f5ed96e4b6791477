use Rattle.std.proofs.Common.{subst, arith, List}
use Rattle.types_resolve.specs.scope.Least.{IsLeast}
use Rattle.types_spec.specs.types.Occurrence.{Placed}
use Rattle.types_spec.specs.types.Scope.{IsSecond}
use Rattle.types_resolve.proofs.scope.ScopeLeastLemmas.{more_items, all_items}
use Rattle.types_resolve.proofs.scope.seconds.least_second_of_rows.Goals as goal

pub loop-i-preserved : goal.loop-i-preserved
loop-i-preserved c = more_items c.args.rows.now (λ (row : List Placed). IsSecond row) c.loop-i.i
    c.index-rows-i.result c.loop-i.best c.in_ok-least_second.field-0 c.earliest-best.result (omega arith) c.index-rows-i.is
    c.loop-i.invariant (subst (λ (row : List Placed). IsLeast (IsSecond row) c.in_ok-least_second.field-0) c.as_slice.ensures c.in_ok-least_second.ensures) c.earliest-best.ensures

pub returns : goal.returns
returns c = all_items c.args.rows.now (λ (row : List Placed). IsSecond row) c.loop-i.i c.loop-i.best (omega arith) (omega arith)
    c.loop-i.invariant

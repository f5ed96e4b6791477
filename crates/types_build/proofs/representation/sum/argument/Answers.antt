use Rattle.std.proofs.Common.{IfOk, map, sym, subst}
use Rattle.types_spec.specs.types.Ty.{Ty, named}
use Rattle.types_spec.specs.types.TypeNodes.{type_at}
use Rattle.types_spec.specs.types.Predeclared.{applied}
use Rattle.types_table.specs.store.Held.{Holds}
use Rattle.types_build.proofs.representation.RepresentationSumLemmas.{argument_held, argument_past}
use Rattle.types_build.proofs.representation.sum.argument.Goals as goal

pub returns-then-i-parts-clause-ok : goal.returns-then-i-parts-clause-ok
returns-then-i-parts-clause-ok c =
    argument_held c.args.types.now c.args.parts.now c.args.i
    (applied (named c.args.name.now) (map (type_at c.args.types.now) c.args.parts.now)) c.requires c.if-i-parts.true

pub returns-else-i-parts-clause-ok : goal.returns-else-i-parts-clause-ok
returns-else-i-parts-clause-ok c =
    let types = c.args.types.now in
    let own = applied (named c.args.name.now) (map (type_at types) c.args.parts.now) in
    subst (λ (t : Ty). IfOk c.itself.result (Holds types c.itself.new.types t))
    (sym (argument_past types c.args.parts.now c.args.i own c.if-i-parts.false)) c.itself.ensures.ok

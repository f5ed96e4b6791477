use Rattle.std.proofs.Common.{sym, ap, ◌∙◌, subst, map, IfOk}
use Rattle.types_spec.specs.types.Ty.{variable}
use Rattle.types_spec.specs.types.TypeNodes.{type_at}
use Rattle.types_table.specs.store.Held.{Holds}
use Rattle.types_table.specs.store.Instance.{argument_at, instance_of_node}
use Rattle.types_table.proofs.store.StoreInstanceLemmas.{holds_there, among_below}
use Rattle.types_table.proofs.store.instance.add_node.Goals as goal

pub returns-in-Some-clause-ok : goal.returns-in-Some-clause-ok
returns-in-Some-clause-ok c =
    let types = c.args.types.now in
    let value = argument_at types c.args.parameters.now c.args.arguments.now in
    let stands = ap (instance_of_node value (map (type_at types) c.args.numbers.now)) c.in-Variable.is
    ∙ ap value (sym c.as_slice.ensures) ∙ c.in-Some.ensures.stands types in
    holds_there types c.in-Some.number _ (among_below types _ _ c.requires.among c.in-Some.ensures.among) (sym stands)

pub returns-in-None-clause-ok : goal.returns-in-None-clause-ok
returns-in-None-clause-ok c =
    let types = c.args.types.now in
    let value = argument_at types c.args.parameters.now c.args.arguments.now in
    let stands = ap (instance_of_node value (map (type_at types) c.args.numbers.now)) c.in-Variable.is
    ∙ ap value (sym c.as_slice.ensures) ∙ c.in-None.ensures.stands types
    ∙ ap variable (c.as_slice.ensures ∙ sym c.as_slice-in-None.ensures) in
    subst (λ t. IfOk c.add_variable.result (Holds types c.add_variable.new.self t)) (sym stands) c.add_variable.ensures.ok

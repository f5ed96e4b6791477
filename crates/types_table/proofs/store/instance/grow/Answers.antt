use Rattle.std.proofs.Common.{sym, ap, ◌∙◌, length, slice_get, ◌-◌}
use Rattle.types_table.specs.store.Instance.{argument_at}
use Rattle.types_table.proofs.store.StoreInstanceLemmas.{last_instance, no_instance, held_is}
use Rattle.types_table.proofs.store.instance.grow.Goals as goal

pub returns-in-Some-clause-ok : goal.returns-in-Some-clause-ok
returns-in-Some-clause-ok c =
    let value = argument_at c.args.types.now c.args.parameters.now c.args.arguments.now in
    last_instance _ _ value _ _ c.in_ok-numbers.ensures.ok c.in-Some.number.now
    (sym (c.in-Some.ensures.value ∙ ap (λ ns. slice_get ns (length ns - 1)) c.deref.ensures.value))

pub returns-clause-ok : goal.returns-clause-ok
returns-clause-ok c =
    let value = argument_at c.args.types.now c.args.parameters.now c.args.arguments.now in
    let same = no_instance _ _ value _ _ c.in_ok-numbers.ensures.ok
    (sym (c.in-None.ensures.value ∙ ap (λ ns. slice_get ns (length ns - 1)) c.deref.ensures.value)) in
    held_is c.add_tuple.result _ _ _ _ (sym same) c.add_tuple.ensures.ok

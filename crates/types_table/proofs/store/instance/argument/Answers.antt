use Rattle.std.proofs.Common.{sym, ap, ◌∙◌, ◌≡◌, ◌<◌, ◌≤◌, ◌+◌, suc, length, min, arith, drop, refl}
use Rattle.std.specs.Str.{bytes_eq}
use Rattle.std.proofs.lemmas.Option.{slice_get_read}
use Rattle.types_table.specs.store.Instance.{argument_at}
use Rattle.types_table.proofs.store.StoreInstanceLemmas.{argument_skipped, argument_none}
use Rattle.types_table.proofs.store.instance.argument.Goals as goal

pub loop-i-preserved : goal.loop-i-preserved
loop-i-preserved c types =
    let inside : c.loop-i.i < length c.args.parameters.now = omega arith in
    let within : c.loop-i.i < length c.args.arguments.now = omega arith in
    let next : suc c.loop-i.i ≡ c.loop-i.i + 1 = omega arith in
    c.loop-i.invariant types
    ∙ argument_skipped types c.args.name.now c.loop-i.i c.args.parameters.now c.args.arguments.now c.index-parameters-i.result
    (slice_get_read _ _ _ _ refl inside c.index-parameters-i.is) within
    (ap (λ x. bytes_eq x c.args.name.now) (sym c.as_slice.ensures) ∙ sym c.if-eq.ensures)
    ∙ ap (λ n. argument_at types (drop n c.args.parameters.now) (drop n c.args.arguments.now) c.args.name.now) next

pub returns-clause-stands : goal.returns-clause-stands
returns-clause-stands c types =
    let past : min (length c.args.parameters.now) (length c.args.arguments.now) ≤ c.loop-i.i = omega arith in
    c.loop-i.invariant types
    ∙ argument_none types c.args.name.now c.loop-i.i c.args.parameters.now c.args.arguments.now past

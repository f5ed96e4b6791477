use Rattle.std.proofs.Common.{◌<◌, ◌≡◌, ◌∙◌, ◌++◌, List, Some, length, sym, ap, subst}
use Rattle.std.specs.Prelude.{slice_get}
use Rattle.types_spec.specs.types.Ty.{Ty, named}
use Rattle.std.proofs.lemmas.List.Elements.{All-contains}
use Rattle.check_fault.proofs.NamedTexts.{name_is_text}
use Rattle.std.proofs.lemmas.Result.{on_ok_weaker}
use Rattle.base_data.proofs.model.Options.{slice_get-Contains}
use Rattle.check_fault.proofs.fault_printer.write_type.Goals as goal

pub node-requires : goal.node-requires
node-requires c =
    subst (λ (ts : List Ty). c.stored.result < length ts) (sym c.store.ensures)
    (All-contains (λ i. i < length c.args.table.now.store) c.args.table.now.stored c.stored.result c.holds.ensures.within
    (slice_get-Contains c.args.table.now.stored c.args.number c.stored.result c.stored.ensures))

pub returns-in-Named : goal.returns-in-Named
returns-in-Named c =
    let old = c.args.text.now.items in
    on_ok_weaker c.write.result
    (λ write. write ∙ ap (λ name. old ++ name)
    (sym (name_is_text c.args.table.now c.args.number c.stored.result c.in-Named.name.now c.stored.ensures
    (subst (λ (ts : List Ty). slice_get ts c.stored.result ≡ Some (named c.in-Named.name.now)) c.store.ensures
    c.in-Named.ensures.is))))
    c.write.ensures

use Rattle.std.proofs.Common.{◌≡◌, ◌∙◌, ◌++◌, None, ap, sym, length}
use Rattle.std.specs.Prelude.{slice_get}
use Rattle.std.proofs.lemmas.Bool.{ltb-false}
use Rattle.std.proofs.lemmas.List.{append-nil}
use Rattle.std.proofs.lemmas.Option.{slice_get_past}
use Rattle.types_resolve.specs.occurrences.BracketItems.{tag_if}
use Rattle.types_resolve.proofs.occurrences.row.write_written.Goals as goal

pub returns-in-None : goal.returns-in-None
returns-in-None c =
    let none : slice_get c.args.nodes.now c.args.item.now.node ≡ None =
    slice_get_past c.args.nodes.now c.args.item.now.node (ltb-false c.args.item.now.node (length c.args.nodes.now)
    (sym c.in-None.ensures.lookup.0)) in
    sym (append-nil c.args.row.now) ∙ ap (λ t. c.args.row.now ++ t) (sym (ap (tag_if c.args.item.now.position) none))

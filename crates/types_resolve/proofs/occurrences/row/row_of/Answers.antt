use Rattle.std.proofs.Common.{◌∙◌, ◌++◌, ap, sym}
use Rattle.std.specs.List.{filter_map}
use Rattle.std.proofs.lemmas.List.{append-nil, drop_all}
use Rattle.types_spec.specs.types.TypeNodes.{types_of}
use Rattle.types_spec.specs.types.Scope.{written_tag}
use Rattle.types_resolve.specs.scope.TypeBrackets.{items_known}
use Rattle.types_resolve.proofs.occurrences.OccurrenceItemLemmas.{tags_turn}
use Rattle.types_resolve.proofs.occurrences.row.row_of.Goals as goal

pub loop-item-preserved : goal.loop-item-preserved
loop-item-preserved c =
    tags_turn c.args.nodes.now c.args.items.now c.loop-item.item-index (record { position = 0; node = 0 }) c.loop-item.row
    c.write_written.new.row (filter_map written_tag (items_known (types_of c.args.nodes.now) c.args.items.now)) c.requires
    c.loop-item-test.true c.in_ok-write_written.ensures c.loop-item.invariant

pub returns : goal.returns
returns c =
    sym (append-nil c.loop-item.row)
    ∙ ap (λ l. c.loop-item.row ++ filter_map written_tag (items_known (types_of c.args.nodes.now) l))
    (sym (drop_all c.loop-item.item-index c.args.items.now c.loop-item-test.false))
    ∙ c.loop-item.invariant

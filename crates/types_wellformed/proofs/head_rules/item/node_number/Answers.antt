use Rattle.std.proofs.Common.{◌<◌, ◌∙◌, length, arith, ap, sym}
use Rattle.std.specs.Prelude.{slice_index}
use Rattle.types_spec.specs.types.TypeNodes.{type_at}
use Rattle.types_spec.specs.types.Ty.{bracket, tag, tag_of}
use Rattle.types_table.proofs.store.StoreHeldLemmas.{Grows-none}
use Rattle.types_wellformed.proofs.head_rules.HeadRuleNumberedLemmas.{number_below, entry_below, argument_below, included_below}
use Rattle.types_wellformed.proofs.head_rules.HeadRuleNumberedLemmas.{tag_item, tag_of_item, including_item, other_item, held_item}
use Rattle.types_wellformed.proofs.head_rules.item.node_number.Goals as goal

pub bounds-numbers-a : goal.bounds-numbers-a
bounds-numbers-a c =
    number_below c.args.types.now c.args.nodes.now.all.now c.args.nodes.now.ordered c.args.numbers.now c.requires.numbers c.in-TagOf.a
    (argument_below c.args.types.now c.args.nodes.now.all.now c.args.nodes.now.ordered c.args.numbers.now c.requires.numbers c.args.n c.index-nodes-n.result c.requires.below c.index-nodes-n.is _ c.in-TagOf.a _ (c.index-nodes-n.is ∙ c.in-TagOf.is))

pub offset_bounds-numbers-a : goal.offset_bounds-numbers-a
offset_bounds-numbers-a c =
    let below : c.in-TagOf.a < length c.args.numbers.now = number_below c.args.types.now c.args.nodes.now.all.now c.args.nodes.now.ordered c.args.numbers.now c.requires.numbers c.in-TagOf.a
    (argument_below c.args.types.now c.args.nodes.now.all.now c.args.nodes.now.ordered c.args.numbers.now c.requires.numbers c.args.n c.index-nodes-n.result c.requires.below c.index-nodes-n.is _ c.in-TagOf.a _ (c.index-nodes-n.is ∙ c.in-TagOf.is)) in
    omega arith

pub tag_of_number-requires : goal.tag_of_number-requires
tag_of_number-requires c =
    entry_below c.args.types.now c.args.nodes.now.all.now c.args.nodes.now.ordered c.args.numbers.now c.requires.numbers c.in-TagOf.a
    (argument_below c.args.types.now c.args.nodes.now.all.now c.args.nodes.now.ordered c.args.numbers.now c.requires.numbers c.args.n c.index-nodes-n.result c.requires.below c.index-nodes-n.is _ c.in-TagOf.a _ (c.index-nodes-n.is ∙ c.in-TagOf.is))

pub bounds-numbers-u : goal.bounds-numbers-u
bounds-numbers-u c =
    number_below c.args.types.now c.args.nodes.now.all.now c.args.nodes.now.ordered c.args.numbers.now c.requires.numbers c.in-Including.u
    (included_below c.args.types.now c.args.nodes.now.all.now c.args.nodes.now.ordered c.args.numbers.now c.requires.numbers c.args.n c.index-nodes-n.result c.requires.below c.index-nodes-n.is _ c.in-Including.u (c.index-nodes-n.is ∙ c.in-Including.is))

pub offset_bounds-numbers-u : goal.offset_bounds-numbers-u
offset_bounds-numbers-u c =
    let below : c.in-Including.u < length c.args.numbers.now = number_below c.args.types.now c.args.nodes.now.all.now c.args.nodes.now.ordered c.args.numbers.now c.requires.numbers c.in-Including.u
    (included_below c.args.types.now c.args.nodes.now.all.now c.args.nodes.now.ordered c.args.numbers.now c.requires.numbers c.args.n c.index-nodes-n.result c.requires.below c.index-nodes-n.is _ c.in-Including.u (c.index-nodes-n.is ∙ c.in-Including.is)) in
    omega arith

pub including_number-requires : goal.including_number-requires
including_number-requires c =
    entry_below c.args.types.now c.args.nodes.now.all.now c.args.nodes.now.ordered c.args.numbers.now c.requires.numbers c.in-Including.u
    (included_below c.args.types.now c.args.nodes.now.all.now c.args.nodes.now.ordered c.args.numbers.now c.requires.numbers c.args.n c.index-nodes-n.result c.requires.below c.index-nodes-n.is _ c.in-Including.u (c.index-nodes-n.is ∙ c.in-Including.is))

pub bounds-numbers-n : goal.bounds-numbers-n
bounds-numbers-n c =
    number_below c.args.types.now c.args.nodes.now.all.now c.args.nodes.now.ordered c.args.numbers.now c.requires.numbers c.args.n c.requires.below

pub returns-in-Tag-clause-ok : goal.returns-in-Tag-clause-ok
returns-in-Tag-clause-ok c =
    held_item c.tag_number.result c.tag_number.new.types _ _
    (ap (λ x. tag bracket x) c.as_slice.ensures ∙ tag_item c.args.types.now c.args.nodes.now.all.now c.args.nodes.now.ordered c.args.numbers.now c.requires.numbers c.args.n c.index-nodes-n.result c.requires.below c.index-nodes-n.is _ c.in-Tag.x (c.index-nodes-n.is ∙ c.in-Tag.is)) c.tag_number.ensures.ok

pub returns-in-TagOf-clause-ok : goal.returns-in-TagOf-clause-ok
returns-in-TagOf-clause-ok c =
    held_item c.tag_of_number.result c.tag_of_number.new.types _ _
    (ap (λ x. tag_of bracket x (type_at c.args.types.now (slice_index c.args.numbers.now c.in-TagOf.a))) c.as_slice-in-TagOf.ensures
    ∙ tag_of_item c.args.types.now c.args.nodes.now.all.now c.args.nodes.now.ordered c.args.numbers.now c.requires.numbers c.args.n c.index-nodes-n.result c.requires.below c.index-nodes-n.is _ c.in-TagOf.a c.in-TagOf.x (c.index-nodes-n.is ∙ c.in-TagOf.is)) c.tag_of_number.ensures.ok

pub returns-in-Including-clause-ok : goal.returns-in-Including-clause-ok
returns-in-Including-clause-ok c =
    held_item c.including_number.result c.including_number.new.types _ _
    (including_item c.args.types.now c.args.nodes.now.all.now c.args.nodes.now.ordered c.args.numbers.now c.requires.numbers c.args.n c.index-nodes-n.result c.requires.below c.index-nodes-n.is _ c.in-Including.u (c.index-nodes-n.is ∙ c.in-Including.is)) c.including_number.ensures.ok

pub returns-in_default : goal.returns-in_default
returns-in_default c = record {
  grown = Grows-none c.args.types.now;
  ok = other_item c.args.types.now c.args.nodes.now.all.now c.args.nodes.now.ordered c.args.numbers.now c.requires.numbers c.args.n c.index-nodes-n.result c.requires.below c.index-nodes-n.is
      (λ w x e. c.in_default.not-Tag w x (sym c.index-nodes-n.is ∙ e))
      (λ w x a e. c.in_default.not-TagOf w x a (sym c.index-nodes-n.is ∙ e))
      (λ w u e. c.in_default.not-Including w u (sym c.index-nodes-n.is ∙ e));
}

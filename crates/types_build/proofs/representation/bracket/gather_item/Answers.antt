use Rattle.std.proofs.Common.{ap, ◌∙◌, ◌<◌, ◌∷◌, arith, List, Some, None, reverse, sym, subst}
use Rattle.std.proofs.lemmas.Result.{on_ok_weaker}
use Rattle.types_spec.specs.declared.types.ty.TypeTreeNode.TheVariants as nodes
use Rattle.types_spec.specs.types.TypeNodes.{type_at}
use Rattle.types_spec.specs.types.Head.{head}
use Rattle.types_build.specs.declared.representation.bracket.BracketStep.{BracketStep}
use Rattle.types_build.specs.declared.representation.bracket.BracketStep.TheVariants as steps
use Rattle.types_build.specs.representation.Tags.{tags_of_item, tags_of_entries}
use Rattle.types_build.specs.representation.RepresentationSteps.{AreGathered, steps_work}
use Rattle.types_build.proofs.representation.SpineLemmas.{type_at-node}
use Rattle.types_build.proofs.representation.RepresentationGatherLemmas.{gather_tag, gather_none, gather_including, item_less, including_less, pushed_first, tags_of_item-none}
use Rattle.types_build.proofs.representation.bracket.gather_item.Goals as goal

pub returns-in-Tag-clause-gathered : goal.returns-in-Tag-clause-gathered
returns-in-Tag-clause-gathered c =
    let is = type_at-node c.args.types.now c.args.item (nodes.Tag c.in-Tag.field-0 c.in-Tag.name.now) c.in-Tag.ensures.is in
    on_ok_weaker c.add_tag.result
    (λ e decls settled all was.
    rw e (gather_tag decls c.args.types.now _ settled _ all c.args.item was c.in-Tag.name.now None tt
    (ap (tags_of_item (head decls)) is)))
    c.add_tag.ensures

pub returns-in-TagOf-clause-gathered : goal.returns-in-TagOf-clause-gathered
returns-in-TagOf-clause-gathered c =
    let argument = c.in-TagOf.argument in
    let is = type_at-node c.args.types.now c.args.item (nodes.TagOf c.in-TagOf.field-0 c.in-TagOf.name.now argument) c.in-TagOf.ensures.is in
    on_ok_weaker c.add_tag-in-TagOf.result
    (λ e decls settled all was.
    rw e (gather_tag decls c.args.types.now _ settled _ all c.args.item was c.in-TagOf.name.now (Some argument)
    (omega (arith, c.in-TagOf.ensures.below))
    (ap (tags_of_item (head decls)) is)))
    c.add_tag-in-TagOf.ensures

pub returns-in_ok-push-in-Including-clause-gathered : goal.returns-in_ok-push-in-Including-clause-gathered
returns-in_ok-push-in-Including-clause-gathered c = λ decls settled all was.
    let types = c.args.types.now in
    let included = c.in-Including.included in
    let is = type_at-node types c.args.item (nodes.Including c.in-Including.field-0 included) c.in-Including.ensures.is in
    let first = pushed_first c.args.waiting.now.items c.push.new.self.items (steps.Included included) c.in_ok-push-in-Including.ensures.items in
    subst (λ (ss : List BracketStep). AreGathered decls types (tags_of_entries c.args.tags.now.entries) settled ss all) (sym first)
    (gather_including decls types _ settled _ all c.args.item was (type_at types c.in-Including.field-0) included
    (omega (arith, c.in-Including.ensures.below, c.requires)) is)

pub returns-in_ok-push-in-Including-clause-less : goal.returns-in_ok-push-in-Including-clause-less
returns-in_ok-push-in-Including-clause-less c = λ decls.
    let types = c.args.types.now in
    let included = c.in-Including.included in
    let is = type_at-node types c.args.item (nodes.Including c.in-Including.field-0 included) c.in-Including.ensures.is in
    let first = pushed_first c.args.waiting.now.items c.push.new.self.items (steps.Included included) c.in_ok-push-in-Including.ensures.items in
    let rest = reverse c.args.waiting.now.items in
    subst (λ (ss : List BracketStep). steps_work decls types ss < steps_work decls types (steps.Item c.args.item ∷ rest)) (sym first)
    (including_less decls types c.args.item rest (type_at types c.in-Including.field-0) included is)

pub returns-in_default : goal.returns-in_default
returns-in_default c =
    let is = type_at-node c.args.types.now c.args.item _ c.node.ensures.is in
    record {
      gathered = λ decls settled all was.
          gather_none decls c.args.types.now _ settled _ all c.args.item was
          (ap (tags_of_item (head decls)) is
          ∙ tags_of_item-none (head decls) c.args.types.now c.node.result c.in_default.not-Tag c.in_default.not-TagOf
          c.in_default.not-Including);
      less = λ decls. item_less decls c.args.types.now c.args.item (reverse c.args.waiting.now.items);
    }

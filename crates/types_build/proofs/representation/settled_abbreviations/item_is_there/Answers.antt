use Rattle.std.proofs.Common.{sym, ◌∙◌, ℕ, ap, subst, Some, arith}
use Rattle.std.proofs.lemmas.List.Elements.{All-pop}
use Rattle.types_spec.specs.declared.types.ty.TypeTreeNode.TheVariants as nodes
use Rattle.types_spec.specs.types.TypeNodes.{type_at}
use Rattle.types_spec.specs.types.Head.{bare_tag, carrying_tag}
use Rattle.types_spec.specs.types.Ty.{instance}
use Rattle.types_build.specs.representation.Tags.{tags_at, tags_of_entries}
use Rattle.types_build.specs.representation.RepresentationSteps.{EachBringsNone, EachItemBringsNone, item_work}
use Rattle.types_build.specs.representation.Work.{work}
use Rattle.types_build.proofs.representation.SpineLemmas.{type_at-node}
use Rattle.types_build.proofs.representation.EntryLemmas.{lookup-has_name}
use Rattle.types_build.proofs.representation.RepresentationGatherLemmas.{has_tag-named}
use Rattle.types_build.proofs.representation.RepresentationSettledLemmas.{tag_there, numbers_push}
use Rattle.types_build.proofs.representation.settled_abbreviations.item_is_there.Goals as goal

pub returns-in-Tag-clause-there : goal.returns-in-Tag-clause-there
returns-in-Tag-clause-there c = λ is decls are.
    let types = c.args.types.now in
    let entries = c.args.tags.now.entries in
    let name = c.in-Tag.name.now in
    let there = tags_at types (tags_of_entries entries) in
    let at = type_at-node types c.args.item (nodes.Tag c.in-Tag.field-0 name) c.in-Tag.ensures.is in
    let has = has_tag-named (type_at types) (tags_of_entries entries) name ∙ sym (lookup-has_name name entries) ∙ sym c.contains_key.ensures ∙ is in
    (are, subst (EachItemBringsNone decls there) (sym at) (λ value. tag_there there (bare_tag name) has))

pub returns-in-TagOf-clause-there : goal.returns-in-TagOf-clause-there
returns-in-TagOf-clause-there c = λ is decls are.
    let types = c.args.types.now in
    let entries = c.args.tags.now.entries in
    let name = c.in-TagOf.name.now in
    let there = tags_at types (tags_of_entries entries) in
    let at = type_at-node types c.args.item (nodes.TagOf c.in-TagOf.field-0 name c.in-TagOf.field-2) c.in-TagOf.ensures.is in
    let has = has_tag-named (type_at types) (tags_of_entries entries) name ∙ sym (lookup-has_name name entries)
    ∙ sym c.contains_key-in-TagOf.ensures ∙ is in (
      are,
      subst (EachItemBringsNone decls there) (sym at)
          (λ value. tag_there there (carrying_tag name (instance value (type_at types c.in-TagOf.field-2))) has),
    )

pub returns-in_ok-push-in-Including-clause-there : goal.returns-in_ok-push-in-Including-clause-there
returns-in_ok-push-in-Including-clause-there c = λ is decls are.
    let types = c.args.types.now in
    let there = tags_at types (tags_of_entries c.args.tags.now.entries) in
    let included = c.in-Including.included in
    let at = type_at-node types c.args.item (nodes.Including c.in-Including.field-0 included) c.in-Including.ensures.is in
    let Each : ℕ → Type 0 = λ n. EachBringsNone decls there (type_at types n) in
    let parted = All-pop Each c.push.new.self.items c.args.waiting.now.items (Some included) c.in_ok-push-in-Including.ensures.items are in
    (parted.0, subst (EachItemBringsNone decls there) (sym at) (λ value. parted.1 value))

pub returns-in_ok-push-in-Including-clause-less : goal.returns-in_ok-push-in-Including-clause-less
returns-in_ok-push-in-Including-clause-less c = λ is decls.
    let types = c.args.types.now in
    let included = c.in-Including.included in
    let at = type_at-node types c.args.item (nodes.Including c.in-Including.field-0 included) c.in-Including.ensures.is in
    let mine = ap (item_work (work decls)) at in
    let more = numbers_push decls types c.args.waiting.now.items included in
    rw c.in_ok-push-in-Including.ensures.items (omega (arith, mine, more))

use Rattle.std.proofs.Common.{ℕ, Option, refl, arith, take}
use Rattle.std.specs.List.{flat_map}
use Rattle.types_spec.specs.types.Ty.{Ty}
use Rattle.types_spec.specs.declared.types.head.TagOf.{TagOf}
use Rattle.types_spec.specs.types.Table.{tag_with_part}
use Rattle.types_build.specs.builder.PlacedTypes.{argument_of}
use Rattle.types_build.proofs.builder.BuilderPlacedLemmas.{placed_none, placed_next, placed_all, one_longer, one_more, head_tag_placed}
use Rattle.types_build.proofs.builder.placed_heads.placed_tags.Goals as goal

pub loop-tag-init : goal.loop-tag-init
loop-tag-init c =
    rw c.in_ok-found.ensures.items
    (placed_none {A = TagOf ℕ} {B = TagOf (Option Ty)} argument_of (λ f x. tag_with_part f x) (λ xs. flat_map argument_of xs) c.args.met.now.keys refl)

pub loop-tag-preserved : goal.loop-tag-preserved
loop-tag-preserved c =
    let tag = c.tag-item.result in
    rw (c.in_ok-push.ensures.items, c.in_ok-name.ensures, c.as_slice.ensures)
    (placed_next {A = TagOf ℕ} {B = TagOf (Option Ty)} argument_of (λ f x. tag_with_part f x) (λ xs. flat_map argument_of xs)
    c.args.met.now.keys c.loop-tag.met.keys c.position_if.new.met.keys (take c.loop-tag.tag-index c.args.tags.now) _ c.loop-tag.found.items tag _
    (one_longer c.args.tags.now c.loop-tag.tag-index tag (omega arith) c.tag-item.is)
    (one_more argument_of (take c.loop-tag.tag-index c.args.tags.now) tag) c.loop-tag.invariant
    (head_tag_placed c.loop-tag.met.keys c.position_if.new.met.keys tag c.in_ok-argument.argument c.in_ok-argument.ensures))

pub returns : goal.returns
returns c =
    rw c.of.ensures
    (placed_all {A = TagOf ℕ} {B = TagOf (Option Ty)} argument_of (λ f x. tag_with_part f x) (λ xs. flat_map argument_of xs)
    c.args.met.now.keys c.loop-tag.met.keys c.args.tags.now c.loop-tag.found.items
    c.loop-tag.tag-index (omega arith) c.loop-tag.invariant)

use Rattle.std.proofs.Common.{ℕ, pos, Option, None, take, get_or, refl, arith}
use Rattle.std.specs.List.{flat_map}
use Rattle.std.proofs.lemmas.List.{take_more}
use Rattle.types_spec.specs.types.Ty.{Ty}
use Rattle.types_spec.specs.declared.types.shape.PolyTag.{PolyTag}
use Rattle.types_spec.specs.types.Table.{tag_with_parts}
use Rattle.types_build.specs.builder.PlacedTypes.{argument_in}
use Rattle.types_build.proofs.builder.BuilderPlacedLemmas.{placed_none, placed_next, placed_all, one_more}
use Rattle.types_build.proofs.builder.placed_shapes.placed_tags.Goals as goal

pub loop-tag-init : goal.loop-tag-init
loop-tag-init c =
    rw c.in_ok-found.ensures.items
    (placed_none {A = PolyTag ℕ} {B = PolyTag (Option Ty)} argument_in (λ f x. tag_with_parts f x) (λ xs. flat_map argument_in xs) c.args.met.now.keys refl)

pub loop-tag-preserved : goal.loop-tag-preserved
loop-tag-preserved c =
    let tags = c.args.tags.now in
    let d : PolyTag ℕ = record { hash = pos 0; arg = None } in
    let tag = get_or tags c.loop-tag.tag-index d in
    let prefix = take c.loop-tag.tag-index tags in
    rw c.in_ok-push.ensures.items
    (placed_next {A = PolyTag ℕ} {B = PolyTag (Option Ty)} argument_in (λ f x. tag_with_parts f x) (λ xs. flat_map argument_in xs)
    c.args.met.now.keys c.loop-tag.met.keys c.placed_tag.new.met.keys prefix _ c.loop-tag.found.items tag c.in_ok-placed_tag.field-0
    (take_more tags c.loop-tag.tag-index d (omega arith)) (one_more argument_in prefix tag) c.loop-tag.invariant c.in_ok-placed_tag.ensures)

pub returns : goal.returns
returns c =
    rw c.of.ensures
    (placed_all {A = PolyTag ℕ} {B = PolyTag (Option Ty)} argument_in (λ f x. tag_with_parts f x) (λ xs. flat_map argument_in xs)
    c.args.met.now.keys c.loop-tag.met.keys c.args.tags.now c.loop-tag.found.items
    c.loop-tag.tag-index (omega arith) c.loop-tag.invariant)

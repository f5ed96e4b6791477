use Rattle.std.proofs.Common.{List, ℕ, Option, subst, refl, arith, take}
use Rattle.std.specs.List.{flat_map}
use Rattle.types_spec.specs.types.Ty.{Ty}
use Rattle.types_spec.specs.declared.types.shape.Constr.{Constr}
use Rattle.types_spec.specs.types.Table.{constr_with}
use Rattle.types_build.specs.builder.PlacedTypes.{AreNumbersPlaced, fields_in}
use Rattle.types_build.proofs.builder.BuilderPlacedLemmas.{placed_none, placed_next, placed_all, one_longer, one_more, block_placed}
use Rattle.types_build.proofs.builder.placed_shapes.placed_blocks.Goals as goal

pub loop-block-init : goal.loop-block-init
loop-block-init c =
    rw c.new-found.ensures.items
    (placed_none {A = Constr ℕ} {B = Constr (Option Ty)} fields_in (λ f x. constr_with f x) (λ xs. flat_map fields_in xs) c.args.met.now.keys refl)

pub loop-block-preserved : goal.loop-block-preserved
loop-block-preserved c =
    let block = c.block-item.result in
    let placed = subst (λ (ns : List ℕ). AreNumbersPlaced c.loop-block.met.keys c.positions.new.met.keys ns c.in_ok-fields.fields)
    c.as_slice.ensures c.in_ok-fields.ensures in
    rw c.in_ok-push.ensures.items
    (placed_next {A = Constr ℕ} {B = Constr (Option Ty)} fields_in (λ f x. constr_with f x) (λ xs. flat_map fields_in xs)
    c.args.met.now.keys c.loop-block.met.keys c.positions.new.met.keys (take c.loop-block.block-index c.args.blocks.now) _ c.loop-block.found.items block _
    (one_longer c.args.blocks.now c.loop-block.block-index block (omega arith) c.block-item.is)
    (one_more fields_in (take c.loop-block.block-index c.args.blocks.now) block) c.loop-block.invariant
    (block_placed c.loop-block.met.keys c.positions.new.met.keys block c.in_ok-fields.fields placed))

pub returns : goal.returns
returns c =
    rw c.of.ensures
    (placed_all {A = Constr ℕ} {B = Constr (Option Ty)} fields_in (λ f x. constr_with f x) (λ xs. flat_map fields_in xs)
    c.args.met.now.keys c.loop-block.met.keys c.args.blocks.now c.loop-block.found.items
    c.loop-block.block-index (omega arith) c.loop-block.invariant)

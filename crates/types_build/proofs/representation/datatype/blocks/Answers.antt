use Rattle.std.proofs.Common.{refl, subst}
use Rattle.std.proofs.lemmas.Option.{slice_get_read}
use Rattle.types_spec.specs.types.Ty.{Ty}
use Rattle.types_spec.specs.types.Shape.{block_of}
use Rattle.types_spec.specs.declared.types.decl.Constructor.{Constructor}
use Rattle.types_table.proofs.store.StoreHeldLemmas.{Grows-then}
use Rattle.types_build.specs.representation.Representation.{instance_at, HasBlock}
use Rattle.types_build.proofs.representation.DatatypeLemmas.{block_more, block_not_more, instance_kept}
use Rattle.types_build.proofs.representation.datatype.blocks.Goals as goal
use Rattle.types_build.proofs.representation.datatype.blocks.Goals.{in-Some+in_ok-push, in_default}

pub loop-constructor-preserved : goal.loop-constructor-preserved
loop-constructor-preserved c =
    let at = slice_get_read _ _ _ _ refl c.loop-constructor-test.true c.constructor-item.is in
    let grown = c.in_ok-block.ensures.grown in
    let kept = instance_kept c.args.types.now c.loop-constructor.types c.loop-constructor.invariant.0 c.args.decl.now c.args.arguments.now c.requires in
    let f : Constructor → _ = λ constructor. block_of (instance_at c.args.types.now c.args.decl.now c.args.arguments.now) constructor.arguments in
    let has = subst (λ (i : Ty → Ty). HasBlock c.block_of.new.types (block_of i c.constructor-item.result.arguments) c.in_ok-block.field-0) kept c.in_ok-block.ensures.ok in
    let all = Grows-then _ _ _ c.loop-constructor.invariant.0 grown in
    elim c.match-branch-2.branch [
      | in-Some+in_ok-push w ↦ (
        all,
        rw (w.found-is, w.in_ok-push.ensures.items)
            (block_more c.loop-constructor.types c.block_of.new.types grown f c.args.constructors.now c.loop-constructor.constructor-index _ at
            _ c.loop-constructor.invariant.1 _ (rw (← w.in-Some.is) has)),
      )
      | in_default w ↦ (
        all,
        rw w.found-is
            (block_not_more c.loop-constructor.types c.block_of.new.types grown f c.args.constructors.now c.loop-constructor.constructor-index _ at
            _ c.loop-constructor.invariant.1 (rw (← w.in_default.is) has)),
      )
    ]

use Rattle.std.proofs.Common.{ℕ, List, sym, subst, arith}
use Rattle.std.specs.Prelude.{Contains}
use Rattle.std.proofs.lemmas.Option.{slice_get_within}
use Rattle.base_data.proofs.model.Lists.{slice_get-read}
use Rattle.trees.proofs.search_trees.SearchTreeSettleLemmas.{level_ready, level_settled}
use Rattle.trees.proofs.search_trees.levels.settle_all.Goals as goal

pub settle-requires-clause-ready : goal.settle-requires-clause-ready
settle-requires-clause-ready c o among =
    let levels = c.args.levels.now in
    let i = c.loop-level.level-index in
    level_ready c.args.heap.now levels c.loop-level.all.items i c.level-item.result
    (slice_get-read levels i c.level-item.result c.loop-level-test.true c.level-item.is) c.loop-level.invariant.1 c.requires o
    (subst (λ (l : List ℕ). Contains l o) c.as_slice.ensures.value among)

pub loop-level-preserved : goal.loop-level-preserved
loop-level-preserved c =
    let levels = c.args.levels.now in
    let i = c.loop-level.level-index in (
      let many = c.settle.ensures.many in omega (arith, many),
      level_settled c.args.heap.now levels c.loop-level.all.items i c.level-item.result
          (slice_get-read levels i c.level-item.result c.loop-level-test.true c.level-item.is) c.loop-level.invariant.1 c.settle.new.all.items
          (λ o among. c.settle.ensures.settled o (subst (λ (l : List ℕ). Contains l o) (sym c.as_slice.ensures.value) among))
          c.settle.ensures.kept,
    )

pub returns-clause-settled : goal.returns-clause-settled
returns-clause-settled c h o has =
    let within = slice_get_within c.args.levels.now h has.0 has.1 in
    c.loop-level.invariant.1 h o (omega (arith, within)) has

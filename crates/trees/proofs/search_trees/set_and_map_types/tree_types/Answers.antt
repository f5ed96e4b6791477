use Rattle.std.proofs.Common.{ℕ, ◌≡◌, ◌<◌, length, subst, arith, ◌∙◌, false, get_or}
use Rattle.std.specs.Prelude.{IsTrue, ◌↔◌}
use Rattle.trees.specs.search_trees.TreeType.{IsTreeNumber}
use Rattle.trees.proofs.search_trees.SearchTreeTypeLemmas.{found_more, all_found}
use Rattle.trees.proofs.search_trees.set_and_map_types.tree_types.Goals as goal

pub loop-number-preserved : goal.loop-number-preserved
loop-number-preserved c =
    found_more (IsTreeNumber c.args.table.now) c.loop-number.found.items c.push.new.self.items c.loop-number.number c.is_tree_type.result
    c.loop-number.invariant.0 c.loop-number.invariant.1 c.in_ok-push.ensures.items c.is_tree_type.ensures

pub returns : goal.returns
returns c =
    let table = c.args.table.now in
    let many = c.count-number-end.ensures.nodes in
    let end : c.loop-number.number ≡ length table.nodes = omega (arith, many) in
    all_found table c.loop-number.found.items (c.loop-number.invariant.0 ∙ end)
    (subst (λ (n : ℕ). (t : ℕ) → t < n → IsTrue (get_or c.loop-number.found.items t false) ↔ IsTreeNumber table t) end c.loop-number.invariant.1)

use Rattle.std.proofs.Common.{ℕ, ◌≡◌, false, get_or, sym, ap, ◌∙◌}
use Rattle.std.proofs.lemmas.Bool.{false≢true}
use Rattle.base_data.specs.declared.model.value.Val.TheVariants as vals
use Rattle.trees.specs.declared.search_trees.tree_node.TreeNode.{TreeNode}
use Rattle.trees.specs.declared.search_trees.element_span.SettledNode.{SettledNode}
use Rattle.trees.specs.search_trees.NodeParts.{node_at, IsAtOrBelow}
use Rattle.trees.proofs.search_trees.SpanLemmas.{own_spread, settled_part, left_span, left_over, alone, none_below}
use Rattle.trees.proofs.search_trees.element_span.with_left.Goals as goal

abbrev unknown : SettledNode
unknown = record { span = record { least = 0; greatest = 0 }; disordered = false }

pub joined-requires-clause-second : goal.joined-requires-clause-second
joined-requires-clause-second c = own_spread c.args.placed.now.heap.now c.args.placed.now.object c.args.placed.now.there

pub returns-in-Ref-clause-span : goal.returns-in-Ref-clause-span
returns-in-Ref-clause-span c =
    let graph = c.args.placed.now.heap.now in
    let is : (node_at graph c.args.placed.now.object).left ≡ vals.Ref c.in-Ref.p = sym (ap (λ (n : TreeNode). n.left) c.requires.node) ∙ c.in-Ref.is in
    let known = settled_part graph c.args.all.now (node_at graph c.args.placed.now.object).left c.in-Ref.p unknown is c.requires.left in
    left_span graph c.args.placed.now.object c.args.placed.now.there c.in-Ref.p (get_or c.args.all.now c.in-Ref.p unknown) c.joined.result.0 is known
    c.joined.ensures.least c.joined.ensures.greatest

pub returns-in-Ref-clause-over : goal.returns-in-Ref-clause-over
returns-in-Ref-clause-over c =
    let graph = c.args.placed.now.heap.now in
    let is : (node_at graph c.args.placed.now.object).left ≡ vals.Ref c.in-Ref.p = sym (ap (λ (n : TreeNode). n.left) c.requires.node) ∙ c.in-Ref.is in
    let known = settled_part graph c.args.all.now (node_at graph c.args.placed.now.object).left c.in-Ref.p unknown is c.requires.left in
    let over = left_over graph c.args.placed.now.object c.in-Ref.p (get_or c.args.all.now c.in-Ref.p unknown) is known in
    (λ is. over.0 (c.joined.ensures.over.0 is), λ wrong. c.joined.ensures.over.1 (over.1 wrong))

pub returns-in_default : goal.returns-in_default
returns-in_default c =
    let graph = c.args.placed.now.heap.now in
    let none : (p : ℕ) → IsAtOrBelow graph (node_at graph c.args.placed.now.object).left p → ⊥ =
    none_below graph (node_at graph c.args.placed.now.object).left (λ q is. c.in_default.not-Ref q (ap (λ (n : TreeNode). n.left) c.requires.node ∙ is)) in
    record {
      span = alone graph c.args.placed.now.object c.args.placed.now.there none;
      over = (λ is. absurd (false≢true is), λ wrong. absurd (none wrong.0 wrong.1));
    }

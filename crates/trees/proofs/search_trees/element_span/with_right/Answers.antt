use Rattle.std.proofs.Common.{ℕ, ◌≡◌, false, get_or, sym, ap, ◌∙◌}
use Rattle.std.proofs.lemmas.Bool.{false≢true}
use Rattle.base_data.specs.declared.model.value.Val.TheVariants as vals
use Rattle.trees.specs.declared.search_trees.tree_node.TreeNode.{TreeNode}
use Rattle.trees.specs.declared.search_trees.element_span.SettledNode.{SettledNode}
use Rattle.trees.specs.search_trees.NodeParts.{node_at, IsAtOrBelow}
use Rattle.trees.specs.search_trees.Span.{IsOnLeftOrAt}
use Rattle.trees.proofs.search_trees.SpanLemmas.{spread, settled_part, right_span, right_under, no_right, none_below}
use Rattle.trees.proofs.search_trees.element_span.with_right.Goals as goal

abbrev unknown : SettledNode
unknown = record { span = record { least = 0; greatest = 0 }; disordered = false }

pub joined-requires-clause-first : goal.joined-requires-clause-first
joined-requires-clause-first c = spread c.args.placed.now.heap.now (IsOnLeftOrAt c.args.placed.now.heap.now c.args.placed.now.object) c.args.span c.requires.span

pub joined-requires-clause-second : goal.joined-requires-clause-second
joined-requires-clause-second c =
    let graph = c.args.placed.now.heap.now in
    let is : (node_at graph c.args.placed.now.object).right ≡ vals.Ref c.in-Ref.p = sym (ap (λ (n : TreeNode). n.right) c.requires.node) ∙ c.in-Ref.is in
    let known = settled_part graph c.args.all.now (node_at graph c.args.placed.now.object).right c.in-Ref.p unknown is c.requires.right in
    spread graph (IsAtOrBelow graph (vals.Ref c.in-Ref.p)) (get_or c.args.all.now c.in-Ref.p unknown).span known.span

pub returns-in-Ref-clause-span : goal.returns-in-Ref-clause-span
returns-in-Ref-clause-span c =
    let graph = c.args.placed.now.heap.now in
    let is : (node_at graph c.args.placed.now.object).right ≡ vals.Ref c.in-Ref.p = sym (ap (λ (n : TreeNode). n.right) c.requires.node) ∙ c.in-Ref.is in
    let known = settled_part graph c.args.all.now (node_at graph c.args.placed.now.object).right c.in-Ref.p unknown is c.requires.right in
    right_span graph c.args.placed.now.object c.args.span c.requires.span c.in-Ref.p (get_or c.args.all.now c.in-Ref.p unknown) c.joined.result.0 is known
    c.joined.ensures.least c.joined.ensures.greatest

pub returns-in-Ref-clause-under : goal.returns-in-Ref-clause-under
returns-in-Ref-clause-under c =
    let graph = c.args.placed.now.heap.now in
    let is : (node_at graph c.args.placed.now.object).right ≡ vals.Ref c.in-Ref.p = sym (ap (λ (n : TreeNode). n.right) c.requires.node) ∙ c.in-Ref.is in
    let known = settled_part graph c.args.all.now (node_at graph c.args.placed.now.object).right c.in-Ref.p unknown is c.requires.right in
    let under = right_under graph c.args.placed.now.object c.args.span c.requires.span c.in-Ref.p (get_or c.args.all.now c.in-Ref.p unknown) is known in
    (λ is. under.0 (c.joined.ensures.over.0 is), λ wrong. c.joined.ensures.over.1 (under.1 wrong))

pub returns-in_default : goal.returns-in_default
returns-in_default c =
    let graph = c.args.placed.now.heap.now in
    let none : (p : ℕ) → IsAtOrBelow graph (node_at graph c.args.placed.now.object).right p → ⊥ =
    none_below graph (node_at graph c.args.placed.now.object).right (λ q is. c.in_default.not-Ref q (ap (λ (n : TreeNode). n.right) c.requires.node ∙ is)) in
    record {
      span = no_right graph c.args.placed.now.object c.args.span c.requires.span none;
      under = (λ is. absurd (false≢true is), λ wrong. absurd (none wrong.1 wrong.3));
    }

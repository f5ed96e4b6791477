use Rattle.std.proofs.Common.{rules, ap, ◌∙◌}
use Rattle.std.proofs.lemmas.List.Sorted.{answers_always, IsNonDecreasingBy-from_sort_by_key}
use Rattle.text_path.specs.LineOrder.{positions_of}
use Rattle.text_path.proofs.PathOrderLemmas.{order_kept}
use Rattle.text_path.proofs.graft_uses.uses_of.Goals as goal

pub returns : goal.returns
returns c = record {
  by_other = IsNonDecreasingBy-from_sort_by_key (λ used. used.0) _ c.in_ok-sort_by_key.ensures.sorted (λ a r q k. search rules);
  stable = λ j. order_kept _ _ (c.sort_by_key.ensures.stable (λ used. used.0) (answers_always _ _ _ (λ f a r g h. search rules))) j ∙ ap (positions_of j) c.in_ok-uses.ensures;
}

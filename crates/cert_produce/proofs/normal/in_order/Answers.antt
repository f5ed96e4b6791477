use Rattle.std.proofs.Common.{subst, sym}
use Rattle.std.specs.Prelude.{Contains}
use Rattle.std.proofs.lemmas.List.Filters.{dedup_is}
use Rattle.std.proofs.lemmas.List.Kept.{IsStrictlySortedBy-dedup, Contains-dedup, Contains-from_dedup}
use Rattle.std.proofs.lemmas.List.Sorted.{Contains-permutation, IsPermutation-sym}
use Rattle.cert_format.specs.Increasing.{AreIncreasing}
use Rattle.cert_produce.proofs.ProducedOrderLemmas.{sorted_increase, pair_cmp_total, same_test, same_test_ties, same_test_equiv, same_test_exact}
use Rattle.cert_produce.proofs.normal.in_order.Goals as goal

pub of-requires : goal.of-requires
of-requires c =
    let is = dedup_is same_test _ _ c.dedup.ensures.filtered in
    subst AreIncreasing (sym is) (sorted_increase _ (IsStrictlySortedBy-dedup pair_cmp_total same_test_ties _ c.sort_unstable.ensures.sorted))

pub returns-clause-increasing : goal.returns-clause-increasing
returns-clause-increasing c =
    let is = dedup_is same_test _ _ c.dedup.ensures.filtered in
    subst AreIncreasing (sym c.of.ensures)
    (subst AreIncreasing (sym is) (sorted_increase _ (IsStrictlySortedBy-dedup pair_cmp_total same_test_ties _ c.sort_unstable.ensures.sorted)))

pub returns-clause-same : goal.returns-clause-same
returns-clause-same c = λ pair.
    let is = dedup_is same_test _ _ c.dedup.ensures.filtered in
    let moved = c.sort_unstable.ensures.permutation in (
      λ among. Contains-permutation _ _ pair (IsPermutation-sym _ _ moved)
          (Contains-from_dedup same_test _ pair (subst (λ all. Contains all pair) is (subst (λ all. Contains all pair) c.of.ensures among))),
      λ among. subst (λ all. Contains all pair) (sym c.of.ensures)
          (subst (λ all. Contains all pair) (sym is) (Contains-dedup same_test_equiv same_test_exact _ pair (Contains-permutation _ _ pair moved among))),
    )

-- The cost of a visit, and the loop over all visits.
use Rattle.std.proofs.Common.{ℕ, suc, ◌+◌, ◌<◌, ◌≤◌, ◌≡◌, ◌∙◌, List, length, Some, None, ap, subst, arith}
use Rattle.std.specs.Prelude.{slice_get}
use Rattle.std.proofs.lemmas.List.{length-append}
use Rattle.base_data.proofs.model.Options.{slice_get_there}
use Rattle.base_data.specs.declared.model.value.Obj.{Obj}
use Rattle.types_spec.specs.types.StepBounds.{most_steps}
use Rattle.types_spec.specs.types.Table.{Table}
use Rattle.types_table.specs.type_table.Made.{IsLawful}
use Rattle.check_heap.specs.declared.check.visits.Visit.{Visit}
use Rattle.check_heap.specs.declared.check.visits.Visits.{Visits}
use Rattle.check_heap.specs.check.Visits.{listed, AreLinked}
use Rattle.check_heap.specs.check.Explored.{IsExplored}
use Rattle.check_heap.specs.check.Search.{counted, cost_or_none, cost_at, spent, TestsVisit, IsSearching}
use Rattle.check_heap.specs.scan.Scanned as scans
use Rattle.check_heap.specs.declared.scan.taken_objects.TakenObjects.{TakenObjects}
use Rattle.check_heap.specs.scan.TakenObjects.{types_in}
use Rattle.check_heap.specs.scan.Scanned.{AreTaken, left_of}
use Rattle.check_heap.proofs.check.CheckVisitLemmas.{grows_twice}
use Rattle.check_heap.proofs.check.SpentLemmas.{spent_next, spent-append, spent_few}

module _ (table : Table) (graph : List Obj) (taken : TakenObjects) where
  pub cost_is : (all : List Visit) (n : ℕ) (v : Visit) → slice_get all n ≡ Some v → cost_at table graph taken all n ≡ counted table graph taken v
  cost_is all n v at_n = ap (cost_or_none table graph taken) at_n

  -- ---- all visits

  pub search_few :
      (all : List Visit) (n start steps more : ℕ) → IsLawful table → AreTaken table graph taken → IsExplored table graph all n 0 → n < length all
      → steps ≤ start + spent table graph taken all n → more ≤ steps + cost_at table graph taken all n
      → more + scans.cost_of graph (types_in taken) + 1 ≤ start + left_of graph taken + most_steps table graph
  search_few all n start steps more lawful are x inside few cost =
      let v = slice_get_there all n inside in
      let is = cost_is all n v.0 v.1 in
      let next = spent_next table graph taken all n v.0 v.1 in
      let bound = spent_few table graph taken all n 0 (n + 1) lawful are x in
      omega (arith, few, cost, is, next, bound)

  pub searched_few :
      (all : List Visit) (n start steps : ℕ) → IsLawful table → AreTaken table graph taken → IsExplored table graph all n 0
      → steps ≤ start + spent table graph taken all n → steps + scans.cost_of graph (types_in taken) + 1 ≤ start + left_of graph taken + most_steps table graph
  searched_few all n start steps lawful are x few =
      let bound = spent_few table graph taken all n 0 n lawful are x in omega (arith, few, bound)

  pub searching_more :
      (old now new : Visits) (n start steps more : ℕ) → IsSearching table graph taken old now n start steps → n < length (listed now)
      → AreLinked table (length graph) new → TestsVisit table graph (listed now) (listed new) n None
      → more ≤ steps + cost_at table graph taken (listed now) n → IsSearching table graph taken old new (n + 1) start more
  searching_more old now new n start steps more searching inside linked tests cost =
      let all = (listed now) in
      let v = slice_get_there (listed now) n inside in
      let is = cost_is (listed now) n v.0 v.1 in
      let next = spent_next table graph taken (listed now) n v.0 v.1 in
      let added = tests.grows.added in
      let less : n + 1 ≤ length (listed now) = omega arith in
      let still : spent table graph taken (listed new) (n + 1) ≡ spent table graph taken (listed now) (n + 1) =
      ap (λ vs. spent table graph taken vs (n + 1)) tests.grows.extends ∙ spent-append table graph taken (listed now) added (n + 1) less in
      let long : length (listed new) ≡ length (listed now) + length added = ap length tests.grows.extends ∙ length-append (listed now) added in
      let few = searching.few in
      let one : suc n ≡ n + 1 = omega arith in
      record {
        linked = linked;
        grows = grows_twice (listed old) (listed now) (listed new) searching.grows tests.grows;
        explored = subst (λ m. IsExplored table graph (listed new) m 0) one tests.tested;
        within = omega (arith, long, less);
        few = omega (arith, few, cost, is, next, still);
      }

use Rattle.std.proofs.Common.{◌+◌, ◌≡◌, drop, subst, arith, []}
use Rattle.std.proofs.lemmas.List.{drop_all}
use Rattle.check_stream.specs.mismatch_theory.PassedBut.{values_at}
use Rattle.check_stream.specs.mismatch_search.SearchTrail.{left_values, waiting_positions}
use Rattle.check_stream.proofs.mismatch_search.MismatchSearchWayLemmas.{waiting_less, way_many}
use Rattle.check_stream.proofs.mismatch_search.way.Way.are_within.Goals as goal

pub waiting-preserved : goal.waiting-preserved
waiting-preserved c =
    let links = c.args.self.now.links.items in
    let items = c.args.self.now.waiting.items in
    let given = waiting_less links c.as_slice-block-items.result.now c.waiting.block-index c.values_left-in-waiting.result _ c.waiting-test.true c.values_left-in-waiting.ensures in
    let less : values_at (waiting_positions links (drop c.waiting.block-index items)) ≡ values_at (waiting_positions links (drop (c.waiting.block-index + 1) items)) + c.values_left-in-waiting.result =
    subst (λ xs. values_at (waiting_positions links (drop c.waiting.block-index xs)) ≡ values_at (waiting_positions links (drop (c.waiting.block-index + 1) xs)) + c.values_left-in-waiting.result) c.as_slice-block-items.ensures.value given in
    let before = c.waiting.invariant in
    let room = c.in-Some-checked_sub.ensures in
    omega (arith, less, before, room.0, room.1)

pub returns : goal.returns
returns c =
    let links = c.args.self.now.links.items in
    let items = c.args.self.now.waiting.items in
    let none : drop c.waiting.block-index items ≡ [] = subst (λ xs. drop c.waiting.block-index xs ≡ []) c.as_slice-block-items.ensures.value (drop_all c.waiting.block-index c.as_slice-block-items.result.now c.waiting-test.false) in
    let counted : left_values c.args.self.now.now.left + values_at (waiting_positions links items) + c.waiting.room ≡ c.args.most + values_at (waiting_positions links []) = subst (λ rest. left_values c.args.self.now.now.left + values_at (waiting_positions links items) + c.waiting.room ≡ c.args.most + values_at (waiting_positions links rest)) none c.waiting.invariant in
    let both = way_many c.args.self.now in
    omega (arith, counted, both)

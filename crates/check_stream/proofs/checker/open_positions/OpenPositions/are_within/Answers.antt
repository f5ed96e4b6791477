use Rattle.std.proofs.Common.{◌+◌, ◌≡◌, drop, subst, arith, []}
use Rattle.std.proofs.lemmas.List.{drop_all}
use Rattle.check_stream.specs.theory.AskedNeeds.{values_in}
use Rattle.check_stream.proofs.theory.OnePassEndLemmas.{values_in-append}
use Rattle.check_stream.specs.checker.OpenPositions.{open_needs, waiting_needs}
use Rattle.check_stream.proofs.checker.CheckerPositionLemmas.{values_less}
use Rattle.check_stream.proofs.checker.open_positions.OpenPositions.are_within.Goals as goal

pub waiting-preserved : goal.waiting-preserved
waiting-preserved c =
    let items = c.args.self.now.waiting.items in
    let given = values_less c.as_slice-block-items.result.now c.waiting.block-index c.values_of-in-waiting.result _ c.waiting-test.true c.values_of-in-waiting.ensures in
    let less : values_in (waiting_needs (drop c.waiting.block-index items)) ≡ values_in (waiting_needs (drop (c.waiting.block-index + 1) items)) + c.values_of-in-waiting.result =
    subst (λ xs. values_in (waiting_needs (drop c.waiting.block-index xs)) ≡ values_in (waiting_needs (drop (c.waiting.block-index + 1) xs)) + c.values_of-in-waiting.result) c.as_slice-block-items.ensures.value given in
    let before = c.waiting.invariant in
    let room = c.in-Some-checked_sub.ensures in
    omega (arith, less, before, room.0, room.1)

pub returns : goal.returns
returns c =
    let items = c.args.self.now.waiting.items in
    let none : drop c.waiting.block-index items ≡ [] = subst (λ xs. drop c.waiting.block-index xs ≡ []) c.as_slice-block-items.ensures.value (drop_all c.waiting.block-index c.as_slice-block-items.result.now c.waiting-test.false) in
    let counted : values_in (open_needs c.args.self.now.now) + values_in (waiting_needs items) + c.waiting.room ≡ c.args.most + values_in (waiting_needs []) = subst (λ rest. values_in (open_needs c.args.self.now.now) + values_in (waiting_needs items) + c.waiting.room ≡ c.args.most + values_in (waiting_needs rest)) none c.waiting.invariant in
    let both = values_in-append (open_needs c.args.self.now.now) (waiting_needs items) in
    omega (arith, counted, both)

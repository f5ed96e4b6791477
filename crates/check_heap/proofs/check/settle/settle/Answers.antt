use Rattle.std.proofs.Common.{◌<◌, ◌≤◌, ◌≡◌, length, take_all, ap, subst, arith}
use Rattle.std.specs.Bool.{OnTrue}
use Rattle.base_data.proofs.model.Options.{slice_get_there}
use Rattle.types_table.specs.type_table.Made.{table_of}
use Rattle.check_heap.specs.scan.Seconds.{noted_in}
use Rattle.check_heap.specs.check.Settled.{Settles, IsSettling, cost_of_pairs}
use Rattle.check_heap.proofs.check.CheckSettleLemmas.{counting_none, counting_more}
use Rattle.check_heap.proofs.check.settle.settle.Goals as goal

pub loop-n-init : goal.loop-n-init
loop-n-init c = counting_none (table_of c.args.fitting.table.now) c.args.heap.now c.args.types.now c.args.seconds c.args.steps.now c.requires.over

pub settle_pair-requires-clause-settling : goal.settle_pair-requires-clause-settling
settle_pair-requires-clause-settling c = c.loop-n.invariant.settling

pub loop-n-preserved : goal.loop-n-preserved
loop-n-preserved c =
    let t = table_of c.args.fitting.table.now in
    let graph = c.args.heap.now in
    let inside : c.loop-n.n < length (noted_in c.loop-n.seconds) = omega (arith, c.loop-n-test.true, c.len.ensures) in
    let at_n = slice_get_there (noted_in c.loop-n.seconds) c.loop-n.n inside in
    let settles = subst (λ test. OnTrue test (Settles t graph c.args.types.now c.loop-n.seconds c.settle_pair.new.seconds c.loop-n.n)) c.if-not-branch.false c.in_ok-settle_pair.ensures.settles in
    counting_more t graph c.args.types.now c.loop-n.seconds c.settle_pair.new.seconds c.loop-n.n c.args.steps.now c.loop-n.steps c.settle_pair.new.steps at_n.0
    c.loop-n.invariant at_n.1 settles (c.settle_pair.ensures.steps at_n.0.0 at_n.0.1 at_n.1)

pub returns-clause-settled : goal.returns-clause-settled
returns-clause-settled c =
    let within = c.loop-n.invariant.settling.within in
    let all : c.loop-n.n ≡ length (noted_in c.loop-n.seconds) = omega (arith, within, c.loop-n-test.false, c.len.ensures) in
    subst (IsSettling (table_of c.args.fitting.table.now) c.args.heap.now c.args.types.now c.loop-n.seconds) all c.loop-n.invariant.settling

pub returns-clause-steps : goal.returns-clause-steps
returns-clause-steps c =
    let within = c.loop-n.invariant.settling.within in
    let all : length (noted_in c.loop-n.seconds) ≤ c.loop-n.n = omega (arith, c.loop-n-test.false, c.len.ensures) in
    let whole = ap (cost_of_pairs c.args.heap.now) (take_all c.loop-n.n (noted_in c.loop-n.seconds) all) in
    omega (arith, c.loop-n.invariant.few, whole)

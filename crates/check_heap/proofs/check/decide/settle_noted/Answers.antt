use Rattle.std.proofs.Common.{◌≤◌, ◌+◌, subst, arith}
use Rattle.std.specs.Prelude.{IfSome}
use Rattle.types_table.specs.type_table.Made.{table_of}
use Rattle.check_heap.specs.scan.Scanned.{pairs_with}
use Rattle.check_heap.specs.scan.Seconds.{noted_in}
use Rattle.check_heap.specs.check.Settled.{IsSettled, cost_of_pairs}
use Rattle.check_heap.proofs.check.CheckSettledLemmas.{settled_yes, settled_cases, settled_few}
use Rattle.check_heap.proofs.check.CheckAskedLemmas.{reached_yes, reached_paths}
use Rattle.check_heap.proofs.check.decide.settle_noted.Goals as goal

pub settle-requires : goal.settle-requires
settle-requires c = record { over = record { scanned = c.requires.known.0; paths = c.requires.paths.1 } }

pub returns-in_ok-typing-in-Some-clause-verdict : goal.returns-in_ok-typing-in-Some-clause-verdict
returns-in_ok-typing-in-Some-clause-verdict c =
    let t = table_of c.args.fitting.table.now in
    let graph = c.args.heap.now in
    let types = c.args.noted.taken.types in
    let settled = subst (λ found. IfSome found (IsSettled t graph types)) c.in-Some.is c.in_ok-seconds.ensures.settled in
    let yes = settled_yes t graph types c.in-Some.seconds c.holds.ensures.lawful c.count-count.ensures.heap.is_graph settled in
    (yes.0, reached_yes t graph c.holds.ensures.lawful types (pairs_with types c.in-Some.seconds) c.in_ok-typing-in-Some.typing c.in_ok-typing-in-Some.ensures c.requires.asked yes.1)

pub returns-in_ok-typing-in-Some-clause-paths : goal.returns-in_ok-typing-in-Some-clause-paths
returns-in_ok-typing-in-Some-clause-paths c =
    let t = table_of c.args.fitting.table.now in
    let graph = c.args.heap.now in
    let types = c.args.noted.taken.types in
    let settled = subst (λ found. IfSome found (IsSettled t graph types)) c.in-Some.is c.in_ok-seconds.ensures.settled in
    reached_paths t graph c.holds.ensures.lawful types (pairs_with types c.in-Some.seconds) c.in_ok-typing-in-Some.typing c.in_ok-typing-in-Some.ensures c.requires.paths.0
    (settled_cases t graph types c.in-Some.seconds c.holds.ensures.lawful c.count-count.ensures.heap.is_graph settled)

pub returns-in_ok-typing-in-Some-clause-steps : goal.returns-in_ok-typing-in-Some-clause-steps
returns-in_ok-typing-in-Some-clause-steps c =
    let t = table_of c.args.fitting.table.now in
    let graph = c.args.heap.now in
    let types = c.args.noted.taken.types in
    let settled = subst (λ found. IfSome found (IsSettled t graph types)) c.in-Some.is c.in_ok-seconds.ensures.settled in
    let few = settled_few t graph types c.in-Some.seconds c.holds.ensures.lawful c.count-count.ensures.heap.is_graph settled in
    let more = subst (λ found. IfSome found (λ all. c.settle.new.steps ≤ c.new-more.result + cost_of_pairs graph (noted_in all))) c.in-Some.is c.in_ok-seconds.ensures.steps in
    omega (arith, few, more, c.requires.all, c.new-more.ensures, c.raise_by.ensures.more, c.raise_by-in-Some.ensures.more, c.taken-in-Some.ensures)

pub settled_typing-requires-clause-within : goal.settled_typing-requires-clause-within
settled_typing-requires-clause-within c = c.requires.known.0.within

pub settled_typing-requires-clause-noted : goal.settled_typing-requires-clause-noted
settled_typing-requires-clause-noted c = λ o t among.
    let settled : IsSettled (table_of c.args.fitting.table.now) c.args.heap.now c.args.noted.taken.types c.in-Some.seconds =
    subst (λ found. IfSome found (IsSettled (table_of c.args.fitting.table.now) c.args.heap.now c.args.noted.taken.types)) c.in-Some.is c.in_ok-seconds.ensures.settled in
    (settled.over.scanned.noted o t among).within

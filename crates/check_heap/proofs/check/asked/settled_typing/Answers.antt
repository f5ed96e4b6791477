use Rattle.std.proofs.Common.{ℕ, inl, inr, ◌≡◌, ◌∙◌, ◌++◌, List, sym, ap}
use Rattle.std.proofs.lemmas.Result.{IfOk-weaker}
use Rattle.types_spec.specs.types.Fitting.{numbered_from}
use Rattle.types_table.specs.type_table.Made.{table_of}
use Rattle.check_heap.specs.scan.Scanned.{pairs_with}
use Rattle.check_heap.specs.scan.Seconds.{noted_in}
use Rattle.check_heap.specs.check.AskedPairs.{asked_pairs, AreReached}
use Rattle.check_heap.proofs.check.CheckAskedLemmas.{asked_both}
use Rattle.check_heap.proofs.check.asked.settled_typing.Goals as goal

pub returns-then-are_asked : goal.returns-then-are_asked
returns-then-are_asked c =
    let all = pairs_with c.args.types c.args.seconds in
    IfOk-weaker c.settled.result (λ pairs. pairs ≡ all) (AreReached (table_of c.args.table.now) c.args.types all)
    (λ pairs is. inl (is, c.are_asked.ensures c.if-are_asked.true)) c.settled.ensures

pub returns : goal.returns
returns c =
    let table = table_of c.args.table.now in
    inr (c.listed.ensures ∙ c.in_ok-write_noted.ensures
    ∙ ap (λ (ps : List (ℕ × ℕ)). ps ++ asked_pairs table (noted_in c.args.seconds)) c.in_ok-pairs.ensures
    ∙ sym (asked_both table (numbered_from 0 c.args.types) (noted_in c.args.seconds)))

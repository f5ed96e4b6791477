use Rattle.std.proofs.Common.{ℕ, ◌≡◌, ◌∙◌, ◌++◌, List, length, sym, ap, append-nil, arith}
use Rattle.types_table.specs.type_table.Made.{table_of}
use Rattle.base_data.proofs.model.Lists.{take-whole}
use Rattle.base_data.proofs.model.Options.{slice_get-Contains}
use Rattle.check_heap.specs.scan.Seconds.{noted_in}
use Rattle.check_heap.specs.check.AskedPairs.{asked_pairs}
use Rattle.check_heap.proofs.check.CheckAskedLemmas.{asked_next}
use Rattle.check_heap.proofs.check.asked.write_noted.Goals as goal

pub write_if_asked-requires : goal.write_if_asked-requires
write_if_asked-requires c =
    let pair : ℕ × ℕ = (c.get-object.result.0, c.get-object.result.1) in
    c.requires c.get-object.result.0 c.get-object.result.1 (slice_get-Contains (noted_in c.args.seconds.now) c.loop-k.k pair c.get-object.ensures)

pub loop-k-init : goal.loop-k-init
loop-k-init c = sym (append-nil c.args.pairs.now.items)

pub loop-k-preserved : goal.loop-k-preserved
loop-k-preserved c =
    let pair : ℕ × ℕ = (c.get-object.result.0, c.get-object.result.1) in
    asked_next (table_of c.args.table.now) c.args.pairs.now.items (noted_in c.args.seconds.now) c.loop-k.pairs.items c.write_if_asked.new.pairs.items c.loop-k.k pair c.get-object.ensures c.loop-k.invariant
    c.in_ok-write_if_asked.ensures

pub returns : goal.returns
returns c =
    let noted = noted_in c.args.seconds.now in
    let end : c.loop-k.k ≡ length noted = omega (arith, c.loop-k.auto.k-end, c.loop-k-test.false, c.len-k-end.ensures) in
    c.loop-k.invariant
    ∙ ap (λ (ps : List (ℕ × ℕ)). c.args.pairs.now.items ++ asked_pairs (table_of c.args.table.now) ps) (take-whole noted c.loop-k.k end)

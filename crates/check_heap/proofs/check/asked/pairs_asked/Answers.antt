use Rattle.std.proofs.Common.{ℕ, ◌≡◌, ◌∙◌, [], length, Some, sym, ap, arith}
use Rattle.types_spec.specs.types.Fitting.{numbered_from}
use Rattle.types_table.specs.type_table.Made.{table_of}
use Rattle.base_data.proofs.model.Lists.{take-whole}
use Rattle.check_heap.specs.check.AskedPairs.{asked_pairs}
use Rattle.check_heap.proofs.check.ScannedLemmas.{numbered_there, length_numbered}
use Rattle.check_heap.proofs.check.CheckAskedLemmas.{asked_next}
use Rattle.check_heap.proofs.check.asked.pairs_asked.Goals as goal

pub loop-o-preserved : goal.loop-o-preserved
loop-o-preserved c =
    let types = c.args.types.now in
    let pair : ℕ × ℕ = (c.loop-o.o, c.get-ty.result) in
    let at =
    numbered_there 0 types c.loop-o.o c.loop-o.o (omega arith) (omega (arith, c.loop-o-test.true, c.len-o-end.ensures))
    ∙ ap (λ t. Some (c.loop-o.o, t)) (sym c.get-ty.ensures) in
    asked_next (table_of c.args.table.now) [] (numbered_from 0 types) c.loop-o.pairs.items c.write_if_asked.new.pairs.items c.loop-o.o pair at c.loop-o.invariant c.in_ok-write_if_asked.ensures

pub returns : goal.returns
returns c =
    let types = c.args.types.now in
    let end : c.loop-o.o ≡ length (numbered_from 0 types) =
    omega (arith, length_numbered 0 types, c.loop-o.auto.o-end, c.loop-o-test.false, c.len-o-end.ensures) in
    c.loop-o.invariant ∙ ap (asked_pairs (table_of c.args.table.now)) (take-whole (numbered_from 0 types) c.loop-o.o end)

use Rattle.std.proofs.Common.{ℕ, arith, ap}
use Rattle.marshal_read.proofs.ReaderSizeLemmas.{words32-within, words64-within, words-small}
use Rattle.marshal_read.proofs.read_totals.ReadTotals.words_after.Goals as goal

pub overflow_add-result : goal.overflow_add-result
overflow_add-result c =
    let m = c.in-Some.measure in
    omega (arith, words32-within m, words-small m (c.requires m c.in-Some.is), ap (λ (p : ℕ × ℕ). p.0) c.words_of-w32.ensures)

pub overflow_add-result-in-Some : goal.overflow_add-result-in-Some
overflow_add-result-in-Some c =
    let m = c.in-Some.measure in
    omega (arith, words64-within m, words-small m (c.requires m c.in-Some.is), ap (λ (p : ℕ × ℕ). p.1) c.words_of-w32.ensures)

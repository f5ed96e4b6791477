use Rattle.std.proofs.Common.{◌≡◌, ℕ, ◌+◌, ◌-◌, ◌*◌, take, drop, ap, ◌∙◌, arith, w64}
use Rattle.std.specs.Int.{from_le_bytes}
use Rattle.marshal_heap.specs.heap.ObjectWords.{word_of_bytes}
use Rattle.marshal_heap.proofs.heap.strings.whole_word.Goals as goal

pub returns : goal.returns
unfolding word_of_bytes
returns c =
    let n : 8 * c.args.j + 8 - 8 * c.args.j ≡ 8 = omega arith in
    c.from_le_bytes.ensures ∙ ap (from_le_bytes w64) (c.copy_from_slice.ensures.after ∙ ap (λ (n : ℕ). take n (drop (8 * c.args.j) c.args.content.now)) n)

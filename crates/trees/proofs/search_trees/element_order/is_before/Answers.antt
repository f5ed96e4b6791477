use Rattle.std.proofs.Common.{◌≡◌, ◌∙◌, length, min, nat_lt, ap, arith}
use Rattle.marshal_heap.specs.heap.Heap.{object_at, bytes_of}
use Rattle.trees.proofs.search_trees.LessLemmas.{same_not_before, decided_by_length}
use Rattle.trees.proofs.search_trees.element_order.is_before.Goals as goal

pub returns-then-o-p : goal.returns-then-o-p
returns-then-o-p c =
    same_not_before (bytes_of (object_at c.args.strings.now.heap.now c.args.strings.now.first)) (bytes_of (object_at c.args.strings.now.heap.now c.args.strings.now.second))
    (ap (λ q. bytes_of (object_at c.args.strings.now.heap.now q)) c.if-o-p.true)

pub returns : goal.returns
returns c =
    let xs = bytes_of (object_at c.args.strings.now.heap.now c.args.strings.now.first) in
    let ys = bytes_of (object_at c.args.strings.now.heap.now c.args.strings.now.second) in
    let first = c.len_of-first.ensures in
    let second = c.len_of-second.ensures in
    let end : c.loop-i.i ≡ min (length xs) (length ys) = omega (arith, first, second) in
    ap (λ n. nat_lt n c.len_of-second.result) first ∙ ap (λ n. nat_lt (length xs) n) second
    ∙ decided_by_length xs ys c.loop-i.i c.loop-i.invariant end

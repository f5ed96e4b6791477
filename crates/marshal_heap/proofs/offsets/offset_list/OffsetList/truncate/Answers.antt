use Rattle.std.proofs.Common.{◌≡◌, ◌<◌, ℕ, ◌++◌, List, length, get_or, sym, ap, ◌∙◌, arith}
use Rattle.marshal_heap.proofs.offsets.CellLemmas.{IsIndexed-cut}
use Rattle.marshal_heap.proofs.offsets.offset_list.OffsetList.truncate.Goals as goal

pub invariant_of-self : goal.invariant_of-self
invariant_of-self c =
    let positions : List ℕ = c.self.inside.low.items ++ c.self.inside.high.items in
    let inside : c.args.n < length positions = omega (arith, c.len.ensures, ap length c.self.view_is) in
    let p : c.get-p.result ≡ get_or positions c.args.n 0 = c.get-p.ensures ∙ ap (λ (xs : List ℕ). get_or xs c.args.n 0) (sym c.self.view_is) in
    rw (c.shorten.ensures, c.clear_from.ensures, c.truncate.ensures.items, p) (IsIndexed-cut c.self.inside.cells.items positions c.args.n c.self.invariant inside)

use Rattle.std.proofs.Common.{◌<◌, ℕ, ◌%◌, ◌++◌, List, All, length, sym, ap, subst, ◌∙◌, arith}
use Rattle.marshal_heap.proofs.offsets.BitLemmas.{pow_more}
use Rattle.marshal_heap.proofs.offsets.CellLemmas.{covers_all, clear_bits, IsIndexed-marked}
use Rattle.marshal_heap.proofs.offsets.offset_list.OffsetList.push.Goals as goal

pub invariant_of-self-in_err-append : goal.invariant_of-self-in_err-append
invariant_of-self-in_err-append c =
    let positions : List ℕ = c.self.inside.low.items ++ c.self.inside.high.items in
    let below = subst (All (λ q. q < c.args.p)) (sym c.self.view_is) c.requires in
    let whole = covers_all c.self.inside.cells.items _ positions c.args.p _ c.self.invariant below (c.len-count.ensures ∙ ap length (sym c.self.view_is)) (c.in_ok-cover.ensures {u = tt}) in
    let kept = c.in_err-append.ensures {u = tt} in
    rw (kept.0, kept.1) whole.0

pub mark-requires-clause-clear : goal.mark-requires-clause-clear
mark-requires-clause-clear c =
    let positions : List ℕ = c.self.inside.low.items ++ c.self.inside.high.items in
    let below = subst (All (λ q. q < c.args.p)) (sym c.self.view_is) c.requires in
    let whole = covers_all c.self.inside.cells.items _ positions c.args.p _ c.self.invariant below (c.len-count.ensures ∙ ap length (sym c.self.view_is)) (c.in_ok-cover.ensures {u = tt}) in
    omega (arith, clear_bits _ positions c.args.p whole.0 below whole.1, pow_more (c.args.p % 64) 64 (omega arith))

pub invariant_of-self-2 : goal.invariant_of-self-2
invariant_of-self-2 c =
    let positions : List ℕ = c.self.inside.low.items ++ c.self.inside.high.items in
    let below = subst (All (λ q. q < c.args.p)) (sym c.self.view_is) c.requires in
    let whole = covers_all c.self.inside.cells.items _ positions c.args.p _ c.self.invariant below (c.len-count.ensures ∙ ap length (sym c.self.view_is)) (c.in_ok-cover.ensures {u = tt}) in
    rw (c.mark.ensures, c.in_ok-append.ensures {u = tt}) (IsIndexed-marked _ positions c.args.p whole.0 below whole.1)

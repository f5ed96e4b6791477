use Rattle.std.proofs.Common.{rules, ◌≡◌, ◌<◌, ℕ, ◌+◌, ◌-◌, ◌/◌, ◌%◌, [], ◌++◌, List, All, length, take, replicate, sym, ap, subst, ◌∙◌, arith, append-nil, ◌∷◌}
use Rattle.std.proofs.lemmas.List.{nil_from_length}
use Rattle.marshal_heap.specs.offsets.Cells.{IsIndexed}
use Rattle.marshal_heap.specs.declared.offsets.cells.Cell.{Cell}
use Rattle.marshal_heap.proofs.offsets.BitLemmas.{pow_more}
use Rattle.marshal_heap.proofs.offsets.CellLemmas.{covers_all, clear_bits, IsIndexed-marked}
use Rattle.marshal_heap.proofs.offsets.offset_list.OffsetList.push_in_room.Goals as goal

-- If no offset is in `high`, then the extended cells represent the offsets, and the last cell is
-- the cell of `p`.
covered : (cells covered : List Cell) (low high : List ℕ) (p n : ℕ) → IsIndexed cells (low ++ high) → All (λ q. q < p) (low ++ high) → high ≡ [] → n ≡ length low
    → covered ≡ take (p / 64 + 1) cells ++ replicate (p / 64 + 1 - length cells) (record { bits = 0; before = n }) → IsIndexed covered (low ++ high) × (length covered ≡ p / 64 + 1)
covered cells whole low high p n indexed below none count made =
    let all : n ≡ length (low ++ high) = count ∙ ap length (sym (append-nil low) ∙ ap (λ xs. low ++ xs) (sym none)) in
    covers_all cells whole (low ++ high) p n indexed below all made

pub mark-requires-clause-clear : goal.mark-requires-clause-clear
mark-requires-clause-clear c =
    let below = subst (All (λ q. q < c.args.p)) (sym c.self.view_is) c.requires in
    let none : c.self.inside.high.items ≡ [] = nil_from_length _ (omega (arith, c.self.inside.high.ok.0)) in
    let whole = covered _ _ c.self.inside.low.items c.self.inside.high.items c.args.p c.len-count.result c.self.invariant below none (search rules) (c.if-not-cover_in_room.ensures {u = tt}) in
    omega (arith, clear_bits _ _ c.args.p whole.0 below whole.1, pow_more (c.args.p % 64) 64 (omega arith))

pub invariant_of-self-2 : goal.invariant_of-self-2
invariant_of-self-2 c =
    let below = subst (All (λ q. q < c.args.p)) (sym c.self.view_is) c.requires in
    let none : c.self.inside.high.items ≡ [] = nil_from_length _ (omega (arith, c.self.inside.high.ok.0)) in
    let whole = covered _ _ c.self.inside.low.items c.self.inside.high.items c.args.p c.len-count.result c.self.invariant below none (search rules) (c.if-not-cover_in_room.ensures {u = tt}) in
    let positions : c.push_reserved.new.self.items ++ c.self.inside.high.items ≡ (c.self.inside.low.items ++ c.self.inside.high.items) ++ c.args.p ∷ [] =
    ap (λ xs. c.push_reserved.new.self.items ++ xs) none ∙ append-nil c.push_reserved.new.self.items ∙ c.push_reserved.ensures.items
    ∙ ap (λ xs. xs ++ c.args.p ∷ []) (sym (append-nil c.self.inside.low.items) ∙ ap (λ xs. c.self.inside.low.items ++ xs) (sym none)) in
    rw (c.mark.ensures, positions) (IsIndexed-marked _ _ c.args.p whole.0 below whole.1)

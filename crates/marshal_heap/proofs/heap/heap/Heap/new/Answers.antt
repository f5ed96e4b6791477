use Rattle.std.proofs.Common.{[], sym, ap₂, ◌∙◌, subst₂}
use Rattle.marshal_heap.specs.heap.Stored.{decode, IsStored}
use Rattle.marshal_heap.proofs.heap.StoredLemmas.{holds_nothing, seen, stored}
use Rattle.marshal_heap.proofs.heap.heap.Heap.new.Goals as goal

pub invariant_of-result : goal.invariant_of-result
invariant_of-result c = subst₂ IsStored (sym c.new.ensures) (sym c.new-2.ensures) (stored [] [] [] holds_nothing)

pub returns : goal.returns
returns c = ap₂ decode c.new.ensures c.new-2.ensures ∙ seen [] [] [] holds_nothing

use Rattle.std.proofs.Common.{◌≡◌, length, refl, ap, arith}
use Rattle.base_data.specs.declared.model.value.Obj.{Obj}
use Rattle.marshal_heap.specs.heap.Heap.{object_at, position, doubles_of, set_double}
use Rattle.marshal_heap.specs.heap.Stored.{decode, IsStored}
use Rattle.marshal_heap.specs.arena.Region.{Contents}
use Rattle.marshal_heap.proofs.heap.StoredLemmas.{held}
use Rattle.marshal_heap.proofs.heap.HeapLemmas.{Replaces-with_double}
use Rattle.marshal_heap.proofs.heap.NewLemmas.{inside_if, words-doubles, code-double}
use Rattle.marshal_heap.proofs.heap.ChangeLemmas.{object_valid, word_inside, remade}
use Rattle.marshal_heap.proofs.heap.heap.Heap.fill_double.Goals as goal

pub set-requires : goal.set-requires
set-requires c =
    let graph = c.args.self.now in
    let inside = inside_if doubles_of graph c.args.o c.args.i refl c.requires in
    word_inside _ _ graph (held _ _ graph c.self.invariant c.self.view_is) c.args.o c.args.i c.position.result inside (words-doubles (object_at graph c.args.o) c.args.i c.requires) c.position.ensures.position

made_here : (c : goal.After-set) → IsStored c.set.new.self.words c.self.inside.positions × (decode c.set.new.self.words c.self.inside.positions ≡ set_double c.args.self.now c.args.o c.args.i c.args.bits)
made_here c =
    let graph = c.args.self.now in
    let object : Obj = object_at graph c.args.o in
    let inside = inside_if doubles_of graph c.args.o c.args.i refl c.requires in
    let h = held _ _ graph c.self.invariant c.self.view_is in
    let valid = object_valid _ _ graph h c.args.o inside in
    remade _ _ graph c.self.invariant c.self.view_is _ c.args.o c.args.i c.position.result c.args.bits _ inside (Replaces-with_double (length graph) c.args.i c.args.bits (omega (arith, c.ranges.bits.fits)) object valid) (code-double (position graph) object c.args.i c.args.bits c.requires) (words-doubles object c.args.i c.requires) c.position.ensures.position (ap (λ (r : Contents). r.words) c.set.ensures)

pub invariant_of-self : goal.invariant_of-self
invariant_of-self c = (made_here c).0

pub returns : goal.returns
returns c = (made_here c).1

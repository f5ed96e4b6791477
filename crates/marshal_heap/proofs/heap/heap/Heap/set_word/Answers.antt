use Rattle.std.proofs.Common.{◌≡◌, suc, length, set, refl, sym, ap, ◌∙◌}
use Rattle.base_data.specs.declared.model.value.Val.{Val}
use Rattle.base_data.specs.declared.model.value.Obj.{Obj}
use Rattle.base_data.specs.model.Graph.{IsValue}
use Rattle.marshal_heap.specs.heap.Heap.{object_at, position, word_of, fields_of, set_field}
use Rattle.marshal_heap.specs.heap.Stored.{decode, IsStored}
use Rattle.marshal_heap.specs.heap.ObjectWords.{code_with}
use Rattle.marshal_heap.proofs.heap.StoredLemmas.{held}
use Rattle.marshal_heap.specs.arena.Region.{Contents}
use Rattle.marshal_heap.proofs.heap.HeapLemmas.{Replaces-with_field}
use Rattle.marshal_heap.proofs.heap.NewLemmas.{inside_if, words-fields, code-field}
use Rattle.marshal_heap.proofs.heap.ChangeLemmas.{object_valid, word_inside, remade}
use Rattle.marshal_heap.proofs.heap.heap.Heap.set_word.Goals as goal

pub set-requires : goal.set-requires
set-requires c =
    let graph = c.args.self.now in
    let inside = inside_if fields_of graph c.args.o c.args.i refl c.requires.position in
    word_inside _ _ graph (held _ _ graph c.self.invariant c.self.view_is) c.args.o c.args.i c.position.result inside (words-fields (object_at graph c.args.o) c.args.i c.requires.position) c.position.ensures.position

-- If `word` is the word of a value, then the written field is this value.
made_here : (c : goal.After-set) (v : Val) → IsValue (length c.args.self.now) v → c.args.word ≡ word_of c.args.self.now v
    → IsStored c.set.new.self.words c.self.inside.positions × (decode c.set.new.self.words c.self.inside.positions ≡ set_field c.args.self.now c.args.o c.args.i v)
made_here c v fits word =
    let graph = c.args.self.now in
    let object : Obj = object_at graph c.args.o in
    let inside = inside_if fields_of graph c.args.o c.args.i refl c.requires.position in
    let valid = object_valid _ _ graph (held _ _ graph c.self.invariant c.self.view_is) c.args.o inside in
    remade _ _ graph c.self.invariant c.self.view_is _ c.args.o c.args.i c.position.result c.args.word _ inside (Replaces-with_field (length graph) c.args.i v fits object valid)
    (code-field (position graph) object c.args.i v c.requires.position ∙ ap (set (code_with (position graph) object) (suc c.args.i)) (sym word))
    (words-fields object c.args.i c.requires.position) c.position.ensures.position (ap (λ (r : Contents). r.words) c.set.ensures)

pub invariant_of-self : goal.invariant_of-self
invariant_of-self c = let given = c.requires.valid in (made_here c given.0 given.1 given.2).0

pub returns : goal.returns
returns c = λ v fits word. (made_here c v fits word).1

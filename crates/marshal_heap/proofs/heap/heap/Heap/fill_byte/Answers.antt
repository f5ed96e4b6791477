use Rattle.std.proofs.Common.{◌≡◌, ◌/◌, ◌%◌, ℕ, suc, List, length, get_or, set, refl, sym, ap, ◌∙◌, arith}
use Rattle.base_data.specs.declared.model.value.Obj.{Obj}
use Rattle.marshal_heap.specs.heap.Heap.{object_at, position, bytes_of, set_byte}
use Rattle.marshal_heap.specs.heap.Stored.{decode, IsStored}
use Rattle.marshal_heap.specs.heap.ObjectWords.{code_with, string_words, word_of_bytes, bytes_of_word}
use Rattle.marshal_heap.specs.arena.Region.{Contents}
use Rattle.marshal_heap.proofs.heap.StoredLemmas.{held}
use Rattle.marshal_heap.proofs.heap.HeapLemmas.{Replaces-with_byte}
use Rattle.marshal_heap.proofs.heap.NewLemmas.{inside_if, words-bytes, code-byte, body-bytes}
use Rattle.marshal_heap.proofs.heap.ChangeLemmas.{object_valid, word_inside, remade, body_word}
use Rattle.marshal_heap.proofs.heap.heap.Heap.fill_byte.Goals as goal

pub get-requires : goal.get-requires
get-requires c =
    let graph = c.args.self.now in
    let inside = inside_if bytes_of graph c.args.o c.args.i refl c.requires in
    word_inside _ _ graph (held _ _ graph c.self.invariant c.self.view_is) c.args.o (c.args.i / 8) c.position.result inside (words-bytes (object_at graph c.args.o) c.args.i c.requires) c.position.ensures.position

pub set-requires : goal.set-requires
set-requires c =
    let graph = c.args.self.now in
    let inside = inside_if bytes_of graph c.args.o c.args.i refl c.requires in
    word_inside _ _ graph (held _ _ graph c.self.invariant c.self.view_is) c.args.o (c.args.i / 8) c.position.result inside (words-bytes (object_at graph c.args.o) c.args.i c.requires) c.position.ensures.position

made_here : (c : goal.After-set) → IsStored c.set.new.self.words c.self.inside.positions × (decode c.set.new.self.words c.self.inside.positions ≡ set_byte c.args.self.now c.args.o c.args.i c.args.b)
made_here c =
    let graph = c.args.self.now in
    let object : Obj = object_at graph c.args.o in
    let inside = inside_if bytes_of graph c.args.o c.args.i refl c.requires in
    let h = held _ _ graph c.self.invariant c.self.view_is in
    let valid = object_valid _ _ graph h c.args.o inside in
    let old : c.get.result ≡ get_or (string_words (bytes_of object)) (c.args.i / 8) 0 =
    c.get.ensures
    ∙ body_word _ _ graph h c.args.o (c.args.i / 8) c.position.result inside (words-bytes object c.args.i c.requires) c.position.ensures.position
    ∙ ap (λ (ws : List ℕ). get_or ws (c.args.i / 8) 0) (body-bytes (position graph) object (omega arith)) in
    let word : c.with_byte-filled.result ≡ word_of_bytes (set (bytes_of_word (get_or (string_words (bytes_of object)) (c.args.i / 8) 0)) (c.args.i % 8) c.args.b) =
    c.with_byte-filled.ensures ∙ ap (λ (w : ℕ). word_of_bytes (set (bytes_of_word w) (c.args.i % 8) c.args.b)) old in
    remade _ _ graph c.self.invariant c.self.view_is _ c.args.o (c.args.i / 8) c.position.result c.with_byte-filled.result _ inside (Replaces-with_byte (length graph) c.args.i c.args.b (omega (arith, c.ranges.b.fits)) object valid) (code-byte (length graph) (position graph) object c.args.i c.args.b c.requires valid ∙ ap (set (code_with (position graph) object) (suc (c.args.i / 8))) (sym word)) (words-bytes object c.args.i c.requires) c.position.ensures.position (ap (λ (r : Contents). r.words) c.set.ensures)

pub invariant_of-self : goal.invariant_of-self
invariant_of-self c = (made_here c).0

pub returns : goal.returns
returns c = (made_here c).1

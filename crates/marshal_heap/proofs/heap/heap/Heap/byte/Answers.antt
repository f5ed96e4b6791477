use Rattle.std.proofs.Common.{◌≡◌, ◌/◌, ◌%◌, ℕ, List, length, get_or, refl, ap, ◌∙◌, arith}
use Rattle.base_data.specs.declared.model.value.Obj.{Obj}
use Rattle.marshal_heap.specs.heap.Heap.{object_at, position, bytes_of}
use Rattle.marshal_heap.specs.heap.ObjectWords.{string_words, bytes_of_word}
use Rattle.marshal_heap.proofs.heap.StoredLemmas.{held}
use Rattle.marshal_heap.proofs.heap.HeapStringLemmas.{byte_in_string}
use Rattle.marshal_heap.proofs.heap.NewLemmas.{inside_if, words-bytes, body-bytes, bytes_valid}
use Rattle.marshal_heap.proofs.heap.ChangeLemmas.{object_valid, body_word, word_inside}
use Rattle.marshal_heap.proofs.heap.heap.Heap.byte.Goals as goal

pub get-requires : goal.get-requires
get-requires c =
    let graph = c.args.self.now in
    let inside = inside_if bytes_of graph c.args.o c.args.i refl c.requires in
    word_inside _ _ graph (held _ _ graph c.self.invariant c.self.view_is) c.args.o (c.args.i / 8) c.position.result inside (words-bytes (object_at graph c.args.o) c.args.i c.requires) c.position.ensures.position

pub returns : goal.returns
unfolding bytes_of_word
returns c =
    let graph = c.args.self.now in
    let object : Obj = object_at graph c.args.o in
    let inside = inside_if bytes_of graph c.args.o c.args.i refl c.requires in
    let h = held _ _ graph c.self.invariant c.self.view_is in
    let word : c.get.result ≡ get_or (string_words (bytes_of object)) (c.args.i / 8) 0 =
    c.get.ensures
    ∙ body_word _ _ graph h c.args.o (c.args.i / 8) c.position.result inside (words-bytes object c.args.i c.requires) c.position.ensures.position
    ∙ ap (λ (ws : List ℕ). get_or ws (c.args.i / 8) 0) (body-bytes (position graph) object (omega arith)) in
    ap (λ (xs : List ℕ). get_or xs (c.args.i % 8) 0) (c.to_le_bytes.ensures ∙ ap bytes_of_word word)
    ∙ byte_in_string (bytes_of object) c.args.i (bytes_valid (length graph) object (omega arith) (object_valid _ _ graph h c.args.o inside)) c.requires

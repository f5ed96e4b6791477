use Rattle.std.proofs.Common.{ℕ, List, get_or, refl, ap, ◌∙◌, arith}
use Rattle.base_data.specs.declared.model.value.Obj.{Obj}
use Rattle.marshal_heap.specs.heap.Heap.{object_at, position, doubles_of}
use Rattle.marshal_heap.proofs.heap.StoredLemmas.{held}
use Rattle.marshal_heap.proofs.heap.NewLemmas.{inside_if, words-doubles, body-doubles}
use Rattle.marshal_heap.proofs.heap.ChangeLemmas.{body_word, word_inside}
use Rattle.marshal_heap.proofs.heap.heap.Heap.double.Goals as goal

pub get-requires : goal.get-requires
get-requires c =
    let graph = c.args.self.now in
    let inside = inside_if doubles_of graph c.args.o c.args.i refl c.requires in
    word_inside _ _ graph (held _ _ graph c.self.invariant c.self.view_is) c.args.o c.args.i c.position.result inside (words-doubles (object_at graph c.args.o) c.args.i c.requires) c.position.ensures.position

pub returns : goal.returns
returns c =
    let graph = c.args.self.now in
    let object : Obj = object_at graph c.args.o in
    let inside = inside_if doubles_of graph c.args.o c.args.i refl c.requires in
    c.get.ensures
    ∙ body_word _ _ graph (held _ _ graph c.self.invariant c.self.view_is) c.args.o c.args.i c.position.result inside (words-doubles object c.args.i c.requires) c.position.ensures.position
    ∙ ap (λ (ws : List ℕ). get_or ws c.args.i 0) (body-doubles (position graph) object (omega arith))

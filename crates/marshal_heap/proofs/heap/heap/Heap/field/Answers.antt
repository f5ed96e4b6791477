use Rattle.std.proofs.Common.{length, get_or, pos, refl, sym, ◌∙◌}
use Rattle.base_data.specs.declared.model.value.Val.TheVariants as vals
use Rattle.marshal_heap.specs.heap.Heap.{object_at, fields_of}
use Rattle.marshal_heap.proofs.heap.StoredLemmas.{held}
use Rattle.marshal_heap.proofs.heap.HeapReadLemmas.{word_of-inj}
use Rattle.marshal_heap.proofs.heap.NewLemmas.{inside_if, words-fields, fields_valid}
use Rattle.marshal_heap.proofs.heap.ChangeLemmas.{object_valid, word_inside, field_word}
use Rattle.marshal_heap.proofs.heap.heap.Heap.field.Goals as goal

pub get-requires : goal.get-requires
get-requires c =
    let graph = c.args.self.now in
    let inside = inside_if fields_of graph c.args.o c.args.i refl c.requires in
    word_inside _ _ graph (held _ _ graph c.self.invariant c.self.view_is) c.args.o c.args.i c.position.result inside (words-fields (object_at graph c.args.o) c.args.i c.requires) c.position.ensures.position

pub value_of-requires : goal.value_of-requires
value_of-requires c =
    let graph = c.args.self.now in
    let inside = inside_if fields_of graph c.args.o c.args.i refl c.requires in
    let valid = object_valid _ _ graph (held _ _ graph c.self.invariant c.self.view_is) c.args.o inside in
    (get_or (fields_of (object_at graph c.args.o)) c.args.i (vals.Int (pos 0)), fields_valid (length graph) (object_at graph c.args.o) c.args.i (vals.Int (pos 0)) c.requires valid, field_word _ _ graph (held _ _ graph c.self.invariant c.self.view_is) c.args.o c.args.i c.position.result c.get.result inside c.requires c.position.ensures.position c.get.ensures)

pub returns-clause-field : goal.returns-clause-field
returns-clause-field c =
    let graph = c.args.self.now in
    let h = held _ _ graph c.self.invariant c.self.view_is in
    let inside = inside_if fields_of graph c.args.o c.args.i refl c.requires in
    let valid = object_valid _ _ graph h c.args.o inside in
    word_of-inj graph c.value_of.result (get_or (fields_of (object_at graph c.args.o)) c.args.i (vals.Int (pos 0))) h.heap.is_graph c.value_of.ensures.valid
    (fields_valid (length graph) (object_at graph c.args.o) c.args.i (vals.Int (pos 0)) c.requires valid)
    (sym c.value_of.ensures.word ∙ field_word _ _ graph h c.args.o c.args.i c.position.result c.get.result inside c.requires c.position.ensures.position c.get.ensures)

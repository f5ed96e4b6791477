use Rattle.std.proofs.Common.{◌≡◌, ◌/◌, ◌<◌, ℕ, List, length, get_or, map, pos, ap, ◌∙◌, arith}
use Rattle.base_data.specs.declared.model.value.Val.TheVariants as vals
use Rattle.base_data.specs.declared.model.value.Obj.{Obj}
use Rattle.marshal_heap.specs.heap.Heap.{object_at, position, word_with, word_of, fields_of}
use Rattle.marshal_heap.proofs.heap.StoredLemmas.{held}
use Rattle.std.proofs.lemmas.List.{get_or-map, length-map}
use Rattle.marshal_heap.proofs.heap.HeapPositionLemmas.{same_from_position}
use Rattle.marshal_heap.proofs.heap.NewLemmas.{body-fields, fields_valid}
use Rattle.marshal_heap.proofs.heap.ChangeLemmas.{many_words, object_valid, body_here, body_inside}
use Rattle.marshal_heap.proofs.heap.heap.Heap.fields_at.Goals as goal

pub body_in-requires-clause-small : goal.body_in-requires-clause-small
body_in-requires-clause-small c =
    let h = held _ _ c.args.self.now c.self.invariant c.self.view_is in
    omega (arith, many_words _ _ _ h, h.heap.words)

pub body_in-requires-clause-inside : goal.body_in-requires-clause-inside
body_in-requires-clause-inside c =
    let at : c.args.word / 8 ≡ position c.args.self.now c.requires.0 = omega (arith, c.requires.2) in
    body_inside _ _ c.args.self.now (held _ _ c.args.self.now c.self.invariant c.self.view_is) c.requires.0 (c.args.word / 8) c.requires.1 at

-- The borrowed words are the words of the fields.
fields_here : (c : goal.After-body_in) → c.body_in.result.now ≡ map (word_of c.args.self.now) (fields_of (object_at c.args.self.now c.requires.0))
fields_here c =
    let at : c.args.word / 8 ≡ position c.args.self.now c.requires.0 = omega (arith, c.requires.2) in
    c.body_in.ensures ∙ body_here _ _ c.args.self.now (held _ _ c.args.self.now c.self.invariant c.self.view_is) c.requires.0 (c.args.word / 8) c.requires.1 at
    ∙ body-fields (position c.args.self.now) (object_at c.args.self.now c.requires.0) c.requires.3

pub returns-clause-words : goal.returns-clause-words
returns-clause-words c = λ k inside named.
    let h = held _ _ c.args.self.now c.self.invariant c.self.view_is in
    let same : c.requires.0 ≡ k = same_from_position c.args.self.now c.requires.0 k h.heap.is_graph c.requires.1 inside (omega (arith, named, c.requires.2)) in
    fields_here c ∙ ap (λ (k : ℕ). map (word_of c.args.self.now) (fields_of (object_at c.args.self.now k))) same

pub returns-clause-valid : goal.returns-clause-valid
returns-clause-valid c = λ j d here.
    let graph = c.args.self.now in
    let object : Obj = object_at graph c.requires.0 in
    let inside : j < length (fields_of object) = omega (arith, ap length (fields_here c), length-map (fields_of object) (word_with (position graph))) in (
      get_or (fields_of object) j (vals.Int (pos 0)),
      fields_valid (length graph) object j (vals.Int (pos 0)) inside (object_valid _ _ graph (held _ _ c.args.self.now c.self.invariant c.self.view_is) c.requires.0 c.requires.1),
      ap (λ (ws : List ℕ). get_or ws j d) (fields_here c) ∙ get_or-map (word_with (position graph)) (fields_of object) j (vals.Int (pos 0)) d inside,
    )

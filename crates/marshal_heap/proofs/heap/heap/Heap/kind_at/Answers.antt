use Rattle.std.proofs.Common.{◌≡◌, ◌/◌, ◌%◌, ℕ, length, sym, ap, ap₂, ◌∙◌, arith}
use Rattle.base_data.specs.declared.model.value.Obj.{Obj}
use Rattle.base_data.specs.model.Graph.{IsObject}
use Rattle.marshal_heap.specs.heap.Heap.{object_at, position}
use Rattle.marshal_heap.specs.heap.Stored.{kind_from}
use Rattle.marshal_heap.specs.heap.ObjectWords.{tag_of, body_with}
use Rattle.marshal_heap.proofs.heap.StoredLemmas.{held}
use Rattle.marshal_heap.proofs.heap.HeapPositionLemmas.{two_words}
use Rattle.marshal_heap.proofs.heap.CodeLemmas.{length-code}
use Rattle.marshal_heap.proofs.heap.StoredLemmas.{tag_small}
use Rattle.marshal_heap.proofs.heap.NewLemmas.{kind_back, custom_fits}
use Rattle.marshal_heap.proofs.heap.ChangeLemmas.{many_words, object_valid, object_small, tag_here, header_inside, body_here, body_inside}
use Rattle.marshal_heap.proofs.heap.heap.Heap.kind_at.Goals as goal

pub get-requires : goal.get-requires
get-requires c =
    let at : c.args.word / 8 ≡ position c.args.self.now c.requires.0 = omega (arith, c.requires.2) in
    header_inside _ _ c.args.self.now (held _ _ c.args.self.now c.self.invariant c.self.view_is) c.requires.0 (c.args.word / 8) c.requires.1 at

pub body_in-requires-clause-small : goal.body_in-requires-clause-small
body_in-requires-clause-small c =
    let h = held _ _ c.args.self.now c.self.invariant c.self.view_is in
    omega (arith, many_words _ _ _ h, h.heap.words)

pub body_in-requires-clause-inside : goal.body_in-requires-clause-inside
body_in-requires-clause-inside c =
    let at : c.args.word / 8 ≡ position c.args.self.now c.requires.0 = omega (arith, c.requires.2) in
    body_inside _ _ c.args.self.now (held _ _ c.args.self.now c.self.invariant c.self.view_is) c.requires.0 (c.args.word / 8) c.requires.1 at

-- The borrowed words are the words after the header.
body_is : (c : goal.After-body_in) → c.body_in.result.now ≡ body_with (position c.args.self.now) (object_at c.args.self.now c.requires.0)
body_is c =
    let at : c.args.word / 8 ≡ position c.args.self.now c.requires.0 = omega (arith, c.requires.2) in
    c.body_in.ensures ∙ body_here _ _ c.args.self.now (held _ _ c.args.self.now c.self.invariant c.self.view_is) c.requires.0 (c.args.word / 8) c.requires.1 at

tag_is : (c : goal.After-body_in) → c.get.result % 1024 ≡ tag_of (object_at c.args.self.now c.requires.0)
tag_is c =
    let at : c.args.word / 8 ≡ position c.args.self.now c.requires.0 = omega (arith, c.requires.2) in
    ap (λ (n : ℕ). n % 1024) c.get.ensures ∙ tag_here _ _ c.args.self.now (held _ _ c.args.self.now c.self.invariant c.self.view_is) c.requires.0 (c.args.word / 8) c.requires.1 at

fits : (c : goal.After-body_in) → IsObject (length c.args.self.now) (object_at c.args.self.now c.requires.0)
fits c = object_valid _ _ c.args.self.now (held _ _ c.args.self.now c.self.invariant c.self.view_is) c.requires.0 c.requires.1

pub kind_of_words-requires-clause-some : goal.kind_of_words-requires-clause-some
kind_of_words-requires-clause-some c =
    let object : Obj = object_at c.args.self.now c.requires.0 in
    omega (arith, ap length (body_is c), length-code (position c.args.self.now) object, two_words (length c.args.self.now) object (fits c))

pub kind_of_words-requires-clause-few : goal.kind_of_words-requires-clause-few
kind_of_words-requires-clause-few c =
    omega (arith, ap length (body_is c), length-code (position c.args.self.now) (object_at c.args.self.now c.requires.0), object_small _ _ c.args.self.now (held _ _ c.args.self.now c.self.invariant c.self.view_is) c.requires.0 c.requires.1)

pub kind_of_words-requires-clause-custom : goal.kind_of_words-requires-clause-custom
kind_of_words-requires-clause-custom c = λ tag.
    rw (body_is c) (custom_fits (length c.args.self.now) (position c.args.self.now) (object_at c.args.self.now c.requires.0) (fits c) (sym (tag_is c) ∙ tag))

pub kind_of_words-requires-clause-tag : goal.kind_of_words-requires-clause-tag
kind_of_words-requires-clause-tag c = omega (arith, tag_is c, tag_small (length c.args.self.now) (object_at c.args.self.now c.requires.0) (fits c))

pub returns : goal.returns
returns c = λ k inside named.
    let h = held _ _ c.args.self.now c.self.invariant c.self.view_is in
    let at : c.args.word / 8 ≡ position c.args.self.now k = omega (arith, named) in
    c.kind_of_words.ensures
    ∙ ap₂ kind_from (ap (λ (n : ℕ). n % 1024) c.get.ensures ∙ tag_here _ _ c.args.self.now h k (c.args.word / 8) inside at) (c.body_in.ensures ∙ body_here _ _ c.args.self.now h k (c.args.word / 8) inside at)
    ∙ kind_back (length c.args.self.now) (position c.args.self.now) (object_at c.args.self.now k) (object_valid _ _ c.args.self.now h k inside)

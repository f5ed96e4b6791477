use Rattle.std.proofs.Common.{ℕ, ◌≡◌, ◌<◌, ◌/◌, suc, length, set, sym, ap, ◌∙◌, arith}
use Rattle.base_data.specs.declared.model.value.Val.{Val}
use Rattle.base_data.specs.declared.model.value.Val.TheVariants as vals
use Rattle.base_data.specs.declared.model.value.Obj.{Obj}
use Rattle.base_data.specs.model.Graph.{IsValue}
use Rattle.marshal_heap.specs.heap.Heap.{object_at, position, word_of, fields_of, set_field}
use Rattle.marshal_heap.specs.heap.Stored.{decode, IsStored}
use Rattle.marshal_heap.specs.heap.ObjectWords.{code_with}
use Rattle.marshal_heap.proofs.heap.StoredLemmas.{held}
use Rattle.marshal_heap.specs.arena.Region.{Contents}
use Rattle.marshal_heap.proofs.heap.HeapLemmas.{Replaces-with_field}
use Rattle.marshal_heap.proofs.heap.NewLemmas.{words-fields, code-field}
use Rattle.marshal_heap.proofs.heap.ChangeLemmas.{object_valid, word_inside, remade}
use Rattle.marshal_heap.proofs.heap.heap.Heap.set_word_at.Goals as goal

pub set-requires : goal.set-requires
set-requires c =
    let graph = c.args.self.now in
    let named = c.requires.position in
    let at : c.args.block / 8 ≡ position graph named.0 = omega (arith, named.2) in
    word_inside _ _ graph (held _ _ graph c.self.invariant c.self.view_is) named.0 c.args.i (c.args.block / 8) named.1 (words-fields (object_at graph named.0) c.args.i named.3) at

-- If `block` refers to object `k` and `word` is the word of a value, then the written field of `k`
-- is this value.
made_here : (c : goal.After-set) (k : ℕ) (v : Val) → k < length c.args.self.now → c.args.block ≡ word_of c.args.self.now (vals.Ref k) → c.args.i < length (fields_of (object_at c.args.self.now k))
    → IsValue (length c.args.self.now) v → c.args.word ≡ word_of c.args.self.now v
    → IsStored c.set.new.self.words c.self.inside.positions × (decode c.set.new.self.words c.self.inside.positions ≡ set_field c.args.self.now k c.args.i v)
made_here c k v inside named few fits word =
    let graph = c.args.self.now in
    let object : Obj = object_at graph k in
    let at : c.args.block / 8 ≡ position graph k = omega (arith, named) in
    let valid = object_valid _ _ graph (held _ _ graph c.self.invariant c.self.view_is) k inside in
    remade _ _ graph c.self.invariant c.self.view_is _ k c.args.i (c.args.block / 8) c.args.word _ inside (Replaces-with_field (length graph) c.args.i v fits object valid)
    (code-field (position graph) object c.args.i v few ∙ ap (set (code_with (position graph) object) (suc c.args.i)) (sym word))
    (words-fields object c.args.i few) at (ap (λ (r : Contents). r.words) c.set.ensures)

pub invariant_of-self : goal.invariant_of-self
invariant_of-self c =
    let named = c.requires.position in
    let given = c.requires.valid in
    (made_here c named.0 given.0 named.1 named.2 named.3 given.1 given.2).0

pub returns : goal.returns
returns c = λ k v inside named few fits word. (made_here c k v inside named few fits word).1

use Rattle.std.proofs.Common.{◌≡◌, ◌++◌, ℕ, List, [], ◌∷◌, length, map, ap, ◌∙◌}
use Rattle.std.specs.Prelude.{All}
use Rattle.base_data.specs.model.Graph.{IsValue}
use Rattle.base_data.specs.declared.model.value.Val.{Val}
use Rattle.base_data.specs.declared.model.value.Obj.TheVariants as objects
use Rattle.marshal_heap.specs.heap.Heap.{position, word_of}
use Rattle.marshal_heap.specs.heap.Stored.{decode, IsStored}
use Rattle.marshal_heap.specs.heap.ObjectWords.{header}
use Rattle.marshal_heap.proofs.heap.StoredLemmas.{held}
use Rattle.marshal_heap.proofs.heap.NewLemmas.{values_of, IsNew-values}
use Rattle.marshal_heap.proofs.heap.ChangeLemmas.{positions_below, many_positions, made}
use Rattle.marshal_heap.proofs.heap.heap.Heap.add_block_of.Goals as goal

pub begin-requires : goal.begin-requires
begin-requires c = positions_below _ _ _ (held _ _ _ c.self.invariant c.self.view_is)

-- If `words` are the words of values, then the appended object is the block of these values.
made_here : (c : goal.After-append_slice) (values : List Val) → All (IsValue (length c.args.self.now)) values → c.args.words.now ≡ map (word_of c.args.self.now) values
    → IsStored c.append_slice.new.self.words c.begin.new.positions × (decode c.append_slice.new.self.words c.begin.new.positions ≡ c.args.self.now ++ objects.Block c.args.tag values ∷ [])
made_here c values valid same =
    let graph = c.args.self.now in
    let begun = c.in_ok-number.ensures {u = tt} in
    let is_new = IsNew-values (length graph) (position graph) c.args.tag values c.args.words.now c.requires.tag c.requires.nonempty c.requires.small valid same in
    made _ _ graph c.self.invariant c.self.view_is _ _ _ _ _ _ _ _ is_new begun.small c.begin.ensures.words c.append_reserved.ensures.words (c.header_word.ensures ∙ ap (λ (t : ℕ). header t (length c.args.words.now)) c.from.ensures) c.append_slice.ensures.words begun.positions.1

pub invariant_of-self-2 : goal.invariant_of-self-2
invariant_of-self-2 c =
    let given = values_of (length c.args.self.now) (position c.args.self.now) c.args.words.now c.requires.valid in
    (made_here c given.0 given.1 given.2).0

pub returns : goal.returns
returns c = λ values valid same. ((c.in_ok-number.ensures {u = tt}).positions.0 ∙ many_positions _ _ _ (held _ _ _ c.self.invariant c.self.view_is), (made_here c values valid same).1)

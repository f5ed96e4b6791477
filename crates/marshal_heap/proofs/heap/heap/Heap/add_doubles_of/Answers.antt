use Rattle.std.proofs.Common.{◌≡◌, [], ◌∷◌, ◌++◌, length, rules, ◌∙◌, arith}
use Rattle.base_data.specs.declared.model.value.Obj.TheVariants as objects
use Rattle.marshal_heap.specs.heap.Stored.{decode, IsStored}
use Rattle.marshal_heap.proofs.heap.StoredLemmas.{held}
use Rattle.marshal_heap.proofs.heap.ChangeLemmas.{positions_below, many_positions, made}
use Rattle.marshal_heap.proofs.heap.NewLemmas.{IsNew-doubles}
use Rattle.marshal_heap.proofs.heap.heap.Heap.add_doubles_of.Goals as goal

pub begin-requires : goal.begin-requires
begin-requires c = positions_below _ _ _ (held _ _ _ c.self.invariant c.self.view_is)

made_here : (c : goal.After-drop-all-2) → IsStored c.append_slice.new.self.words c.begin.new.positions × (decode c.append_slice.new.self.words c.begin.new.positions ≡ c.args.self.now ++ objects.Doubles c.args.all.items ∷ [])
made_here c =
    let begun = c.in_ok-number.ensures {u = tt} in
    made _ _ c.args.self.now c.self.invariant c.self.view_is _ _ _ _ _ _ _ _ (IsNew-doubles (length c.args.self.now) _ c.args.all.items _ _ (omega (arith, c.len-len.ensures, c.args.all.ok.0)) c.deref.ensures.value (omega (arith, c.len-len.ensures, c.requires.nonempty)) (λ k inside. search rules) (omega (arith, c.len-len.ensures, c.requires.small))) begun.small c.begin.ensures.words c.append_reserved.ensures.words c.header_word.ensures c.append_slice.ensures.words begun.positions.1

pub invariant_of-self-2 : goal.invariant_of-self-2
invariant_of-self-2 c = (made_here c).0

pub returns : goal.returns
returns c = ((c.in_ok-number.ensures {u = tt}).positions.0 ∙ many_positions _ _ _ (held _ _ _ c.self.invariant c.self.view_is), (made_here c).1)

use Rattle.std.proofs.Common.{◌≡◌, ℕ, [], ◌∷◌, ◌++◌, length, replicate, pos, ap, ◌∙◌}
use Rattle.base_data.specs.declared.model.value.Val.TheVariants as vals
use Rattle.base_data.specs.declared.model.value.Obj.TheVariants as objects
use Rattle.marshal_heap.specs.heap.Stored.{decode, IsStored}
use Rattle.marshal_heap.proofs.heap.StoredLemmas.{held}
use Rattle.marshal_heap.proofs.heap.ChangeLemmas.{positions_below, many_positions, made}
use Rattle.marshal_heap.specs.heap.ObjectWords.{header}
use Rattle.marshal_heap.proofs.heap.NewLemmas.{IsNew-block}
use Rattle.marshal_heap.proofs.heap.heap.Heap.add_block.Goals as goal

pub begin-requires : goal.begin-requires
begin-requires c = positions_below _ _ _ (held _ _ _ c.self.invariant c.self.view_is)

made_here : (c : goal.After-append_run) → IsStored c.append_run.new.self.words c.begin.new.positions × (decode c.append_run.new.self.words c.begin.new.positions ≡ c.args.self.now ++ objects.Block c.args.tag (replicate c.args.size (vals.Int (pos 0))) ∷ [])
made_here c =
    let begun = c.in_ok-number.ensures {u = tt} in
    made _ _ c.args.self.now c.self.invariant c.self.view_is _ _ _ _ _ _ _ _ (IsNew-block (length c.args.self.now) _ c.args.tag c.args.size c.requires.tag c.requires.nonempty c.requires.small) begun.small c.begin.ensures.words c.append_reserved.ensures.words (c.header_word-header.ensures ∙ ap (λ (t : ℕ). header t c.args.size) c.from.ensures) c.append_run.ensures.words begun.positions.1

pub invariant_of-self-2 : goal.invariant_of-self-2
invariant_of-self-2 c = (made_here c).0

pub returns : goal.returns
returns c = ((c.in_ok-number.ensures {u = tt}).positions.0 ∙ many_positions _ _ _ (held _ _ _ c.self.invariant c.self.view_is), (made_here c).1)

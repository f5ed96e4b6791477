use Rattle.std.proofs.Common.{◌≡◌, ◌<◌, [], ◌∷◌, ◌++◌, length, ◌∙◌, arith}
use Rattle.base_data.specs.declared.model.value.Obj.TheVariants as objects
use Rattle.std.proofs.lemmas.List.Elements.{All-from_get_or}
use Rattle.marshal_heap.specs.heap.Stored.{decode, IsStored}
use Rattle.marshal_heap.proofs.heap.StoredLemmas.{held}
use Rattle.marshal_heap.proofs.heap.ChangeLemmas.{positions_below, many_positions, made}
use Rattle.marshal_heap.proofs.heap.NewLemmas.{IsNew-bytes}
use Rattle.marshal_heap.proofs.heap.heap.Heap.add_bytes_of.Goals as goal

pub begin-requires : goal.begin-requires
begin-requires c = positions_below _ _ _ (held _ _ _ c.self.invariant c.self.view_is)

made_here : (c : goal.After-append_string) → IsStored c.append_string.new.region.words c.begin.new.positions × (decode c.append_string.new.region.words c.begin.new.positions ≡ c.args.self.now ++ objects.Bytes c.args.content.now ∷ [])
made_here c =
    let begun = c.in_ok-number.ensures {u = tt} in
    made _ _ c.args.self.now c.self.invariant c.self.view_is _ _ _ _ _ _ _ _ (IsNew-bytes (length c.args.self.now) _ c.args.content.now (All-from_get_or (λ b. b < 256) c.args.content.now 0 (λ i inside. omega (arith, c.type_inv.content i))) c.requires.small) begun.small c.begin.ensures.words c.append_reserved.ensures.words c.header_word.ensures c.append_string.ensures begun.positions.1

pub invariant_of-self-2 : goal.invariant_of-self-2
invariant_of-self-2 c = (made_here c).0

pub returns : goal.returns
returns c = ((c.in_ok-number.ensures {u = tt}).positions.0 ∙ many_positions _ _ _ (held _ _ _ c.self.invariant c.self.view_is), (made_here c).1)

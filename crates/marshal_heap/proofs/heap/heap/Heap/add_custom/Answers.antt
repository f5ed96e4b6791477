use Rattle.std.proofs.Common.{◌≡◌, ℕ, [], ◌∷◌, ◌++◌, length, rules, sym, ap, ◌∙◌}
use Rattle.marshal_heap.specs.heap.Stored.{decode, IsStored}
use Rattle.marshal_heap.proofs.heap.StoredLemmas.{held}
use Rattle.marshal_heap.proofs.heap.ChangeLemmas.{positions_below, many_positions, made}
use Rattle.marshal_heap.specs.heap.Heap.{custom_object}
use Rattle.marshal_heap.specs.heap.ObjectWords.{header}
use Rattle.marshal_heap.proofs.heap.NewLemmas.{IsNew-custom, custom_tag}
use Rattle.marshal_heap.proofs.heap.heap.Heap.add_custom.Goals as goal

pub begin-requires : goal.begin-requires
begin-requires c = positions_below _ _ _ (held _ _ _ c.self.invariant c.self.view_is)

made_here : (c : goal.After-append_custom) → IsStored c.append_custom.new.region.words c.begin.new.positions × (decode c.append_custom.new.region.words c.begin.new.positions ≡ c.args.self.now ++ custom_object c.args.c ∷ [])
made_here c =
    let begun = c.in_ok-number.ensures {u = tt} in
    made _ _ c.args.self.now c.self.invariant c.self.view_is _ _ _ _ _ _ _ _ (IsNew-custom (length c.args.self.now) _ c.args.c (search rules)) begun.small c.begin.ensures.words c.append_reserved.ensures.words (c.header_word.ensures ∙ ap (λ (t : ℕ). header t 2) (sym (custom_tag c.args.c))) c.append_custom.ensures begun.positions.1

pub invariant_of-self-2 : goal.invariant_of-self-2
invariant_of-self-2 c = (made_here c).0

pub returns : goal.returns
returns c = ((c.in_ok-number.ensures {u = tt}).positions.0 ∙ many_positions _ _ _ (held _ _ _ c.self.invariant c.self.view_is), (made_here c).1)

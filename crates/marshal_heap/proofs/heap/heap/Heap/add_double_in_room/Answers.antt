use Rattle.std.proofs.Common.{◌≡◌, ◌*◌, List, [], ◌∷◌, ◌++◌, length, refl, sym, ap, ◌∙◌, arith}
use Rattle.base_data.specs.declared.model.value.Val.TheVariants as vals
use Rattle.base_data.specs.declared.model.value.Obj.{Obj}
use Rattle.base_data.specs.declared.model.value.Obj.TheVariants as objects
use Rattle.marshal_heap.specs.heap.Heap.{word_of}
use Rattle.marshal_heap.specs.heap.Stored.{decode, IsStored}
use Rattle.marshal_heap.proofs.heap.StoredLemmas.{held}
use Rattle.marshal_heap.proofs.heap.ChangeLemmas.{positions_below, many_words, made}
use Rattle.marshal_heap.proofs.heap.NewLemmas.{IsNew-double}
use Rattle.marshal_heap.proofs.heap.HeapReadLemmas.{word_of-next}
use Rattle.marshal_heap.proofs.heap.heap.Heap.add_double_in_room.Goals as goal

pub begin_in_room-requires : goal.begin_in_room-requires
begin_in_room-requires c = positions_below _ _ _ (held _ _ _ c.self.invariant c.self.view_is)

made_here : (c : goal.After-append_reserved-2) → IsStored c.append_reserved-2.new.self.words c.begin_in_room.new.positions × (decode c.append_reserved-2.new.self.words c.begin_in_room.new.positions ≡ c.args.self.now ++ objects.Double c.args.bits ∷ [])
made_here c =
    let begun = c.if-not-begin_in_room.ensures in
    made _ _ c.args.self.now c.self.invariant c.self.view_is c.self.inside.region.words _ _ _ _ _ _ _ (IsNew-double (length c.args.self.now) _ c.args.bits (omega (arith, c.ranges.bits.fits))) begun.small refl c.append_reserved.ensures.words c.header_word.ensures c.append_reserved-2.ensures.words begun.positions

pub invariant_of-self-2 : goal.invariant_of-self-2
invariant_of-self-2 c = (made_here c).0

pub returns : goal.returns
returns c =
    let graph : List Obj = c.args.self.now in
    let made_is = (made_here c).1 in (
      ap (λ n. 8 * n) (c.len-position.ensures.len ∙ many_words _ _ graph (held _ _ graph c.self.invariant c.self.view_is))
          ∙ sym (ap (λ (all : List Obj). word_of all (vals.Ref (length graph))) made_is ∙ word_of-next graph (objects.Double c.args.bits)),
      made_is,
    )

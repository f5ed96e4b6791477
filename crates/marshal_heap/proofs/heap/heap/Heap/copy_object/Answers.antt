use Rattle.std.proofs.Common.{◌≡◌, ◌+◌, ◌-◌, ◌/◌, ℕ, List, ◌++◌, [], ◌∷◌, length, take, drop, ap, ap₂, ◌∙◌, arith}
use Rattle.base_data.specs.declared.model.value.Obj.{Obj}
use Rattle.marshal_heap.specs.heap.Heap.{object_at, object_words, position}
use Rattle.marshal_heap.specs.heap.Stored.{decode, IsStored}
use Rattle.marshal_heap.proofs.heap.StoredLemmas.{held}
use Rattle.marshal_heap.proofs.heap.CodeLemmas.{length-code}
use Rattle.marshal_heap.proofs.heap.ChangeLemmas.{positions_below, many_positions, object_valid, object_small, many_words, header_inside, body_inside, size_here, code_at, made_code}
use Rattle.marshal_heap.proofs.heap.heap.Heap.copy_object.Goals as goal

pub get-size-requires : goal.get-size-requires
get-size-requires c = header_inside _ _ c.args.self.now (held _ _ _ c.self.invariant c.self.view_is) c.args.o c.position-from.result c.requires c.position-from.ensures.position

pub begin-requires : goal.begin-requires
begin-requires c = positions_below _ _ _ (held _ _ _ c.self.invariant c.self.view_is)

pub append_copy-requires-clause-inside : goal.append_copy-requires-clause-inside
append_copy-requires-clause-inside c =
    let graph = c.args.self.now in
    let h = held _ _ graph c.self.invariant c.self.view_is in
    omega (arith, ap length c.begin.ensures.words, ap (λ (n : ℕ). n / 1024) c.get-size.ensures, body_inside _ _ graph h c.args.o c.position-from.result c.requires c.position-from.ensures.position)

pub append_copy-requires-clause-small : goal.append_copy-requires-clause-small
append_copy-requires-clause-small c =
    let graph = c.args.self.now in
    let h = held _ _ graph c.self.invariant c.self.view_is in
    omega (arith, ap (λ (n : ℕ). n / 1024) c.get-size.ensures, body_inside _ _ graph h c.args.o c.position-from.result c.requires c.position-from.ensures.position, many_words _ _ _ h, h.heap.words)

made_here : (c : goal.After-append_copy) → IsStored c.append_copy.new.region.words c.begin.new.positions × (decode c.append_copy.new.region.words c.begin.new.positions ≡ c.args.self.now ++ object_at c.args.self.now c.args.o ∷ [])
made_here c =
    let graph = c.args.self.now in
    let object : Obj = object_at graph c.args.o in
    let h = held _ _ graph c.self.invariant c.self.view_is in
    let begun = c.in_ok-number.ensures {u = tt} in
    let size : 1 + c.get-size.result / 1024 ≡ object_words object =
    omega (arith, ap (λ (n : ℕ). n / 1024) c.get-size.ensures ∙ size_here _ _ graph h c.args.o c.position-from.result c.requires c.position-from.ensures.position, length-code (position graph) object) in
    let count : c.position-from.result + (1 + c.get-size.result / 1024) - c.position-from.result ≡ object_words object = omega arith in
    let code =
    ap (λ (ws : List ℕ). take (c.position-from.result + (1 + c.get-size.result / 1024) - c.position-from.result) (drop c.position-from.result ws)) c.begin.ensures.words
    ∙ ap₂ (λ n p. take n (drop p c.self.inside.region.words)) count c.position-from.ensures.position
    ∙ code_at _ _ graph h c.args.o c.requires in
    made_code _ _ graph c.self.invariant c.self.view_is _ _ _ _ object (object_valid _ _ graph h c.args.o c.requires) (object_small _ _ graph h c.args.o c.requires) (omega (arith, begun.small)) c.begin.ensures.words c.append_copy.ensures code begun.positions.1

pub invariant_of-self-2 : goal.invariant_of-self-2
invariant_of-self-2 c = (made_here c).0

pub returns : goal.returns
returns c = ((c.in_ok-number.ensures {u = tt}).positions.0 ∙ many_positions _ _ _ (held _ _ _ c.self.invariant c.self.view_is), (made_here c).1)

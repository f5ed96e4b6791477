use Rattle.std.proofs.Common.{ℕ, ◌∙◌, List, refl, sym, subst, arith, pos}
use Rattle.std.specs.Prelude.{Ok}
use Rattle.marshal_spec.specs.format.Isomorphism.{Agree}
use Rattle.marshal_heap.specs.isomorphism.Meeting.{AreMet, CannotMeet, Meets}
use Rattle.base_data.specs.model.Graph.{IsValue}
use Rattle.base_data.specs.declared.model.value.Val.TheVariants as vals
use Rattle.marshal_heap.specs.heap.Heap.{object_at, fields_of}
use Rattle.marshal_heap.proofs.isomorphism.IsomorphismFieldLemmas.{fields_none, fields_more, fields_cannot, fields_all}
use Rattle.marshal_heap.proofs.isomorphism.compare.meet_fields.Goals as goal

pub loop-i-init : goal.loop-i-init
loop-i-init c = record { met = fields_none c.args.pairing.now.pairs; lefts = refl; rights = refl }

pub meet_values-requires-clause-left : goal.meet_values-requires-clause-left
meet_values-requires-clause-left c = subst (λ n. IsValue n c.field.result) (sym (c.loop-i.invariant.lefts ∙ c.requires.lefts)) c.field.ensures.valid

pub meet_values-requires-clause-right : goal.meet_values-requires-clause-right
meet_values-requires-clause-right c = subst (λ n. IsValue n c.field-in-loop-i.result) (sym (c.loop-i.invariant.rights ∙ c.requires.rights)) c.field-in-loop-i.ensures.valid

pub returns-then-not-branch-clause-meets : goal.returns-then-not-branch-clause-meets
returns-then-not-branch-clause-meets c =
    let fields = fields_of (object_at c.args.left.now c.args.k) in
    let fields' = fields_of (object_at c.args.right.now c.args.l) in
    let agree : List (ℕ × ℕ) → Type 0 = λ all. Agree all c.field.result c.field-in-loop-i.result in
    let no : CannotMeet c.loop-i.pairing.pairs agree = subst (λ b. Meets c.loop-i.pairing.pairs c.meet_values.new.self.pairs agree (Ok b)) c.if-not-branch.true c.in_ok-meet_values.ensures.meets in
    fields_cannot c.args.pairing.now.pairs c.loop-i.pairing.pairs fields fields' c.loop-i.i (vals.Int (pos 0)) (vals.Int (pos 0)) c.field.result c.field-in-loop-i.result
    (omega (arith, c.requires.left)) (omega (arith, c.requires.right)) c.field.ensures.field c.field-in-loop-i.ensures.field c.loop-i.invariant.met no

pub loop-i-preserved : goal.loop-i-preserved
loop-i-preserved c =
    let fields = fields_of (object_at c.args.left.now c.args.k) in
    let fields' = fields_of (object_at c.args.right.now c.args.l) in
    let agree : List (ℕ × ℕ) → Type 0 = λ all. Agree all c.field.result c.field-in-loop-i.result in
    let met : AreMet c.loop-i.pairing.pairs c.meet_values.new.self.pairs agree = subst (λ b. Meets c.loop-i.pairing.pairs c.meet_values.new.self.pairs agree (Ok b)) c.if-not-branch.false c.in_ok-meet_values.ensures.meets in record {
      met = fields_more c.args.pairing.now.pairs c.loop-i.pairing.pairs c.meet_values.new.self.pairs fields fields' c.loop-i.i (vals.Int (pos 0)) (vals.Int (pos 0)) c.field.result c.field-in-loop-i.result
          (omega (arith, c.requires.left)) (omega (arith, c.requires.right)) c.field.ensures.field c.field-in-loop-i.ensures.field c.loop-i.invariant.met met;
      lefts = c.in_ok-meet_values.ensures.lefts ∙ c.loop-i.invariant.lefts;
      rights = c.in_ok-meet_values.ensures.rights ∙ c.loop-i.invariant.rights;
    }

pub returns-clause-meets : goal.returns-clause-meets
returns-clause-meets c =
    fields_all c.args.pairing.now.pairs c.loop-i.pairing.pairs (fields_of (object_at c.args.left.now c.args.k)) (fields_of (object_at c.args.right.now c.args.l)) c.loop-i.i
    (omega (arith, c.requires.left)) (omega (arith, c.requires.right)) c.loop-i.invariant.met

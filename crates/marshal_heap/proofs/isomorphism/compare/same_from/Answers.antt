use Rattle.std.proofs.Common.{ℕ, ◌∙◌, List, [], length, refl, subst, arith}
use Rattle.std.specs.Prelude.{Ok}
use Rattle.std.proofs.lemmas.Bool.{false≢true}
use Rattle.marshal_spec.specs.format.Isomorphism.{Agree, AgreeObjects}
use Rattle.marshal_heap.specs.heap.Heap.{object_at}
use Rattle.marshal_heap.specs.isomorphism.Meeting.{AreInRange, AreMet, CannotMeet, Meets}
use Rattle.marshal_heap.proofs.isomorphism.SoFarLemmas.{so_far_first, so_far_more, not_same, not_same_first, all_same}
use Rattle.marshal_heap.proofs.isomorphism.compare.same_from.Goals as goal

pub returns-then-not-branch : goal.returns-then-not-branch
returns-then-not-branch c =
    let agree : List (ℕ × ℕ) → Type 0 = λ all. Agree all c.args.v c.args.w in
    let no : CannotMeet c.args.pairing.now.pairs agree = subst (λ b. Meets c.args.pairing.now.pairs c.meet_values.new.self.pairs agree (Ok b)) c.if-not-branch.true c.in_ok-meet_values.ensures.meets in
    let cannot : CannotMeet [] agree = subst (λ pairs. CannotMeet pairs agree) c.requires.empty no in
    (λ f. absurd (false≢true f), λ isomorphism. absurd (not_same_first c.args.left.now c.args.right.now c.args.v c.args.w cannot isomorphism))

pub loop-i-init : goal.loop-i-init
loop-i-init c =
    let agree : List (ℕ × ℕ) → Type 0 = λ all. Agree all c.args.v c.args.w in
    let met : AreMet c.args.pairing.now.pairs c.meet_values.new.self.pairs agree = subst (λ b. Meets c.args.pairing.now.pairs c.meet_values.new.self.pairs agree (Ok b)) c.if-not-branch.false c.in_ok-meet_values.ensures.meets in
    let first : AreMet [] c.meet_values.new.self.pairs agree = subst (λ pairs. AreMet pairs c.meet_values.new.self.pairs agree) c.requires.empty met in record {
      far = so_far_first c.args.left.now c.args.right.now c.args.v c.args.w c.meet_values.new.self.pairs first;
      lefts = c.in_ok-meet_values.ensures.lefts ∙ c.requires.lefts;
      rights = c.in_ok-meet_values.ensures.rights ∙ c.requires.rights;
    }

pub returns-then-not-branch-2 : goal.returns-then-not-branch-2
returns-then-not-branch-2 c =
    let k = c.pair-k.result.0 in
    let l = c.pair-k.result.1 in
    let agree : List (ℕ × ℕ) → Type 0 = λ all. AgreeObjects all (object_at c.args.left.now k) (object_at c.args.right.now l) in
    let no : CannotMeet c.loop-i.pairing.pairs agree = subst (λ b. Meets c.loop-i.pairing.pairs c.meet_contents.new.pairing.pairs agree (Ok b)) c.if-not-branch-2.true c.in_ok-meet_contents.ensures.meets in (
      λ f. absurd (false≢true f),
      λ isomorphism. absurd (not_same c.args.left.now c.args.right.now c.args.v c.args.w c.loop-i.pairing.pairs c.loop-i.i k l c.loop-i.invariant.far c.pair-k.ensures.pair no isomorphism),
    )

pub loop-i-preserved : goal.loop-i-preserved
loop-i-preserved c =
    let k = c.pair-k.result.0 in
    let l = c.pair-k.result.1 in
    let agree : List (ℕ × ℕ) → Type 0 = λ all. AgreeObjects all (object_at c.args.left.now k) (object_at c.args.right.now l) in
    let met : AreMet c.loop-i.pairing.pairs c.meet_contents.new.pairing.pairs agree = subst (λ b. Meets c.loop-i.pairing.pairs c.meet_contents.new.pairing.pairs agree (Ok b)) c.if-not-branch-2.false c.in_ok-meet_contents.ensures.meets in record {
      far = so_far_more c.args.left.now c.args.right.now c.args.v c.args.w c.loop-i.pairing.pairs c.meet_contents.new.pairing.pairs c.loop-i.i k l c.loop-i.invariant.far c.pair-k.ensures.pair met;
      lefts = c.in_ok-meet_contents.ensures.lefts ∙ c.loop-i.invariant.lefts;
      rights = c.in_ok-meet_contents.ensures.rights ∙ c.loop-i.invariant.rights;
    }

pub returns : goal.returns
returns c =
    let pairs = c.loop-i.pairing.pairs in
    let in_range : AreInRange pairs (length c.args.left.now) (length c.args.right.now) = subst (λ n. AreInRange pairs n (length c.args.right.now)) c.loop-i.invariant.lefts (subst (λ n. AreInRange pairs c.loop-i.pairing.lefts n) c.loop-i.invariant.rights c.len.ensures.in_range) in (
      λ _. all_same c.args.left.now c.args.right.now c.args.v c.args.w pairs c.loop-i.i c.len.ensures.one_to_one in_range (omega arith) c.loop-i.invariant.far,
      λ _. refl,
    )

use Rattle.std.proofs.Common.{ℕ, List, ◌+◌, ◌-◌, ◌≡◌, ◌∙◌, length, length-set, sym, ap, subst, arith}
use Rattle.marshal_write.specs.write.Marks.{marks_of}
use Rattle.marshal_write.proofs.graft.GraftOrderLemmas.{AreOrdered, many_marked, unmarked_next, marked_next, all_ordered}
use Rattle.marshal_write.proofs.graft.write_order.order_of.Goals as goal
use Rattle.marshal_write.proofs.graft.write_order.order_of.Goals.{then-mark-ne0, else-mark-ne0}

pub loop-k-preserved : goal.loop-k-preserved
loop-k-preserved c =
    let marks = marks_of c.args.numbers.now.marks in
    elim c.if-mark-ne0.branch [
      | then-mark-ne0 w ↦ record {
        many = ap (λ v. length v.items) w.order-is ∙ length-set c.loop-k.order.items (c.get-mark.result - 1) c.loop-k.k ∙ c.loop-k.invariant.many;
        ordered = λ g ks marked.
            let many : c.last_mark-last.result ≡ length ks = many_marked g ks marks marked c.last_mark-last.result
            (λ k inside. c.last_mark-last.ensures.most k (omega (arith, inside)))
            (λ n below. c.last_mark-last.ensures.least n (λ k inside. below k (omega (arith, inside)))) in
            subst (λ (order : List ℕ). AreOrdered g ks marks marked order (c.loop-k.k + 1)) (sym (ap (λ v. v.items) w.order-is))
            (marked_next g ks marks marked c.loop-k.order.items c.loop-k.k c.get-mark.result (c.loop-k.invariant.many ∙ many) (sym c.get-mark.ensures) w.if-mark-ne0.true (c.loop-k.invariant.ordered g ks marked));
      }
      | else-mark-ne0 w ↦ record {
        many = ap (λ v. length v.items) w.order-is ∙ c.loop-k.invariant.many;
        ordered = λ g ks marked.
            subst (λ (order : List ℕ). AreOrdered g ks marks marked order (c.loop-k.k + 1)) (sym (ap (λ v. v.items) w.order-is))
            (unmarked_next g ks marks marked c.loop-k.order.items c.loop-k.k (sym c.get-mark.ensures ∙ w.if-mark-ne0.false) (c.loop-k.invariant.ordered g ks marked));
      }
    ]

pub returns : goal.returns
returns c = λ g ks marked.
    let marks = marks_of c.args.numbers.now.marks in
    let many : c.last_mark-last.result ≡ length ks = many_marked g ks marks marked c.last_mark-last.result
    (λ k inside. c.last_mark-last.ensures.most k (omega (arith, inside)))
    (λ n below. c.last_mark-last.ensures.least n (λ k inside. below k (omega (arith, inside)))) in
    all_ordered g ks marks marked c.loop-k.order.items c.loop-k.k (c.loop-k.invariant.many ∙ many) (omega (arith, marked.size)) marked.size (c.loop-k.invariant.ordered g ks marked)

use Rattle.std.proofs.Common.{ℕ, ◌<◌, ◌≤◌, ◌≡◌, ◌≢◌, ◌+◌, List, ⊎_elim, sym, subst, arith}
use Rattle.std.specs.Prelude.{slice_index}
use Rattle.std.proofs.lemmas.Bool.{cases_eq}
use Rattle.marshal_write.specs.write.Marks.{marks_of}
use Rattle.marshal_write.proofs.graft.write_order.last_mark.Goals as goal
use Rattle.marshal_write.proofs.graft.write_order.last_mark.Goals.{then-mark-last, else-mark-last}

next_most : (marks : List ℕ) (k last next : ℕ) → last ≤ next → slice_index marks k ≤ next → ((m : ℕ) → m < k → slice_index marks m ≤ last)
    → (m : ℕ) → m < k + 1 → slice_index marks m ≤ next
next_most marks k last next more here before m less = ⊎_elim
    (λ (same : m ≡ k). subst (λ m. slice_index marks m ≤ next) (sym same) here)
    (λ (other : m ≢ k). let earlier = before m (omega (arith, less, other)) in omega (arith, earlier, more)) (cases_eq m k)

pub loop-k-preserved : goal.loop-k-preserved
loop-k-preserved c =
    let marks = marks_of c.args.numbers.now.marks in
    elim c.if-mark-last.branch [
      | then-mark-last w ↦ record {
        most = next_most marks c.loop-k.k c.loop-k.last c.if-mark-last.last (omega (arith, w.last-is, w.if-mark-last.true)) (omega (arith, w.last-is, c.get-mark.ensures)) c.loop-k.invariant.most;
        least = λ n below. let here = below c.loop-k.k c.loop-k-test.true in omega (arith, here, w.last-is, c.get-mark.ensures);
      }
      | else-mark-last w ↦ record {
        most = next_most marks c.loop-k.k c.loop-k.last c.if-mark-last.last (omega (arith, w.last-is)) (omega (arith, w.last-is, c.get-mark.ensures, w.if-mark-last.false)) c.loop-k.invariant.most;
        least = λ n below. let before = c.loop-k.invariant.least n below in omega (arith, before, w.last-is);
      }
    ]

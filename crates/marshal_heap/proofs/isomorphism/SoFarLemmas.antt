-- Lemmas on the comparison of two values object by object.
use Rattle.std.proofs.Common.{ℕ, ◌≡◌, ◌+◌, ◌<◌, ◌≤◌, ◌∙◌, ◌⊎◌, inl, inr, List, [], length, get_or, Some, sym, ap, subst, arith, pos}
use Rattle.std.specs.Prelude.{slice_get, Contains}
use Rattle.std.proofs.lemmas.Bool.{cases_lt}
use Rattle.std.proofs.lemmas.Option.{same_Some, slice_get-get_or, slice_get_within}
use Rattle.base_data.proofs.model.Options.{slice_get-Contains, Contains-none}
use Rattle.base_data.specs.declared.model.value.Val.{Val}
use Rattle.base_data.specs.declared.model.value.Obj.{Obj}
use Rattle.base_data.specs.declared.model.value.Obj.TheVariants as objects
use Rattle.base_data.proofs.model.Lists.{slice_get-append_left}
use Rattle.marshal_spec.specs.format.Isomorphism.{Agree, AgreeObjects, IsPairing, Isomorphism}
use Rattle.marshal_heap.specs.heap.Heap.{object_at}
use Rattle.marshal_heap.specs.isomorphism.Meeting.{AreOneToOne, StandInPrefix, AreMet, CannotMeet}
use Rattle.marshal_heap.specs.isomorphism.SoFar.{IsSoFar}
use Rattle.marshal_heap.proofs.isomorphism.IndexLemmas.{pair_contained}
use Rattle.marshal_heap.proofs.isomorphism.MeetingLemmas.{among_prefix}
use Rattle.marshal_spec.proofs.canonical.IsomorphismLemmas.{Agree-more, AgreeObjects-more, objects_of_pair, agree_at}

-- If a pairing contains a pair, then the two objects of the pair agree.
pair_agree : (g h : List Obj) (all : List (ℕ × ℕ)) (k l : ℕ) → IsPairing g h all → Contains all (k, l) → AgreeObjects all (object_at g k) (object_at h l)
pair_agree g h all k l pairing among =
    let o = objects_of_pair g h all k l pairing among in
    let left : o.left ≡ object_at g k = same_Some o.left (object_at g k) (sym o.left_is ∙ slice_get-get_or g k (objects.I32 (pos 0)) (slice_get_within g k o.left o.left_is)) in
    let right : o.right ≡ object_at h l = same_Some o.right (object_at h l) (sym o.right_is ∙ slice_get-get_or h l (objects.I32 (pos 0)) (slice_get_within h l o.right o.right_is)) in
    subst (λ x. AgreeObjects all x (object_at h l)) left (subst (λ y. AgreeObjects all o.left y) right o.agree)

-- If the roots agree under the first pairs, then `IsSoFar` holds for zero compared pairs.
pub so_far_first : (g h : List Obj) (v w : Val) (pairs : List (ℕ × ℕ)) → AreMet [] pairs (λ all. Agree all v w) → IsSoFar g v h w pairs 0
so_far_first g h v w pairs met = record {
  root = met.agree_now;
  done = λ i k l less is. absurd (omega arith);
  needed = λ all pairing agree. met.needed all pairing.one_to_one (λ k l none. absurd (Contains-none (k, l) none)) agree;
}

done_more : (g h : List Obj) (v w : Val) (old new : List (ℕ × ℕ)) (n k l : ℕ) → IsSoFar g v h w old n → slice_get old n ≡ Some (k, l) → StandInPrefix old new → AgreeObjects new (object_at g k) (object_at h l) → (i p q : ℕ) → (i < n) ⊎ (n ≤ i) → i < n + 1 → slice_get new i ≡ Some (p, q) → AgreeObjects new (object_at g p) (object_at h q)
done_more g h v w old new n k l far at_n prefix agree i p q (inl less) below is =
    let inside : n < length old = slice_get_within old n (k, l) at_n in
    let was = slice_get-get_or old i (p, q) (omega arith) in
    let moved : slice_get new i ≡ Some (get_or old i (p, q)) = subst (λ all. slice_get all i ≡ Some (get_or old i (p, q))) (sym prefix.1) (slice_get-append_left old prefix.0 i (get_or old i (p, q)) was) in
    let at_i : slice_get old i ≡ Some (p, q) = was ∙ sym moved ∙ is in
    AgreeObjects-more old new (object_at g p) (object_at h q) (among_prefix old new prefix) (far.done i p q less at_i)
done_more g h v w old new n k l far at_n prefix agree i p q (inr past) below is =
    let here : i ≡ n = omega arith in
    let moved : slice_get new n ≡ Some (k, l) = subst (λ all. slice_get all n ≡ Some (k, l)) (sym prefix.1) (slice_get-append_left old prefix.0 n (k, l) at_n) in
    let same : ◌≡◌ {A = ℕ × ℕ} (k, l) (p, q) = same_Some (k, l) (p, q) (sym moved ∙ ap (slice_get new) (sym here) ∙ is) in
    subst (λ (r : ℕ × ℕ). AgreeObjects new (object_at g r.0) (object_at h r.1)) same agree

-- If the objects of pair `n` agree under the new pairs, then `IsSoFar` holds for `n + 1` compared
-- pairs.
pub so_far_more : (g h : List Obj) (v w : Val) (old new : List (ℕ × ℕ)) (n k l : ℕ) → IsSoFar g v h w old n → slice_get old n ≡ Some (k, l) → AreMet old new (λ all. AgreeObjects all (object_at g k) (object_at h l)) → IsSoFar g v h w new (n + 1)
so_far_more g h v w old new n k l far at_n met = record {
  root = Agree-more old new v w (among_prefix old new met.kept) far.root;
  done = λ i p q below is. done_more g h v w old new n k l far at_n met.kept met.agree_now i p q (cases_lt i n) below is;
  needed = λ all pairing agree.
      let among = far.needed all pairing agree in
      met.needed all pairing.one_to_one among (pair_agree g h all k l pairing (among k l (slice_get-Contains old n (k, l) at_n)));
}

-- If the objects of a pair cannot agree, then the values are not isomorphic.
pub not_same : (g h : List Obj) (v w : Val) (old : List (ℕ × ℕ)) (n k l : ℕ) → IsSoFar g v h w old n → slice_get old n ≡ Some (k, l) → CannotMeet old (λ all. AgreeObjects all (object_at g k) (object_at h l)) → Isomorphism g v h w → ⊥
not_same g h v w old n k l far at_n cannot (all, pairing, agree) =
    let among = far.needed all pairing agree in
    cannot all pairing.one_to_one among (pair_agree g h all k l pairing (among k l (slice_get-Contains old n (k, l) at_n)))

pub not_same_first : (g h : List Obj) (v w : Val) → CannotMeet [] (λ all. Agree all v w) → Isomorphism g v h w → ⊥
not_same_first g h v w cannot (all, pairing, agree) = cannot all pairing.one_to_one (λ k l none. absurd (Contains-none (k, l) none)) agree

-- If the objects of all pairs agree, then the values are isomorphic.
pub all_same : (g h : List Obj) (v w : Val) (pairs : List (ℕ × ℕ)) (n : ℕ) → AreOneToOne pairs → ((k l : ℕ) → Contains pairs (k, l) → (k < length g) × (l < length h)) → length pairs ≤ n → IsSoFar g v h w pairs n → Isomorphism g v h w
all_same g h v w pairs n one_to_one there all_done far = (
  pairs,
  record {
    one_to_one = one_to_one;
    agree = λ k l among.
        let at = pair_contained pairs k l among in
        let inside = slice_get_within pairs at.0 (k, l) at.1 in
        let less = there k l among in
        agree_at g h pairs k l (object_at g k) (object_at h l) (slice_get-get_or g k (objects.I32 (pos 0)) less.0) (slice_get-get_or h l (objects.I32 (pos 0)) less.1)
        (far.done at.0 k l (omega arith) at.1);
  },
  far.root,
)

-- Lemmas on tables from an object's number to the object's pair.
use Rattle.std.proofs.Common.{ℕ, zero, suc, ◌≡◌, ◌≢◌, ◌+◌, ◌<◌, ◌∙◌, ◌⊎◌, inl, inr, ⊎_elim, cond, eqb, List, [], ◌∷◌, ◌++◌, length, map, get_or, set, Some, refl, sym, ap, subst, arith, get_or-set_other, get_or-set_same, append-nil, ne_eqb, false}
use Rattle.std.specs.Prelude.{slice_get, Contains, option_map}
use Rattle.std.proofs.lemmas.Bool.{cases_lt}
use Rattle.std.proofs.lemmas.List.{get_or_past, length-set, length_push}
use Rattle.std.proofs.lemmas.List.Sums.{sum_by-set}
use Rattle.std.proofs.lemmas.List.Elements.{Contains-push, Contains-push_cases}
use Rattle.std.proofs.lemmas.Option.{same_Some, none-some, slice_get-get_or, slice_get-map}
use Rattle.base_data.proofs.model.Options.{slice_get-Contains, same_or_not}
use Rattle.base_data.proofs.model.Lists.{slice_get-append_left}
use Rattle.marshal_heap.specs.isomorphism.Paired.{left_of, right_of, IsNew, IsIndex}
use Rattle.marshal_heap.specs.isomorphism.Meeting.{AreOneToOne, AreMet, CannotMeet}
use Rattle.marshal_spec.proofs.canonical.CanonicalListLemmas.{slice_get_push, slice_get_push_cases}

-- ---- consequences of an index

pub new_at_zero : (table keys : List ℕ) (k : ℕ) → IsIndex table keys → get_or table k 0 ≡ 0 → IsNew keys k
new_at_zero table keys k index at_zero i is = let e = index.found i k is in omega arith

zero_at : (table keys : List ℕ) (k n : ℕ) → IsIndex table keys → IsNew keys k → get_or table k 0 ≡ n → n ≡ 0
zero_at table keys k zero index new e = refl
zero_at table keys k (suc i) index new e = absurd (new i (index.named i k e))

pub zero_at_new : (table keys : List ℕ) (k : ℕ) → IsIndex table keys → IsNew keys k → get_or table k 0 ≡ 0
zero_at_new table keys k index new = zero_at table keys k (get_or table k 0) index new refl

pub key_in_range : (table keys : List ℕ) (i k : ℕ) → IsIndex table keys → slice_get keys i ≡ Some k → k < length table
key_in_range table keys i k index is =
    elim (cases_lt k (length table)) [
      | inl less ↦ less
      | inr past ↦ absurd (let e = index.found i k is in let p = get_or_past table k 0 past in omega arith)
    ]

-- ---- one more key

not_zero : (n : ℕ) → ◌≡◌ {A = ℕ} (cond (eqb (n + 1) 0) 1 0) 0
not_zero n = let e : eqb (n + 1) 0 ≡ false = ne_eqb (n + 1) 0 (λ z. omega arith) in rw e refl

named_after : (table keys : List ℕ) (k i m : ℕ) → IsIndex table keys → k < length table → (m ≡ k) ⊎ (m ≢ k) → get_or (set table k (length keys + 1)) m 0 ≡ suc i → slice_get (keys ++ k ∷ []) i ≡ Some m
named_after table keys k i m index less (inl same) is =
    let at_k : get_or (set table k (length keys + 1)) k 0 ≡ length keys + 1 = get_or-set_same table k (length keys + 1) 0 less in
    let is_k = rw same at is in
    let position : i ≡ length keys = omega arith in
    rw (position, same) (slice_get_push keys k)
named_after table keys k i m index less (inr other) is =
    let before : get_or table m 0 ≡ suc i = sym (get_or-set_other table k m (length keys + 1) 0 other) ∙ is in
    slice_get-append_left keys (k ∷ []) i m (index.named i m before)

found_after : (table keys : List ℕ) (k i m : ℕ) → IsIndex table keys → k < length table → IsNew keys k → (slice_get keys i ≡ Some m) ⊎ ((i ≡ length keys) × (m ≡ k)) → get_or (set table k (length keys + 1)) m 0 ≡ suc i
found_after table keys k i m index less new (inl before) =
    let other : m ≢ k = λ same. new i (rw same at before) in
    get_or-set_other table k m (length keys + 1) 0 other ∙ index.found i m before
found_after table keys k i m index less new (inr last) =
    rw (last.1, last.0) (get_or-set_same table k (length keys + 1) 0 less ∙ omega arith)

pub IsIndex-push : (table keys : List ℕ) (k : ℕ) → IsIndex table keys → k < length table → IsNew keys k → IsIndex (set table k (length keys + 1)) (keys ++ k ∷ [])
IsIndex-push table keys k index less new = record {
  found = λ i m is. found_after table keys k i m index less new (slice_get_push_cases keys k i m is);
  named = λ i m is. named_after table keys k i m index less (same_or_not m k) is;
  room =
      let free = zero_at_new table keys k index new in
      let count = sum_by-set (λ position. cond (eqb position 0) 1 0) table k (length keys + 1) 0 less in
      let was : ◌≡◌ {A = ℕ} (cond (eqb (get_or table k 0) 0) 1 0) 1 = rw free refl in
      let now = not_zero (length keys) in
      omega (arith, length-set table k (length keys + 1), length_push keys k, index.room);
}

-- ---- pairs

pub pair_contained : (pairs : List (ℕ × ℕ)) (k l : ℕ) → Contains pairs (k, l) → (i : ℕ) × (slice_get pairs i ≡ Some (k, l))
pair_contained pairs k l among = (among.0, slice_get-get_or pairs among.0 (k, l) among.1 ∙ ap Some among.2)

pub left_key : (pairs : List (ℕ × ℕ)) (i k l : ℕ) → slice_get pairs i ≡ Some (k, l) → slice_get (map left_of pairs) i ≡ Some k
left_key pairs i k l is = slice_get-map left_of pairs i ∙ ap (option_map left_of) is

pub right_key : (pairs : List (ℕ × ℕ)) (i k l : ℕ) → slice_get pairs i ≡ Some (k, l) → slice_get (map right_of pairs) i ≡ Some l
right_key pairs i k l is = slice_get-map right_of pairs i ∙ ap (option_map right_of) is

-- If `k` is the left number at position `i`, then position `i` has a pair with `k` on the left.
pair_of_left : (pairs : List (ℕ × ℕ)) (i k : ℕ) → slice_get (map left_of pairs) i ≡ Some k → (l : ℕ) × (slice_get pairs i ≡ Some (k, l))
pair_of_left [] i k is = absurd (none-some k is)
pair_of_left (p ∷ pairs) zero k is = let e : p.0 ≡ k = same_Some p.0 k is in (p.1, ap (λ (n : ℕ). let q : ℕ × ℕ = (n, p.1) in Some q) e)
pair_of_left (p ∷ pairs) (suc i) k is = pair_of_left pairs i k is

pair_of_right : (pairs : List (ℕ × ℕ)) (i l : ℕ) → slice_get (map right_of pairs) i ≡ Some l → (k : ℕ) × (slice_get pairs i ≡ Some (k, l))
pair_of_right [] i l is = absurd (none-some l is)
pair_of_right (p ∷ pairs) zero l is = let e : p.1 ≡ l = same_Some p.1 l is in (p.0, ap (λ (n : ℕ). let q : ℕ × ℕ = (p.0, n) in Some q) e)
pair_of_right (p ∷ pairs) (suc i) l is = pair_of_right pairs i l is

same_position : (pairs : List (ℕ × ℕ)) (i k l m n : ℕ) → slice_get pairs i ≡ Some (k, l) → slice_get pairs i ≡ Some (m, n) → (k ≡ m) × (l ≡ n)
same_position pairs i k l m n first second =
    let same : ◌≡◌ {A = ℕ × ℕ} (k, l) (m, n) = same_Some (k, l) (m, n) (sym first ∙ second) in
    (ap left_of same, ap right_of same)

pub one_to_one_of : (left right : List ℕ) (pairs : List (ℕ × ℕ)) → IsIndex left (map left_of pairs) → IsIndex right (map right_of pairs) → AreOneToOne pairs
one_to_one_of left right pairs by_left by_right k l m n first second =
    let a = pair_contained pairs k l first in
    let b = pair_contained pairs m n second in (
      λ e.
          let i = by_left.found a.0 k (left_key pairs a.0 k l a.1) in
          let j = by_left.found b.0 m (left_key pairs b.0 m n b.1) in
          let position : a.0 ≡ b.0 = (let at = ap (λ x. get_or left x 0) e in omega arith) in
          (same_position pairs b.0 k l m n (rw position at a.1) b.1).1,
      λ e.
          let i = by_right.found a.0 l (right_key pairs a.0 k l a.1) in
          let j = by_right.found b.0 n (right_key pairs b.0 m n b.1) in
          let position : a.0 ≡ b.0 = (let at = ap (λ x. get_or right x 0) e in omega arith) in
          (same_position pairs b.0 k l m n (rw position at a.1) b.1).0,
    )

-- ---- pairing two objects

-- If two objects have the same positive table entry, then the two objects are a pair.
pub met_already : (left right : List ℕ) (pairs : List (ℕ × ℕ)) (k l : ℕ) → IsIndex left (map left_of pairs) → IsIndex right (map right_of pairs) → get_or left k 0 ≡ get_or right l 0 → get_or left k 0 ≢ 0 → AreMet pairs pairs (λ all. Contains all (k, l))
met_already left right pairs k l by_left by_right same some =
    let there = by_position (get_or left k 0) refl same some in record {
      kept = ([], sym (append-nil pairs));
      agree_now = there;
      needed = λ all one_to_one among agree. among;
    } where
      by_position : (n : ℕ) → get_or left k 0 ≡ n → n ≡ get_or right l 0 → n ≢ 0 → Contains pairs (k, l)
      by_position zero at_k at_l some = absurd (some refl)
      by_position (suc i) at_k at_l some =
          let a = pair_of_left pairs i k (by_left.named i k at_k) in
          let b = pair_of_right pairs i l (by_right.named i l (sym at_l)) in
          let same = same_position pairs i k a.0 b.0 l a.1 b.1 in
          slice_get-Contains pairs i (k, l) (rw same.1 at a.1)

-- If neither of two objects has a pair, then pairing the two objects makes them agree.
pub met_anew : (pairs : List (ℕ × ℕ)) (k l : ℕ) → AreMet pairs (pairs ++ (k, l) ∷ []) (λ all. Contains all (k, l))
met_anew pairs k l = record {
  kept = ((k, l) ∷ [], refl);
  agree_now = Contains-push pairs (k, l);
  needed = λ all one_to_one among agree m n has. ⊎_elim
      (λ before. among m n before)
      (λ last. subst (λ p. Contains all p) last agree)
      (Contains-push_cases pairs (k, l) (m, n) has);
}

-- If the table entries of two objects differ, then no one-to-one pairing that extends the pairs
-- contains the two objects as a pair.
pub cannot_meet : (left right : List ℕ) (pairs : List (ℕ × ℕ)) (k l : ℕ) → IsIndex left (map left_of pairs) → IsIndex right (map right_of pairs) → get_or left k 0 ≢ get_or right l 0 → CannotMeet pairs (λ all. Contains all (k, l))
cannot_meet left right pairs k l by_left by_right differ all one_to_one among agree =
    by_positions (get_or left k 0) (get_or right l 0) refl refl where
      by_positions : (a b : ℕ) → get_or left k 0 ≡ a → get_or right l 0 ≡ b → ⊥
      by_positions zero zero at_k at_l = differ (at_k ∙ sym at_l)
      by_positions (suc i) b at_k at_l =
          let p = pair_of_left pairs i k (by_left.named i k at_k) in
          let same : p.0 ≡ l = (one_to_one k p.0 k l (among k p.0 (slice_get-Contains pairs i (k, p.0) p.1)) agree).0 refl in
          differ (at_k ∙ sym (by_right.found i l (right_key pairs i k l (rw same at p.1))))
      by_positions zero (suc j) at_k at_l =
          let p = pair_of_right pairs j l (by_right.named j l at_l) in
          let same : p.0 ≡ k = (one_to_one p.0 l k l (among p.0 l (slice_get-Contains pairs j (p.0, l) p.1)) agree).1 refl in
          differ (by_left.found j k (left_key pairs j k l (rw same at p.1)) ∙ sym at_l)

-- The numbers of each pair are in range.
pub pairs_in_range : (left right : List ℕ) (pairs : List (ℕ × ℕ)) → IsIndex left (map left_of pairs) → IsIndex right (map right_of pairs) → (k l : ℕ) → Contains pairs (k, l) → (k < length left) × (l < length right)
pairs_in_range left right pairs by_left by_right k l among =
    let at = pair_contained pairs k l among in (
      key_in_range left (map left_of pairs) at.0 k by_left (left_key pairs at.0 k l at.1),
      key_in_range right (map right_of pairs) at.0 l by_right (right_key pairs at.0 k l at.1),
    )

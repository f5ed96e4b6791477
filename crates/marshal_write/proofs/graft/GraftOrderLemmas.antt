-- Lemmas on the objects in the order of their marks, and on the objects to which a value refers.
use Rattle.std.proofs.Common.{ℕ, zero, suc, ◌+◌, ◌-◌, ◌<◌, ◌≤◌, ◌≡◌, ◌≢◌, ◌∙◌, List, [], ◌∷◌, length, set, get_or, Some, ⊎_elim, refl, sym, ap, subst, arith, get_or-set_same, get_or-set_other}
use Rattle.std.specs.Prelude.{slice_get, slice_index, All, pos}
use Rattle.std.specs.List.{AllZip, AllByRecursion}
use Rattle.std.proofs.lemmas.Bool.{cases_lt, cases_eq}
use Rattle.std.proofs.lemmas.List.{get_or_past, ext_get_or}
use Rattle.std.proofs.lemmas.List.Elements.{All-from_recursion, All-weaker}
use Rattle.std.proofs.lemmas.Option.{slice_get_within, get_or_from_slice_get}
use Rattle.base_data.proofs.model.Options.{IsSomeAnd-some, slice_get_there}
use Rattle.base_data.specs.declared.model.value.Val.{Val}
use Rattle.base_data.specs.declared.model.value.Val.TheVariants as vals
use Rattle.base_data.specs.declared.model.value.Obj.{Obj}
use Rattle.base_data.specs.declared.model.value.Obj.TheVariants as objects
use Rattle.marshal_spec.specs.format.Tree.{objects_of}
use Rattle.marshal_spec.specs.format.Isomorphism.{Agree, AgreeObjects}
use Rattle.marshal_heap.specs.heap.Heap.{fields_of}
use Rattle.marshal_spec.specs.canonical.Numbering.{numbered, Shows}
use Rattle.marshal_spec.proofs.canonical.Walk.{at_numbered}
use Rattle.marshal_write.specs.write.WriteWalk.{AreMarked}
use Rattle.marshal_write.specs.graft.ObjectOrder.{IsOrder}
use Rattle.marshal_write.specs.graft.Renamed.{IsMet, IsMetObject}

module _ (g : List Obj) (ks marks : List ℕ) (marked : AreMarked g ks (length ks) marks) where
  mark_inside : (k i : ℕ) → slice_index marks k ≡ suc i → k < length marks
  mark_inside k i is = ⊎_elim (λ (less : k < length marks). less)
      (λ (past : length marks ≤ k). let none = get_or_past marks k 0 past in absurd (omega (arith, is, none)))
      (cases_lt k (length marks))

  -- ---- the number of objects

  mark_small : (k m : ℕ) → slice_index marks k ≡ m → m ≤ length ks
  mark_small k zero is = omega arith
  mark_small k (suc i) is = let at = (marked.named i k is).0 in omega (arith, at)

  last_is : (n count : ℕ) → length ks ≡ n → ((k : ℕ) → k < length marks → slice_index marks k ≤ count) → n ≤ count
  last_is zero count many most = omega arith
  last_is (suc m) count many most =
      let there = slice_get_there ks m (omega (arith, many)) in
      let mark = marked.found m there.0 (omega (arith, many)) there.1 in
      let most_here = most there.0 (mark_inside there.0 m mark) in
      omega (arith, mark, most_here)

  pub many_marked : (count : ℕ) → ((k : ℕ) → k < length marks → slice_index marks k ≤ count)
      → ((n : ℕ) → ((k : ℕ) → k < length marks → slice_index marks k ≤ n) → count ≤ n) → count ≡ length ks
  many_marked count most least =
      let above = last_is (length ks) count refl most in
      let below = least (length ks) (λ k inside. mark_small k (slice_index marks k) refl) in
      omega (arith, above, below)

  -- ---- the order of objects

  -- Each object with a number below `k` is at its position in `order`.
  abbrev pub AreOrdered : List ℕ → ℕ → Type 0
  AreOrdered order k = (i m : ℕ) → m < k → slice_get ks i ≡ Some m → get_or order i 0 ≡ m

  pub unmarked_next : (order : List ℕ) (k : ℕ) → slice_index marks k ≡ 0 → AreOrdered order k → AreOrdered order (k + 1)
  unmarked_next order k none ordered i m less at =
      let mark = marked.found i m (slice_get_within ks i m at) at in
      ⊎_elim (λ (same : m ≡ k). let here = ap (λ k. slice_index marks k) same in absurd (omega (arith, mark, none, here)))
      (λ (other : m ≢ k). ordered i m (omega (arith, less, other)) at) (cases_eq m k)

  pub marked_next : (order : List ℕ) (k mark : ℕ) → length order ≡ length ks → slice_index marks k ≡ mark → mark ≢ 0 → AreOrdered order k
      → AreOrdered (set order (mark - 1) k) (k + 1)
  marked_next order k mark many is some ordered i m less at =
      let inside = slice_get_within ks i m at in
      let found = marked.found i m inside at in
      ⊎_elim
      (λ (same : m ≡ k).
      let here : mark - 1 ≡ i = let e = ap (λ k. slice_index marks k) same in omega (arith, e, is, found) in
      ap (λ n. get_or (set order n k) i 0) here ∙ get_or-set_same order i k 0 (omega (arith, many, inside)) ∙ sym same)
      (λ (other : m ≢ k).
      let apart : i ≢ mark - 1 = λ same.
      let its : slice_index marks k ≡ suc i = omega (arith, same, is, some) in
      let twice = (marked.named i k its).1 in
      let equal : m ≡ k = some_same m k (sym at ∙ twice) in other equal in
      get_or-set_other order (mark - 1) i k 0 apart ∙ ordered i m (omega (arith, less, other)) at)
      (cases_eq m k)
    where
      some_same : (m k : ℕ) → Some m ≡ Some k → m ≡ k
      some_same m k is = cc

  pub all_ordered : (order : List ℕ) (n : ℕ) → length order ≡ length ks → n ≡ length g → length marks ≡ length g → AreOrdered order n → order ≡ ks
  all_ordered order n many all size ordered =
      ext_get_or 0 order ks many (λ i inside.
      let there = slice_get_there ks i (omega (arith, many, inside)) in
      let mark = marked.found i there.0 (omega (arith, many, inside)) there.1 in
      let less = mark_inside there.0 i mark in
      ordered i there.0 (omega (arith, less, all, size)) there.1 ∙ sym (get_or_from_slice_get ks i there.0 0 there.1))

  -- ---- objects that are referred to have marks

  module _ (base : ℕ) where
    value_met : (v w : Val) → Agree (numbered ks) v w → IsMet marks base (base + length ks) v
    value_met (vals.Int x) w agree = tt
    value_met (vals.Atom x) w agree = tt
    value_met (vals.Ref k) (vals.Ref l) agree =
        let at = at_numbered ks k l agree in
        let inside = slice_get_within ks l k at in
        let mark = marked.found l k inside at in
        (mark_inside k l mark, omega (arith, mark), omega (arith, mark, inside))
    value_met (vals.Ref k) (vals.Int y) agree = absurd agree
    value_met (vals.Ref k) (vals.Atom y) agree = absurd agree

    values_met : (vs ws : List Val) → AllZip (Agree (numbered ks)) vs ws → AllByRecursion (IsMet marks base (base + length ks)) vs
    values_met [] ws all = tt
    values_met (v ∷ vs) (w ∷ ws) all = (value_met v w all.0, values_met vs ws all.1)
    values_met (v ∷ vs) [] all = absurd all

    object_met : (a b : Obj) → AgreeObjects (numbered ks) a b → All (IsMet marks base (base + length ks)) (fields_of a)
    object_met (objects.Block tag values) (objects.Block tag' values') agree =
        All-from_recursion (IsMet marks base (base + length ks)) values (values_met values values' agree.1)
    object_met (objects.Block tag values) (objects.Bytes bytes) agree = absurd agree
    object_met (objects.Block tag values) (objects.Double bits) agree = absurd agree
    object_met (objects.Block tag values) (objects.Doubles all) agree = absurd agree
    object_met (objects.Block tag values) (objects.I32 z) agree = absurd agree
    object_met (objects.Block tag values) (objects.I64 z) agree = absurd agree
    object_met (objects.Block tag values) (objects.Native z) agree = absurd agree
    object_met (objects.Bytes bytes) b agree = All-from_recursion (IsMet marks base (base + length ks)) [] tt
    object_met (objects.Double bits) b agree = All-from_recursion (IsMet marks base (base + length ks)) [] tt
    object_met (objects.Doubles all) b agree = All-from_recursion (IsMet marks base (base + length ks)) [] tt
    object_met (objects.I32 z) b agree = All-from_recursion (IsMet marks base (base + length ks)) [] tt
    object_met (objects.I64 z) b agree = All-from_recursion (IsMet marks base (base + length ks)) [] tt
    object_met (objects.Native z) b agree = All-from_recursion (IsMet marks base (base + length ks)) [] tt

    shown_met : (k : ℕ) (b : Obj) → Shows g ks k b → IsMetObject g marks base (base + length ks) k
    shown_met k b shows =
        let found = IsSomeAnd-some (slice_get g k) (λ a. AgreeObjects (numbered ks) a b) shows in
        let is = get_or_from_slice_get g k found.0 (objects.I32 (pos 0)) found.1 in (
          slice_get_within g k found.0 found.1,
          subst (λ o. All (IsMet marks base (base + length ks)) (fields_of o)) (sym is) (object_met found.0 b found.2),
        )

    all_met : (ls : List ℕ) (bs : List Obj) → AllZip (Shows g ks) ls bs → AllByRecursion (IsMetObject g marks base (base + length ks)) ls
    all_met [] bs all = tt
    all_met (l ∷ ls) (b ∷ bs) all = (shown_met l b all.0, all_met ls bs all.1)
    all_met (l ∷ ls) [] all = absurd all

-- ---- the objects of an order

module _ (g : List Obj) (v : Val) (marks ks : List ℕ) (order : IsOrder g v marks ks) (base : ℕ) where
  pub order_met : All (IsMetObject g marks base (base + length ks)) ks
  order_met =
      All-from_recursion (IsMetObject g marks base (base + length ks)) ks
      (all_met g ks marks order.marked base ks (objects_of order.tree 0) order.numbering.objects)

  pub order_inside : All (λ k. k < length g) ks
  order_inside = All-weaker (IsMetObject g marks base (base + length ks)) (λ k. k < length g) (λ k met. met.0) ks order_met

  pub order_top : IsMet marks base (base + length ks) v
  order_top = value_met g ks marks order.marked base v _ order.numbering.value

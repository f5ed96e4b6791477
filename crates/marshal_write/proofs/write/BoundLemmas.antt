-- Bounds on the size of a value's tree by the size of the heap.
use Rattle.std.proofs.Common.{ℕ, zero, suc, ◌≡◌, ◌≢◌, ◌+◌, ◌<◌, ◌≤◌, ◌∙◌, ⊎_elim, List, [], ◌∷◌, length, map, Some, refl, sym, ap, subst, arith, pos}
use Rattle.std.specs.Prelude.{slice_get, Contains, sum_by}
use Rattle.std.specs.List.{AllZip}
use Rattle.std.proofs.lemmas.Option.{slice_get_within, get_or_from_slice_get}
use Rattle.std.proofs.lemmas.List.Sums.{sum_by-cons}
use Rattle.std.proofs.lemmas.Slice.Zip.{AllZip-long}
use Rattle.base_data.proofs.model.Options.{IsSomeAnd-some, Contains-first, Contains-later, Contains-none, Contains-cases, Contains-map}
use Rattle.base_data.specs.declared.model.value.Val.{Val}
use Rattle.base_data.specs.declared.model.value.Obj.{Obj}
use Rattle.base_data.specs.declared.model.value.Obj.TheVariants as objects
use Rattle.marshal_spec.specs.format.Isomorphism.{AgreeObjects}
use Rattle.marshal_spec.specs.format.Tree.{Tree, objects_of}
use Rattle.marshal_spec.specs.canonical.Numbering.{numbered, AreDistinct, Shows, IsNumbering}
use Rattle.marshal_spec.proofs.canonical.CanonicalListLemmas.{AllZip-at}
use Rattle.marshal_heap.specs.heap.Heap.{object_at, object_words, heap_words}

-- ---- sums over distinct numbers

record IsRemoved (f : ℕ → ℕ) (ks : List ℕ) (k : ℕ) : Type 0 where
  others : List ℕ
  total : sum_by f ks ≡ f k + sum_by f others
  kept : (m : ℕ) → m ≢ k → Contains ks m → Contains others m

removed : (f : ℕ → ℕ) (ks : List ℕ) (k : ℕ) → Contains ks k → IsRemoved f ks k
removed f [] k among = absurd (Contains-none k among)
removed f (m ∷ ks) k among = ⊎_elim
    (λ here. record {
      others = ks;
      total = sum_by-cons f m ks ∙ ap (λ n. f n + sum_by f ks) here;
      kept = λ n other has. ⊎_elim (λ first. absurd (other (sym first ∙ here))) (λ later. later) (Contains-cases m ks n has);
    })
    (λ later. let r = removed f ks k later in record {
      others = m ∷ r.others;
      total = omega (arith, sum_by-cons f m ks, sum_by-cons f m r.others, r.total);
      kept = λ n other has. ⊎_elim
          (λ first. subst (Contains (m ∷ r.others)) first (Contains-first m r.others))
          (λ rest. Contains-later m r.others n (r.kept n other rest))
          (Contains-cases m ks n has);
    })
    (Contains-cases m ks k among)

contains_at : (ks : List ℕ) (k : ℕ) → Contains ks k → (i : ℕ) × (slice_get ks i ≡ Some k)
contains_at [] k among = absurd (Contains-none k among)
contains_at (m ∷ ks) k among = ⊎_elim (λ here. (0, ap Some here)) (λ later. let r = contains_at ks k later in (suc r.0, r.1)) (Contains-cases m ks k among)

distinct_tail : (k : ℕ) (ks : List ℕ) → AreDistinct (k ∷ ks) → AreDistinct ks
distinct_tail k ks distinct i j m a b = let e : suc i ≡ suc j = distinct (suc i) (suc j) m a b in omega arith

pub sum_within : (f : ℕ → ℕ) (ks all : List ℕ) → AreDistinct ks → ((m : ℕ) → Contains ks m → Contains all m) → sum_by f ks ≤ sum_by f all
sum_within f [] all distinct among = omega arith
sum_within f (k ∷ ks) all distinct among =
    let r = removed f all k (among k (Contains-first k ks)) in
    let rest : sum_by f ks ≤ sum_by f r.others = sum_within f ks r.others (distinct_tail k ks distinct) (λ m has. r.kept m
    (λ same. let at_m = contains_at ks m has in let e : 0 ≡ suc at_m.0 = distinct 0 (suc at_m.0) k refl (at_m.1 ∙ ap Some same) in omega arith)
    (among m (Contains-later k ks m has))) in
    omega (arith, sum_by-cons f k ks, r.total)

-- The numbers below `n` in increasing order.
abbrev upto : ℕ → List ℕ
upto zero = []
upto (suc n) = 0 ∷ map suc (upto n)

Contains-upto : (n k : ℕ) → k < n → Contains (upto n) k
Contains-upto zero k less = absurd (omega arith)
Contains-upto (suc n) zero less = Contains-first 0 (map suc (upto n))
Contains-upto (suc n) (suc k) less = Contains-later 0 (map suc (upto n)) (suc k) (Contains-map suc (upto n) k (Contains-upto n k (omega arith)))

sum_by-suc : (f : ℕ → ℕ) (ks : List ℕ) → sum_by f (map suc ks) ≡ sum_by (λ k. f (suc k)) ks
sum_by-suc f [] = refl
sum_by-suc f (k ∷ ks) = omega (arith, sum_by-cons f (suc k) (map suc ks), sum_by-cons (λ m. f (suc m)) k ks, sum_by-suc f ks)

abbrev pub words_at : List Obj → ℕ → ℕ
words_at g k = object_words (object_at g k)

sum-upto : (g : List Obj) → sum_by (words_at g) (upto (length g)) ≡ heap_words g
sum-upto [] = refl
sum-upto (o ∷ g) = omega (arith, sum_by-cons (words_at (o ∷ g)) 0 (map suc (upto (length g))), sum_by-suc (words_at (o ∷ g)) (upto (length g)), sum-upto g, sum_by-cons object_words o g)

-- ---- the objects in a tree

agree_words : (pairs : List (ℕ × ℕ)) (a b : Obj) → AgreeObjects pairs a b → object_words a ≡ object_words b
agree_words pairs (objects.Block tag values) (objects.Block tag' values') agree = ap (λ n. 1 + n) (sym (AllZip-long _ values values' agree.1))
agree_words pairs (objects.Block tag values) b agree = absurd agree
agree_words pairs (objects.Bytes bytes) b agree = ap object_words agree
agree_words pairs (objects.Double bits) b agree = ap object_words agree
agree_words pairs (objects.Doubles all) b agree = ap object_words agree
agree_words pairs (objects.I32 z) b agree = ap object_words agree
agree_words pairs (objects.I64 z) b agree = ap object_words agree
agree_words pairs (objects.Native z) b agree = ap object_words agree

shown_words : (g : List Obj) (met ks : List ℕ) (os : List Obj) → AllZip (Shows g met) ks os → sum_by (words_at g) ks ≡ heap_words os
shown_words g met [] [] all = refl
shown_words g met [] (o ∷ os) all = absurd all
shown_words g met (k ∷ ks) [] all = absurd all
shown_words g met (k ∷ ks) (o ∷ os) all =
    let a = IsSomeAnd-some (slice_get g k) (λ a. AgreeObjects (numbered met) a o) all.0 in
    let at_k : object_at g k ≡ a.0 = get_or_from_slice_get g k a.0 (objects.I32 (pos 0)) a.1 in
    let same : words_at g k ≡ object_words o = ap object_words at_k ∙ agree_words (numbered met) a.0 o a.2 in
    omega (arith, sum_by-cons (words_at g) k ks, sum_by-cons object_words o os, shown_words g met ks os all.1)

shown_inside : (g : List Obj) (met ks : List ℕ) (os : List Obj) (m : ℕ) → AllZip (Shows g met) ks os → Contains ks m → m < length g
shown_inside g met ks os m all has =
    let at_m = contains_at ks m has in
    let o = IsSomeAnd-some (slice_get os at_m.0) (λ o. Shows g met m o) (AllZip-at (Shows g met) ks os at_m.0 m all at_m.1) in
    let a = IsSomeAnd-some (slice_get g m) (λ a. AgreeObjects (numbered met) a o.0) o.2 in
    slice_get_within g m a.0 a.1

-- The objects of a value's tree have at most as many words as the heap.
pub few_words : (g : List Obj) (v : Val) (tree : Tree) (ks : List ℕ) → IsNumbering g v tree ks → heap_words (objects_of tree 0) ≤ heap_words g
few_words g v tree ks numbering =
    let within = sum_within (words_at g) ks (upto (length g)) numbering.distinct
    (λ m has. Contains-upto (length g) m (shown_inside g ks ks (objects_of tree 0) m numbering.objects has)) in
    omega (arith, shown_words g ks ks (objects_of tree 0) numbering.objects, sum-upto g)

sum_ones : (ks : List ℕ) → sum_by (λ _. 1) ks ≡ length ks
sum_ones [] = refl
sum_ones (k ∷ ks) = omega (arith, sum_by-cons (λ _. 1) k ks, sum_ones ks)

length_all_suc : (ks : List ℕ) → length (map suc ks) ≡ length ks
length_all_suc [] = refl
length_all_suc (k ∷ ks) = ap suc (length_all_suc ks)

length-upto : (n : ℕ) → length (upto n) ≡ n
length-upto zero = refl
length-upto (suc n) = ap suc (length_all_suc (upto n) ∙ length-upto n)

pub few_objects : (g : List Obj) (v : Val) (tree : Tree) (ks : List ℕ) → IsNumbering g v tree ks → length ks ≤ length g
few_objects g v tree ks numbering =
    let within = sum_within (λ _. 1) ks (upto (length g)) numbering.distinct
    (λ m has. Contains-upto (length g) m (shown_inside g ks ks (objects_of tree 0) m numbering.objects has)) in
    omega (arith, sum_ones ks, sum_ones (upto (length g)), length-upto (length g))

a_word : (o : Obj) → 1 ≤ object_words o
a_word (objects.Block tag values) = omega arith
a_word (objects.Bytes bytes) = omega arith
a_word (objects.Double bits) = omega arith
a_word (objects.Doubles all) = omega arith
a_word (objects.I32 z) = omega arith
a_word (objects.I64 z) = omega arith
a_word (objects.Native z) = omega arith

-- Each object has at least one word.
pub objects-le-words : (g : List Obj) → length g ≤ heap_words g
objects-le-words [] = omega arith
objects-le-words (o ∷ g) = omega (arith, sum_by-cons object_words o g, a_word o, objects-le-words g)

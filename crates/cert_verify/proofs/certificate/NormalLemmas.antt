-- Of the lists of pairs with the same objects at equal types, at most one is in the order of an
-- entry.
use Rattle.std.proofs.Common.{ℕ, suc, ◌≡◌, ◌∙◌, ⊎_elim, inl, inr, List, [], ◌∷◌, Some, refl, sym, ap, subst, arith}
use Rattle.std.specs.Prelude.{Contains, slice_get}
use Rattle.base_data.proofs.model.Options.{Contains-first, Contains-later, Contains-none, Contains-cases}
use Rattle.base_data.proofs.model.Numbers.{less_same_more}
use Rattle.types_spec.specs.types.Table.{Table, table_shapes}
use Rattle.cert_format.specs.Increasing.{IsSmaller, AreIncreasing}
use Rattle.cert_verify.specs.certificate.Normal.{IsLeast, AreNormal, AreTheSame}

-- ---- increasing lists

tail_increases : (pair : ℕ × ℕ) (pairs : List (ℕ × ℕ)) → AreIncreasing (pair ∷ pairs) → AreIncreasing pairs
tail_increases pair pairs increasing j k one other less at_j at_k = increasing (suc j) (suc k) one other (omega arith) at_j at_k

-- Each element of a list has an index.
position_of : (pairs : List (ℕ × ℕ)) (pair : ℕ × ℕ) → Contains pairs pair → (k : ℕ) × (slice_get pairs k ≡ Some pair)
position_of [] pair among = absurd (Contains-none pair among)
position_of (first ∷ pairs) pair among = ⊎_elim
    (λ here. (0, ap Some here))
    (λ later. let k = position_of pairs pair later in (suc k.0, k.1))
    (Contains-cases first pairs pair among)

first_is_smaller : (first : ℕ × ℕ) (pairs : List (ℕ × ℕ)) → AreIncreasing (first ∷ pairs) → (pair : ℕ × ℕ) → Contains pairs pair → IsSmaller first pair
first_is_smaller first pairs increasing pair among =
    let k = position_of pairs pair among in
    increasing 0 (suc k.0) first pair (omega arith) refl k.1

never_back : (one other : ℕ × ℕ) → IsSmaller one other → IsSmaller other one → ⊥
never_back one other (inl a) (inl b) = omega (arith, a, b)
never_back one other (inl a) (inr b) = let e = b.0 in omega (arith, a, e)
never_back one other (inr a) (inl b) = let e = a.0 in omega (arith, b, e)
never_back one other (inr a) (inr b) = let l = a.1 in let m = b.1 in omega (arith, l, m)

-- Each list contains the elements of the other.
record HaveTheSame (pairs others : List (ℕ × ℕ)) : Type 0 where
  there : (pair : ℕ × ℕ) → Contains pairs pair → Contains others pair
  back : (pair : ℕ × ℕ) → Contains others pair → Contains pairs pair

firsts_are_one :
    (first other : ℕ × ℕ) (pairs others : List (ℕ × ℕ)) → AreIncreasing (first ∷ pairs) → AreIncreasing (other ∷ others)
    → HaveTheSame (first ∷ pairs) (other ∷ others) → first ≡ other
firsts_are_one first other pairs others one two same = ⊎_elim
    (λ here. sym here)
    (λ later. ⊎_elim
    (λ here. here)
    (λ later'. absurd (never_back other first (first_is_smaller other others two first later) (first_is_smaller first pairs one other later')))
    (Contains-cases first pairs other (same.back other (Contains-first other others))))
    (Contains-cases other others first (same.there first (Contains-first first pairs)))

smaller_not_same : (one other : ℕ × ℕ) → IsSmaller one other → one ≡ other → ⊥
smaller_not_same one other smaller is = never_back one other smaller (subst (λ p. IsSmaller p one) is (subst (λ p. IsSmaller one p) (sym is) smaller))

-- Suppose two lists begin with one element, the first list increases, and the second list contains
-- its elements. Then the second list without that element contains the other elements.
behind_too :
    (first : ℕ × ℕ) (pairs others : List (ℕ × ℕ)) → AreIncreasing (first ∷ pairs)
    → ((pair : ℕ × ℕ) → Contains (first ∷ pairs) pair → Contains (first ∷ others) pair)
    → (pair : ℕ × ℕ) → Contains pairs pair → Contains others pair
behind_too first pairs others increasing there pair among = ⊎_elim
    (λ here. absurd (smaller_not_same first pair (first_is_smaller first pairs increasing pair among) here))
    (λ later. later)
    (Contains-cases first others pair (there pair (Contains-later first pairs pair among)))

one_list :
    (pairs others : List (ℕ × ℕ)) → AreIncreasing pairs → AreIncreasing others → HaveTheSame pairs others → pairs ≡ others
one_list [] [] one two same = refl
one_list [] (other ∷ others) one two same = absurd (Contains-none other (same.back other (Contains-first other others)))
one_list (first ∷ pairs) [] one two same = absurd (Contains-none first (same.there first (Contains-first first pairs)))
one_list (first ∷ pairs) (other ∷ others) one two same =
    let is = firsts_are_one first other pairs others one two same in
    let two' = subst (λ p. AreIncreasing (p ∷ others)) (sym is) two in
    let there = subst (λ p. (pair : ℕ × ℕ) → Contains (first ∷ pairs) pair → Contains (p ∷ others) pair) (sym is) same.there in
    let back = subst (λ p. (pair : ℕ × ℕ) → Contains (p ∷ others) pair → Contains (first ∷ pairs) pair) (sym is) same.back in
    let rest = one_list pairs others (tail_increases first pairs one) (tail_increases other others two)
    (record { there = behind_too first pairs others one there; back = behind_too first others pairs two' back }) in
    ap (λ p. p ∷ pairs) is ∙ ap (λ ps. other ∷ ps) rest

-- ---- lists of least types

-- If two indices of equal types are both least, then they are equal.
least_are_one : (table : Table) (t u : ℕ) → IsLeast table t → IsLeast table u → (table_shapes table).equal t u → t ≡ u
least_are_one table t u one two equal = ⊎_elim
    (λ less. absurd (two t less equal))
    (λ others. ⊎_elim (λ same. same) (λ more. absurd (one u more (sym equal))) others)
    (less_same_more t u)

among_too :
    (table : Table) (pairs others : List (ℕ × ℕ)) → AreNormal table pairs → AreNormal table others
    → ((o t : ℕ) → Contains pairs (o, t) → (u : ℕ) × Contains others (o, u) × (table_shapes table).equal u t)
    → (pair : ℕ × ℕ) → Contains pairs pair → Contains others pair
among_too table pairs others one two there pair among =
    let k = there pair.0 pair.1 among in
    let is = least_are_one table k.0 pair.1 (two.least pair.0 k.0 k.1) (one.least pair.0 pair.1 among) k.2 in
    subst (λ t. Contains others (pair.0, t)) is k.1

pub normal_is_one :
    (table : Table) (pairs others : List (ℕ × ℕ)) → AreNormal table pairs → AreNormal table others → AreTheSame (table_shapes table) pairs others
    → pairs ≡ others
normal_is_one table pairs others one two same = one_list pairs others one.increasing two.increasing (record {
  there = among_too table pairs others one two same.there;
  back = among_too table others pairs two one same.back;
})

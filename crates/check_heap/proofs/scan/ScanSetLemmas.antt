-- Sets of pairs of an object and a class that grow or lose a pair.
use Rattle.std.proofs.Common.{ℕ, ◌≡◌, ◌∙◌, ◌⊎◌, inl, inr, ⊎_elim, Bool, true, false, cond, refl, sym, ap}
use Rattle.std.specs.Prelude.{IsTrue}
use Rattle.std.specs.declared.cmp.Ordering.{Ordering}
use Rattle.std.specs.declared.cmp.Ordering.TheVariants.{Equal}
use Rattle.std.specs.Ordering.{is_eq, nat_cmp}
use Rattle.std.specs.Cmp.{Equal-is}
use Rattle.std.proofs.lemmas.Bool.{false≢true}
use Rattle.std.specs.BTreeMap.{is_at}
use Rattle.std.specs.BTreeSet.{BTreeSet, contains, Updates}
use Rattle.std.proofs.lemmas.Map.Lookups.{exact_pairs, exact_unsigned}
use Rattle.check_heap.specs.scan.Classed.{pair_cmp}

pub equal_from : (o : Ordering) → is_eq o ≡ true → o ≡ Equal
equal_from o is = (Equal-is o).0 is

pub same_pair : (k q : ℕ × ℕ) → is_at (pair_cmp k) q ≡ true → k ≡ q
same_pair k q is = exact_pairs nat_cmp nat_cmp exact_unsigned exact_unsigned k q (equal_from (pair_cmp k q) is)

pub cond_true : (test other : Bool) → cond test true other ≡ true → (test ≡ true) ⊎ (other ≡ true)
cond_true true other is = inl refl
cond_true false other is = inr is

pub cond_kept : (test other : Bool) → other ≡ true → cond test true other ≡ true
cond_kept true other is = refl
cond_kept false other is = is

pub later_before :
    (old new : BTreeSet (ℕ × ℕ)) (k q : ℕ × ℕ) → Updates pair_cmp old new k true → IsTrue (contains pair_cmp new q)
    → IsTrue (contains pair_cmp old q) ⊎ (k ≡ q)
later_before old new k q updates is = ⊎_elim
    (λ same. inr (same_pair k q same))
    (λ there. inl there)
    (cond_true (is_at (pair_cmp k) q) (contains pair_cmp old q) (sym (updates.0 q) ∙ is))

pub later_kept :
    (old new : BTreeSet (ℕ × ℕ)) (k q : ℕ × ℕ) → Updates pair_cmp old new k true → IsTrue (contains pair_cmp old q)
    → IsTrue (contains pair_cmp new q)
later_kept old new k q updates is = updates.0 q ∙ cond_kept (is_at (pair_cmp k) q) (contains pair_cmp old q) is

-- ---- one pair less

pub cond_false : (test other : Bool) → cond test false other ≡ true → other ≡ true
cond_false true other is = absurd (false≢true is)
cond_false false other is = is

pub less_before :
    (old new : BTreeSet (ℕ × ℕ)) (k q : ℕ × ℕ) → Updates pair_cmp old new k false → IsTrue (contains pair_cmp new q)
    → IsTrue (contains pair_cmp old q)
less_before old new k q updates is = cond_false (is_at (pair_cmp k) q) (contains pair_cmp old q) (sym (updates.0 q) ∙ is)

pub less_kept :
    (old new : BTreeSet (ℕ × ℕ)) (k q : ℕ × ℕ) → Updates pair_cmp old new k false → IsTrue (contains pair_cmp old q)
    → IsTrue (contains pair_cmp new q) ⊎ (k ≡ q)
less_kept old new k q updates is = by_test (is_at (pair_cmp k) q) refl where
  by_test : (test : Bool) → is_at (pair_cmp k) q ≡ test → IsTrue (contains pair_cmp new q) ⊎ (k ≡ q)
  by_test true same = inr (same_pair k q same)
  by_test false other = inl (updates.0 q ∙ ap (λ test. cond test false (contains pair_cmp old q)) other ∙ is)

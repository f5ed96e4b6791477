-- The numbers in one class of a stable partition are equal.
use Rattle.std.proofs.Common.{ℕ, zero, suc, ◌<◌, ◌≡◌, ◌∙◌, ◌⊎◌, ⊎_elim, inl, inr, List, [], ◌∷◌}
use Rattle.std.proofs.Common.{◌++◌, refl, sym, ap, subst, arith}
use Rattle.std.specs.Prelude.{Contains}
use Rattle.std.proofs.lemmas.List.Elements.{Contains-append_cases, Contains-append_left}
use Rattle.std.proofs.lemmas.List.Elements.{Contains-append_right}
use Rattle.types_spec.specs.declared.types.head.HeadOf.{HeadOf}
use Rattle.types_spec.specs.types.Equal.{HeadsAgree, Holds}
use Rattle.types_spec.specs.types.Classes.{AreTogether, PartsBelow, KeepsTogether, IsStableFor, IsSplit}
use Rattle.types_spec.specs.types.Classes.{DoneNow}
use Rattle.types_spec.specs.types.Reached.{parts_of}
use Rattle.base_data.proofs.model.Options.{Contains-first, Contains-later, Contains-none, same_or_not, Contains-cases}
use Rattle.types_theory.specs.equality.ClassLaws.{StableClassesAreEqual}
use Rattle.types_theory.proofs.equality.EqualityAgreeLemmas.{HeadsAgree-more}

-- ---- all pairs of one class, as a list

abbrev write : {X : Type 0} {A : Type 0} → X → A ⊎ (A → ⊥) → List X → List X
write x (inl holds) xs = x ∷ xs
write x (inr fails) xs = xs

write_is : {X A : Type 0} (x : X) (test : A ⊎ (A → ⊥)) (xs : List X) (y : X)
    → Contains (write x test xs) y → (A × (x ≡ y)) ⊎ Contains xs y
write_is x (inl holds) xs y among =
    ⊎_elim (λ here. inl (holds, here)) (λ later. inr later) (Contains-cases x xs y among)
write_is x (inr fails) xs y among = inr among

write_first : {X A : Type 0} (x : X) (test : A ⊎ (A → ⊥)) (xs : List X) → A
    → Contains (write x test xs) x
write_first x (inl holds) xs a = Contains-first x xs
write_first x (inr fails) xs a = absurd (fails a)

write_later : {X A : Type 0} (x : X) (test : A ⊎ (A → ⊥)) (xs : List X) (y : X) → Contains xs y
    → Contains (write x test xs) y
write_later x (inl holds) xs y among = Contains-later x xs y among
write_later x (inr fails) xs y among = among

module _ (class : ℕ → ℕ) where
  abbrev row : ℕ → ℕ → List (ℕ × ℕ)
  row i zero = []
  row i (suc j) = write (i, j) (same_or_not (class i) (class j)) (row i j)

  abbrev grid : ℕ → ℕ → List (ℕ × ℕ)
  grid zero n = []
  grid (suc i) n = row i n ++ grid i n

  abbrev Among : ℕ → ℕ → ℕ × ℕ → Type 0
  Among m n pair = (pair.0 < m) × (pair.1 < n) × (class pair.0 ≡ class pair.1)

  row_is : (i n : ℕ) (pair : ℕ × ℕ) → Contains (row i n) pair → (pair.0 ≡ i) × (pair.1 < n)
      × (class pair.0 ≡ class pair.1)
  row_is i zero pair among = absurd (Contains-none pair among)
  row_is i (suc j) pair among = ⊎_elim
      (λ here. subst (λ (p : ℕ × ℕ). (p.0 ≡ i) × (p.1 < suc j) × (class p.0 ≡ class p.1)) here.1
      (refl, omega arith, here.0))
      (λ later. let is = row_is i j pair later in (is.0, omega (arith, is.1), is.2))
      (write_is (i, j) (same_or_not (class i) (class j)) (row i j) pair among)

  row_has : (i n j : ℕ) → j < n → class i ≡ class j → Contains (row i n) (i, j)
  row_has i zero j below same = absurd (omega arith)
  row_has i (suc k) j below same = ⊎_elim
      (λ is. subst (λ l. Contains (row i (suc k)) (i, l)) (sym is)
      (write_first (i, k) (same_or_not (class i) (class k)) (row i k) (same ∙ ap class is)))
      (λ other. write_later (i, k) (same_or_not (class i) (class k)) (row i k) (i, j)
      (row_has i k j (less other) same))
      (same_or_not j k) where
        less : (j ≡ k → ⊥) → j < k
        less other = omega arith

  grid_is : (m n : ℕ) (pair : ℕ × ℕ) → Contains (grid m n) pair → Among m n pair
  grid_is zero n pair among = absurd (Contains-none pair among)
  grid_is (suc i) n pair among = ⊎_elim
      (λ here. let is = row_is i n pair here in (omega (arith, is.0), is.1, is.2))
      (λ later. let is = grid_is i n pair later in (omega (arith, is.0), is.1, is.2))
      (Contains-append_cases (row i n) (grid i n) pair among)

  grid_has : (m n i j : ℕ) → i < m → j < n → class i ≡ class j → Contains (grid m n) (i, j)
  grid_has zero n i j below below' same = absurd (omega arith)
  grid_has (suc k) n i j below below' same = ⊎_elim
      (λ is. Contains-append_left (row k n) (grid k n) (i, j)
      (subst (λ l. Contains (row k n) (l, j)) (sym is) (row_has k n j below' (sym (ap class is)
      ∙ same))))
      (λ other. Contains-append_right (row k n) (grid k n) (i, j)
      (grid_has k n i j (less other) below' same))
      (same_or_not i k) where
        less : (i ≡ k → ⊥) → i < k
        less other = omega arith

-- ---- stable classes

pub stable_is_equal : StableClassesAreEqual
stable_is_equal n head class stable i j together = record {
  pairs = grid class n n;
  holds = holds_of i j together;
  closed = λ k l held. HeadsAgree-more (AreTogether n class) (Holds (grid class n n)) (head k)
      (head l) (λ a b among among'. holds_of a b) (stable k l (together_of k l held));
} where
  together_of : (k l : ℕ) → Holds (grid class n n) k l → AreTogether n class k l
  together_of k l held =
      let is = grid_is class n n (k, l) held in record { first = is.0; second = is.1; same = is.2 }

  holds_of : (k l : ℕ) → AreTogether n class k l → Holds (grid class n n) k l
  holds_of k l t = grid_has class n n k l t.first t.second t.same

-- ---- refinement

-- If a closed list of pairs makes two numbers equal, then a split keeps the two numbers in one
-- class.
module _ (n : ℕ) (head : ℕ → HeadOf ℕ) (within : PartsBelow n head) (old new : ℕ → ℕ)
    (keeps_agreeing : (i j : ℕ) → AreTogether n old i j → HeadsAgree (AreTogether n old) (head i)
    (head j) → AreTogether n new i j) where
  pub split_keeps : KeepsTogether n head old → KeepsTogether n head new
  split_keeps keeps i j below below' equal =
      keeps_agreeing i j (keeps i j below below' equal) (HeadsAgree-more (Holds equal.pairs)
      (AreTogether n old) (head i) (head j) together (equal.closed i j equal.holds)) where
        together : (k l : ℕ) → Contains (parts_of (head i)) k → Contains (parts_of (head j)) l
            → Holds equal.pairs k l → AreTogether n old k l
        together k l among among' held =
            keeps k l (within i k below among) (within j l below' among')
            (record { pairs = equal.pairs; holds = held; closed = equal.closed })

-- If two numbers in one class are done after a split, then their heads agree.
module _ (n : ℕ) (head : ℕ → HeadOf ℕ) (old new : ℕ → ℕ) (Member Done : ℕ → Type 0)
    (split : IsSplit n head old new Member) where
  pub split_settles :
      IsStableFor n head old Done → IsStableFor n head new (DoneNow head old new Member Done)
  split_settles stable i j together done done' =
      HeadsAgree-more (AreTogether n old) (AreTogether n new) (head i) (head j)
      (λ k l among among' same. record {
        first = same.first;
        second = same.second;
        same = done.1 k among ∙ same.same ∙ sym (done'.1 l among');
      })
      (⊎_elim (λ member. split.parts i j together member) (λ other. by_other other done'.0) done.0)
    where
      by_other : (Member i → ⊥) × Done i → Member j ⊎ ((Member j → ⊥) × Done j)
          → HeadsAgree (AreTogether n old) (head i) (head j)
      by_other other (inl member) =
          absurd (other.0 (split.whole i j (split.finer i j together) member))
      by_other other (inr before) = stable i j (split.finer i j together) other.1 before.1

-- If numbers whose heads agree up to parts have one class, then equal numbers have one class.
pub start_keeps :
    (n : ℕ) (head : ℕ → HeadOf ℕ) (class : ℕ → ℕ)
    → ((i j : ℕ) → HeadsAgree (λ a b. Unit {0}) (head i) (head j) → class i ≡ class j)
    → KeepsTogether n head class
start_keeps n head class similar i j below below' equal = record {
  first = below;
  second = below';
  same = similar i j (HeadsAgree-more (Holds equal.pairs) (λ a b. Unit {0}) (head i) (head j)
      (λ a b among among' held. tt) (equal.closed i j equal.holds));
}

-- Types are equal if and only if their numbers are equal, for heads whose parts are numbers.
use Rattle.std.proofs.Common.{ℕ, zero, suc, ◌+◌, ◌<◌, ◌≡◌, ◌∙◌, ◌⊎◌, ⊎_elim, inl, inr, List, []}
use Rattle.std.proofs.Common.{◌∷◌, length}
use Rattle.std.proofs.Common.{Option, Some, None, refl, ap, subst, sym, arith}
use Rattle.std.specs.Prelude.{Contains, map, slice_get, option_map}
use Rattle.std.specs.List.{flat_map, filter_map}
use Rattle.std.proofs.lemmas.Option.{same_Some, none-some, slice_get_within}
use Rattle.types_spec.specs.declared.types.decl.Decl.{Decl}
use Rattle.types_spec.specs.declared.types.head.HeadOf.{HeadOf}
use Rattle.types_spec.specs.types.Ty.{Ty}
use Rattle.types_spec.specs.types.Head.{head}
use Rattle.types_spec.specs.types.Equal.{HeadsAgree, Holds, Equal, EqualBy}
use Rattle.types_spec.specs.types.Reached.{parts_of}
use Rattle.types_spec.specs.types.Table.{head_with_parts, head_or_absent, head_at, AreHeadsOf}
use Rattle.base_data.proofs.model.Options.{Contains-first, Contains-later, Contains-none, Contains-cases, Contains-map, Contains-flat_map, map-Contains, flat_map-Contains}
use Rattle.types_spec.proofs.types.TypeListLemmas.{Contains-filter_mapped, filter_mapped_is}
use Rattle.types_theory.proofs.equality.EqualityAgreeLemmas.{HeadsAgree-more}
use Rattle.types_theory.proofs.equality.HeadMapLemmas.{Through, HeadsAgree-map, HeadsAgree-unmap, parts_of-map}
use Rattle.types_theory.proofs.equality.EqualityTableLemmas.{slice_get-mapped, mapped_some}
use Rattle.types_theory.proofs.equality.TyEquality.{types_same_or_not}

module _ (decls : List Decl) (types : List Ty) (all : List (HeadOf ℕ))
    (are : AreHeadsOf decls types all) where
  abbrev Is : ℕ → Ty → Type 0
  Is i u = slice_get types i ≡ Some u

  -- The head at a number is the head of the number's type, with numbers instead of types as parts.
  head_is : (i : ℕ) (u : Ty) → Is i u → head_with_parts (slice_get types)
      (head_at all i) ≡ head_with_parts Some (head decls u)
  head_is i u is =
      let found = mapped_some (head_with_parts (slice_get types)) (slice_get all i)
      (head_with_parts Some (head decls u))
      (sym (slice_get-mapped (head_with_parts (slice_get types)) all i)
      ∙ ap (λ every. slice_get every i) are
      ∙ slice_get-mapped (λ t. head_with_parts Some (head decls t)) types i
      ∙ ap (option_map (λ t. head_with_parts Some (head decls t))) is) in
      ap (λ o. head_with_parts (slice_get types) (head_or_absent o)) found.1 ∙ found.2

  -- A part of the head at a number is the number of a part of the head of the number's type.
  part_known : (i : ℕ) (u : Ty) → Is i u → (a : ℕ) → Contains (parts_of (head_at all i)) a
      → (s : Ty) × Contains (parts_of (head decls u)) s × Is a s
  part_known i u is a among =
      let numbers = Contains-map (slice_get types) (parts_of (head_at all i)) a among in
      let same = sym (parts_of-map (slice_get types) (head_at all i))
      ∙ ap (λ (h : HeadOf (Option Ty)). parts_of h) (head_is i u is)
      ∙ parts_of-map Some (head decls u) in
      let found = map-Contains Some (parts_of (head decls u)) (slice_get types a)
      (subst (λ ps. Contains ps (slice_get types a)) same numbers) in
      (found.0, found.1, sym found.2)

  -- ---- heads that agree

  module _ (Q : Ty → Ty → Type 0) where
    -- `a` and `b` are types, and `Q` relates the two types.
    abbrev Both : Option Ty → Option Ty → Type 0
    Both a b = (t u : Ty) × (a ≡ Some t) × (b ≡ Some u) × Q t u

    both_are : (t u : Ty) → Both (Some t) (Some u) → Q t u
    both_are t u both =
        subst (λ x. Q x u) (sym (same_Some t both.0 both.2))
        (subst (λ x. Q both.0 x) (sym (same_Some u both.1 both.3)) both.4)

    to_types : (i j : ℕ) (t u : Ty) → Is i t → Is j u → HeadsAgree (Through (slice_get types) Both)
        (head_at all i) (head_at all j) → HeadsAgree Q (head decls t) (head decls u)
    to_types i j t u is is' agree =
        let numbers = HeadsAgree-map (slice_get types) Both (head_at all i) (head_at all j) agree in
        let first = subst
        (λ h. HeadsAgree Both h (head_with_parts (slice_get types) (head_at all j)))
        (head_is i t is) numbers in
        let both = subst (λ h. HeadsAgree Both (head_with_parts Some (head decls t)) h)
        (head_is j u is') first in
        HeadsAgree-more (Through Some Both) Q (head decls t) (head decls u) (λ x y among among' b.
        both_are x y b) (HeadsAgree-unmap Some Both (head decls t) (head decls u) both)

    to_numbers : (i j : ℕ) (t u : Ty) → Is i t → Is j u → HeadsAgree Q (head decls t) (head decls u)
        → HeadsAgree (Through (slice_get types) Both) (head_at all i) (head_at all j)
    to_numbers i j t u is is' agree =
        let some = HeadsAgree-more Q (Through Some Both) (head decls t) (head decls u)
        (λ x y among among' q. (x, y, refl, refl, q)) agree in
        let both = HeadsAgree-map Some Both (head decls t) (head decls u) some in
        let first = subst (λ h. HeadsAgree Both h (head_with_parts Some (head decls u)))
        (sym (head_is i t is)) both in
        HeadsAgree-unmap (slice_get types) Both (head_at all i) (head_at all j)
        (subst (λ h. HeadsAgree Both (head_with_parts (slice_get types) (head_at all i)) h)
        (sym (head_is j u is')) first)

  -- ---- equal numbers have equal types

  abbrev pair_if : Option Ty → Option Ty → Option (Ty × Ty)
  pair_if (Some t) (Some u) = Some (t, u)
  pair_if a b = None

  pair_known : (a b : Option Ty) (t u : Ty) → pair_if a b ≡ Some (t, u) → (a ≡ Some t)
      × (b ≡ Some u)
  pair_known (Some x) (Some y) t u is =
      let pair = same_Some (x, y) (t, u) is in
      (ap (λ (p : Ty × Ty). Some p.0) pair, ap (λ (p : Ty × Ty). Some p.1) pair)
  pair_known None None t u is = absurd (none-some (t, u) is)
  pair_known None (Some y) t u is = absurd (none-some (t, u) is)
  pair_known (Some x) None t u is = absurd (none-some (t, u) is)

  abbrev typed : ℕ × ℕ → Option (Ty × Ty)
  typed pair = pair_if (slice_get types pair.0) (slice_get types pair.1)

  typed_is : (pairs : List (ℕ × ℕ)) (t u : Ty) → Holds (filter_map typed pairs) t u → (i j : ℕ)
      × Holds pairs i j × Is i t × Is j u
  typed_is pairs t u held =
      let source = filter_mapped_is typed pairs (t, u) held in
      let known = pair_known (slice_get types source.0.0) (slice_get types source.0.1) t u
      source.2 in
      (source.0.0, source.0.1, source.1, known.0, known.1)

  typed_has : (pairs : List (ℕ × ℕ)) (i j : ℕ) (t u : Ty) → Holds pairs i j → Is i t → Is j u
      → Holds (filter_map typed pairs) t u
  typed_has pairs i j t u held is is' =
      Contains-filter_mapped typed pairs (i, j) (t, u) held (ap (λ a. pair_if a (slice_get types j))
      is ∙ ap (λ b. pair_if (Some t) b) is')

  pub types_equal :
      (i j : ℕ) (t u : Ty) → Is i t → Is j u → EqualBy (head_at all) i j → Equal decls t u
  types_equal i j t u is is' equal = record {
    pairs = filter_map typed equal.pairs;
    holds = typed_has equal.pairs i j t u equal.holds is is';
    closed = λ a b held.
        let source = typed_is equal.pairs a b held in
        to_types (Holds (filter_map typed equal.pairs)) source.0 source.1 a b source.3 source.4
        (HeadsAgree-more (Holds equal.pairs)
        (Through (slice_get types) (Both (Holds (filter_map typed equal.pairs))))
        (head_at all source.0) (head_at all source.1)
        (λ k l among among' both.
        let one = part_known source.0 a source.3 k among in
        let other = part_known source.1 b source.4 l among' in (
          one.0,
          other.0,
          one.2,
          other.2,
          typed_has equal.pairs k l one.0 other.0 both one.2
              other.2,
        ))
        (equal.closed source.0 source.1 source.2));
  }

  -- ---- equal types have equal numbers

  -- If the type at index `i` is the sought type, `i` is in the list of the type's numbers.
  abbrev write_number : {A : Type 0} → ℕ → A ⊎ (A → ⊥) → List ℕ → List ℕ
  write_number i (inl same) rest = i ∷ rest
  write_number i (inr different) rest = rest

  numbers_from : ℕ → List Ty → Ty → List ℕ
  numbers_from i [] t = []
  numbers_from i (u ∷ us) t = write_number i (types_same_or_not u t) (numbers_from (suc i) us t)

  write_has : {A : Type 0} (i j : ℕ) (test : A ⊎ (A → ⊥)) (rest : List ℕ) → (A × (i ≡ j))
      ⊎ Contains rest j → Contains (write_number i test rest) j
  write_has i j (inl same) rest (inl here) =
      subst (λ k. Contains (i ∷ rest) k) here.1 (Contains-first i rest)
  write_has i j (inl same) rest (inr later) = Contains-later i rest j later
  write_has i j (inr different) rest (inl here) = absurd (different here.0)
  write_has i j (inr different) rest (inr later) = later

  write_is : {A : Type 0} (i j : ℕ) (test : A ⊎ (A → ⊥)) (rest : List ℕ)
      → Contains (write_number i test rest) j → (A × (i ≡ j)) ⊎ Contains rest j
  write_is i j (inl same) rest among =
      ⊎_elim (λ here. inl (same, here)) (λ later. inr later) (Contains-cases i rest j among)
  write_is i j (inr different) rest among = inr among

  numbers_has : (i : ℕ) (us : List Ty) (t : Ty) (k : ℕ) → slice_get us k ≡ Some t
      → Contains (numbers_from i us t) (i + k)
  unfolding numbers_from
  numbers_has i [] t zero is = absurd (none-some t is)
  numbers_has i [] t (suc k) is = absurd (none-some t is)
  numbers_has i (u ∷ us) t zero is =
      write_has i (i + 0) (types_same_or_not u t) (numbers_from (suc i) us t)
      (inl (same_Some u t is, omega arith))
  numbers_has i (u ∷ us) t (suc k) is =
      let e : suc i + k ≡ i + suc k = omega arith in
      write_has i (i + suc k) (types_same_or_not u t) (numbers_from (suc i) us t)
      (inr (subst (λ j. Contains (numbers_from (suc i) us t) j) e
      (numbers_has (suc i) us t k is)))

  numbers_is : (i : ℕ) (us : List Ty) (t : Ty) (j : ℕ) → Contains (numbers_from i us t) j → (k : ℕ)
      × (j ≡ i + k) × (slice_get us k ≡ Some t)
  unfolding numbers_from
  numbers_is i [] t j among = absurd (Contains-none j among)
  numbers_is i (u ∷ us) t j among = ⊎_elim
      (λ here. (0, omega (arith, here.1), ap Some here.0))
      (λ later. let found = numbers_is (suc i) us t j later in
      (suc found.0, omega (arith, found.1), found.2))
      (write_is i j (types_same_or_not u t) (numbers_from (suc i) us t) among)

  numbers_of : Ty → List ℕ
  numbers_of t = numbers_from 0 types t

  of_has : (i : ℕ) (t : Ty) → Is i t → Contains (numbers_of t) i
  unfolding numbers_of
  of_has i t is =
      let e : 0 + i ≡ i = omega arith in
      subst (λ j. Contains (numbers_from 0 types t) j) e (numbers_has 0 types t i is)

  of_is : (i : ℕ) (t : Ty) → Contains (numbers_of t) i → Is i t
  unfolding numbers_of
  of_is i t among =
      let found = numbers_is 0 types t i among in
      let e : found.0 ≡ i = omega (arith, found.1) in
      subst (λ k. slice_get types k ≡ Some t) e found.2

  abbrev numbered_pair : Ty × Ty → List (ℕ × ℕ)
  numbered_pair p = flat_map (λ i. map (λ j. (i, j)) (numbers_of p.1)) (numbers_of p.0)

  numbered : List (Ty × Ty) → List (ℕ × ℕ)
  numbered pairs = flat_map numbered_pair pairs

  numbered_has : (pairs : List (Ty × Ty)) (i j : ℕ) (t u : Ty) → Is i t → Is j u → Holds pairs t u
      → Holds (numbered pairs) i j
  unfolding numbered
  numbered_has pairs i j t u is is' held =
      Contains-flat_map numbered_pair pairs (t, u) (i, j) held
      (Contains-flat_map (λ k. map (λ l. (k, l)) (numbers_of u)) (numbers_of t) i (i, j)
      (of_has i t is) (Contains-map (λ l. (i, l)) (numbers_of u) j (of_has j u is')))

  numbered_is : (pairs : List (Ty × Ty)) (i j : ℕ) → Holds (numbered pairs) i j → (t u : Ty)
      × Holds pairs t u × Is i t × Is j u
  unfolding numbered
  numbered_is pairs i j held =
      let pair = flat_map-Contains numbered_pair pairs (i, j) held in
      let row = flat_map-Contains (λ k. map (λ l. (k, l)) (numbers_of pair.0.1)) (numbers_of pair.0.0)
      (i, j) pair.2 in
      let item = map-Contains (λ l. (row.0, l)) (numbers_of pair.0.1) (i, j) row.2 in
      let first : row.0 ≡ i = ap (λ (p : ℕ × ℕ). p.0) item.2 in
      let second : item.0 ≡ j = ap (λ (p : ℕ × ℕ). p.1) item.2 in (
        pair.0.0,
        pair.0.1,
        pair.1,
        of_is i pair.0.0 (subst (λ k. Contains (numbers_of pair.0.0) k)
            first row.1),
        of_is j pair.0.1 (subst (λ k. Contains (numbers_of pair.0.1) k) second
            item.1),
      )

  pub numbers_equal :
      (i j : ℕ) (t u : Ty) → Is i t → Is j u → Equal decls t u → EqualBy (head_at all) i j
  numbers_equal i j t u is is' equal = record {
    pairs = numbered equal.pairs;
    holds = numbered_has equal.pairs i j t u is is' equal.holds;
    closed = λ k l held.
        let source = numbered_is equal.pairs k l held in
        HeadsAgree-more (Through (slice_get types) (Both (Holds equal.pairs)))
        (Holds (numbered equal.pairs)) (head_at all k) (head_at all l)
        (λ a b among among' both. numbered_has equal.pairs a b both.0 both.1 both.2 both.3 both.4)
        (to_numbers (Holds equal.pairs) k l source.0 source.1 source.3 source.4
        (equal.closed source.0 source.1 source.2));
  }

  -- If the types are closed under parts, then each part of the head at a number is the number of a
  -- type.
  pub parts_below :
      (i k : ℕ) → i < length types → Contains (parts_of (head_at all i)) k → k < length types
  parts_below i k below among =
      let own = some_at types i below in
      let known = part_known i own.0 own.1 k among in
      slice_get_within types k known.0 known.2 where
        some_at : (us : List Ty) (n : ℕ) → n < length us → (u : Ty) × (slice_get us n ≡ Some u)
        some_at [] n less = absurd (omega arith)
        some_at (u ∷ us) zero less = (u, refl)
        some_at (u ∷ us) (suc n) less = some_at us n (omega arith)

-- Closed types whose instances keep unequal types distinct. A tuple replaces each variable: the
-- tuple is longer than all reached tuples, and no other variable has a tuple of the same length.
use Rattle.std.proofs.Common.{ℕ, suc, ◌+◌, ◌<◌, ◌≤◌, ◌≡◌, ◌∙◌, ◌⊎◌, ⊎_elim, inl, inr, List, [], ◌∷◌, length, refl, ap, subst, sym, arith}
use Rattle.std.proofs.Common.{Bool, true, false}
use Rattle.std.specs.Prelude.{Contains, map}
use Rattle.std.specs.List.{flat_map}
use Rattle.std.specs.Str.{bytes_eq}
use Rattle.std.proofs.lemmas.Bool.{false≢true}
use Rattle.std.proofs.lemmas.Slice.Eq.{bytes_eq-Decides}
use Rattle.base_data.proofs.model.Options.{Contains-first, Contains-later, Contains-none, Contains-cases, Contains-flat_map, flat_map-Contains}
use Rattle.types_spec.specs.declared.types.decl.Decl.{Decl}
use Rattle.types_spec.specs.declared.types.head.HeadOf.{HeadOf}
use Rattle.types_spec.specs.declared.types.head.HeadOf.TheVariants as heads
use Rattle.types_spec.specs.types.Ty.{Ty, instance}
use Rattle.types_spec.specs.types.Head.{head}
use Rattle.types_spec.specs.types.Shape.{head_shape, shape}
use Rattle.types_spec.specs.types.Fitting.{is_asked}
use Rattle.types_spec.specs.types.WellFormed.{IsSoundType, AreWellFormed}
use Rattle.types_spec.specs.types.Equal.{Pairwise, HeadsAgree, Holds, IsClosed, Equal}
use Rattle.types_spec.specs.types.Reached.{reached_from}
use Rattle.types_spec.specs.types.Table.{head_with_parts}
use Rattle.types_theory.proofs.equality.EqualityAgreeLemmas.{HeadsAgree-more}
use Rattle.types_theory.proofs.equality.EqualLemmas.{HeadsAgree-turn}
use Rattle.types_theory.proofs.equality.HeadInstance.{IsNoVariable}
use Rattle.types_theory.proofs.equality.HeadMapLemmas.{HeadsAgree-unmap}
use Rattle.types_theory.proofs.equality.EqualityReachedLemmas.{parts_here}
use Rattle.types_theory.proofs.equality.TyEquality.{types_same_or_not}
use Rattle.types_theory.specs.type_variables.TypeVariables.{AreClosed}
use Rattle.types_theory.proofs.type_variables.ClosedTypes.{tuple_of, ints, length_ints, tuple_head, tuple_closed}
use Rattle.types_theory.proofs.type_variables.InstanceShapes.{variable_or_not, commutes, replaced}

-- ---- the position of a name

position_if : Bool → ℕ → ℕ
position_if true later = 0
position_if false later = suc later

index : List (List ℕ) → List ℕ → ℕ
index [] x = 0
index (y ∷ ys) x = position_if (bytes_eq y x) (index ys x)

module _ (y x z : List ℕ) where
  by_first : (one other : Bool) (k l : ℕ) → (one ≡ true → y ≡ x) → (other ≡ true → y ≡ z) → (k ≡ l → one ≡ false → other ≡ false → x ≡ z)
      → position_if one k ≡ position_if other l → x ≡ z
  unfolding position_if
  by_first true true k l is is' rest same = sym (is refl) ∙ is' refl
  by_first true false k l is is' rest same = absurd (omega (arith, same))
  by_first false true k l is is' rest same = absurd (omega (arith, same))
  by_first false false k l is is' rest same = rest (omega (arith, same)) refl refl

behind_first : (y : List ℕ) (ys : List (List ℕ)) (w : List ℕ) → Contains (y ∷ ys) w → bytes_eq y w ≡ false → Contains ys w
behind_first y ys w has differs = ⊎_elim
    (λ here. absurd (false≢true (sym differs ∙ (bytes_eq-Decides y w).1 here)))
    (λ rest. rest)
    (Contains-cases y ys w has)

index_same : (ys : List (List ℕ)) (x z : List ℕ) → Contains ys x → Contains ys z → index ys x ≡ index ys z → x ≡ z
unfolding index
index_same [] x z among among' same = absurd (Contains-none x among)
index_same (y ∷ ys) x z among among' same =
    by_first y x z (bytes_eq y x) (bytes_eq y z) (index ys x) (index ys z) (bytes_eq-Decides y x).0 (bytes_eq-Decides y z).0
    (λ later differs differs'. index_same ys x z (behind_first y ys x among differs) (behind_first y ys z among' differs') later)
    same

-- ---- tuples

abbrev tuple_length : HeadOf Ty → ℕ
tuple_length (heads.Tuple ts) = length ts
tuple_length h = 0

Pairwise-length : (P : Ty → Ty → Type 0) (ts us : List Ty) → Pairwise P ts us → length ts ≡ length us
Pairwise-length P [] [] agree = refl
Pairwise-length P (t ∷ ts) (u ∷ us) agree = ap suc (Pairwise-length P ts us agree.1)
Pairwise-length P [] (u ∷ us) agree = absurd agree
Pairwise-length P (t ∷ ts) [] agree = absurd agree

length-map : (f : Ty → Ty) (ts : List Ty) → length (map f ts) ≡ length ts
length-map f [] = refl
length-map f (t ∷ ts) = ap suc (length-map f ts)

-- If the heads of two types agree and one head is a tuple, then the other head is a tuple of the
-- same length.
tuple_too : (P : Ty → Ty → Type 0) (f : Ty → Ty) (ts : List Ty) (h : HeadOf Ty)
    → HeadsAgree P (heads.Tuple ts) (head_with_parts f h) → length ts ≡ tuple_length h
tuple_too P f ts (heads.Tuple us) agree = Pairwise-length P ts (map f us) agree ∙ length-map f us
tuple_too P f ts (heads.Variable x) agree = absurd agree
tuple_too P f ts (heads.Predeclared b us) agree = absurd agree
tuple_too P f ts (heads.Datatype n us) agree = absurd agree
tuple_too P f ts (heads.Variants tags) agree = absurd agree
tuple_too P f ts heads.Absent agree = absurd agree

-- ---- pairs

pair_or_not : (pairs : List (Ty × Ty)) (p : Ty × Ty) → Contains pairs p ⊎ (Contains pairs p → ⊥)
pair_or_not [] p = inr (Contains-none p)
pair_or_not (q ∷ pairs) p = by (same_pair q p) (pair_or_not pairs p) where
  same_pair : (q p : Ty × Ty) → (q ≡ p) ⊎ (q ≡ p → ⊥)
  same_pair q p = both (types_same_or_not q.0 p.0) (types_same_or_not q.1 p.1) where
    both : (q.0 ≡ p.0) ⊎ (q.0 ≡ p.0 → ⊥) → (q.1 ≡ p.1) ⊎ (q.1 ≡ p.1 → ⊥) → (q ≡ p) ⊎ (q ≡ p → ⊥)
    both (inl first) (inl second) = inl (ap (λ a. (a, q.1)) first ∙ ap (λ b. (p.0, b)) second)
    both (inr never) other = inr (λ same. never (ap (λ (x : Ty × Ty). x.0) same))
    both (inl first) (inr never) = inr (λ same. never (ap (λ (x : Ty × Ty). x.1) same))

  by : (q ≡ p) ⊎ (q ≡ p → ⊥) → Contains pairs p ⊎ (Contains pairs p → ⊥) → Contains (q ∷ pairs) p ⊎ (Contains (q ∷ pairs) p → ⊥)
  by (inl same) rest = inl (subst (Contains (q ∷ pairs)) same (Contains-first q pairs))
  by (inr different) (inl later) = inl (Contains-later q pairs p later)
  by (inr different) (inr never) = inr (λ has. ⊎_elim different never (Contains-cases q pairs p has))

module _ (decls : List Decl) (well : AreWellFormed decls) (types : List Ty)
    (sound : (u : Ty) → Contains types u → IsSoundType decls u)
    (listed : (u a : Ty) → Contains types u → Contains (reached_from decls u) a → Contains types a) where
  -- ---- the types that replace variables

  abbrev name_at : HeadOf Ty → List (List ℕ)
  name_at (heads.Variable x) = x ∷ []
  name_at h = []

  names : List (List ℕ)
  names = flat_map (λ t. name_at (head decls t)) types

  named : (t : Ty) (x : List ℕ) → Contains types t → head decls t ≡ heads.Variable x → Contains names x
  unfolding names
  named t x among is =
      Contains-flat_map (λ u. name_at (head decls u)) types t x among
      (subst (λ h. Contains (name_at h) x) (sym is) (Contains-first x []))

  width : List Ty → ℕ
  width [] = 0
  width (t ∷ ts) = tuple_length (head decls t) + width ts

  at_most : (ts : List Ty) (t : Ty) → Contains ts t → tuple_length (head decls t) ≤ width ts
  unfolding width
  at_most [] t among = absurd (Contains-none t among)
  at_most (u ∷ ts) t among = ⊎_elim
      (λ here. subst (λ w. tuple_length (head decls w) ≤ tuple_length (head decls u) + width ts) here (omega arith))
      (λ later. let below = at_most ts t later in omega (arith, below))
      (Contains-cases u ts t among)

  long : List ℕ → ℕ
  long x = suc (width types + index names x)

  pub apart : List ℕ → Ty
  apart x = tuple_of decls well (suc (long x))

  pub apart_closed : AreClosed decls apart
  unfolding apart
  apart_closed x = tuple_closed decls well (suc (long x))

  abbrev new : Ty → Ty
  new t = instance apart t

  apart_head : (x : List ℕ) → head decls (apart x) ≡ heads.Tuple (ints decls well (suc (long x)))
  unfolding apart
  apart_head x = tuple_head decls well (suc (long x))

  -- No type that replaces a variable is `_`.
  pub apart_asked : (x : List ℕ) → is_asked (shape decls (apart x)) ≡ true
  apart_asked x = ap (λ h. is_asked (head_shape decls h)) (apart_head x)

  same_name : (x y : List ℕ) → Contains names x → Contains names y → suc (long x) ≡ suc (long y) → x ≡ y
  unfolding long
  same_name x y among among' same = index_same names x y among among' (omega (arith, same))

  longer : (x : List ℕ) → width types < suc (long x)
  unfolding long
  longer x = omega arith

  -- ---- equal instances

  module _ (pairs : List (Ty × Ty)) (shut : IsClosed (head decls) pairs) where
    abbrev Here : Ty × Ty → Type 0
    Here p = Contains pairs (new p.0, new p.1)

    back_if : (p : Ty × Ty) → Here p ⊎ (Here p → ⊥) → List (Ty × Ty)
    back_if p (inl there) = p ∷ []
    back_if p (inr never) = []

    backs : Ty → Ty → List (Ty × Ty)
    backs t u = back_if (t, u) (pair_or_not pairs (new t, new u))

    back : List (Ty × Ty)
    back = flat_map (λ t. flat_map (backs t) types) types

    if_has : (p : Ty × Ty) (test : Here p ⊎ (Here p → ⊥)) → Here p → Contains (back_if p test) p
    unfolding back_if
    if_has p (inl there) here = Contains-first p []
    if_has p (inr never) here = absurd (never here)

    if_is : (p q : Ty × Ty) (test : Here p ⊎ (Here p → ⊥)) → Contains (back_if p test) q → Here p × (p ≡ q)
    unfolding back_if
    if_is p q (inl there) has =
        (there, ⊎_elim (λ is. is) (λ never. absurd (Contains-none q never)) (Contains-cases p [] q has))
    if_is p q (inr never) has = absurd (Contains-none q has)

    back_has : (t u : Ty) → Contains types t → Contains types u → Contains pairs (new t, new u) → Contains back (t, u)
    unfolding back backs
    back_has t u among among' here =
        Contains-flat_map (λ a. flat_map (backs a) types) types t (t, u) among
        (Contains-flat_map (backs t) types u (t, u) among' (if_has (t, u) (pair_or_not pairs (new t, new u)) here))

    back_is : (a b : Ty) → Contains back (a, b) → Contains types a × Contains types b × Contains pairs (new a, new b)
    unfolding back backs
    back_is a b has =
        let one = flat_map-Contains (λ t. flat_map (backs t) types) types (a, b) has in
        let other = flat_map-Contains (backs one.0) types (a, b) one.2 in
        let is = if_is (one.0, other.0) (a, b) (pair_or_not pairs (new one.0, new other.0)) other.2 in
        let first : one.0 ≡ a = ap (λ (p : Ty × Ty). p.0) is.1 in
        let second : other.0 ≡ b = ap (λ (p : Ty × Ty). p.1) is.1 in (
          subst (Contains types) first one.1,
          subst (Contains types) second other.1,
          subst (λ w. Contains pairs (new w, new b)) first (subst (λ w. Contains pairs (new one.0, new w)) second is.0),
        )

    abbrev MaybeVariable : HeadOf Ty → Type 0
    MaybeVariable h = ((x : List ℕ) × (h ≡ heads.Variable x)) ⊎ IsNoVariable h

    module _ (a b : Ty) (among : Contains types a) (among' : Contains types b)
        (agree : HeadsAgree (Holds pairs) (head decls (new a)) (head decls (new b))) where
      stands : (t : Ty) (x : List ℕ) → Contains types t → head decls t ≡ heads.Variable x
          → head decls (new t) ≡ heads.Tuple (ints decls well (suc (long x)))
      stands t x in_types is = replaced decls well apart t (sound t in_types) x is ∙ apart_head x

      never_long : (x : List ℕ) (t : Ty) → Contains types t → length (ints decls well (suc (long x))) ≡ tuple_length (head decls t) → ⊥
      never_long x t in_types same =
          let is = length_ints decls well (suc (long x)) in
          let below = at_most types t in_types in
          let above = longer x in
          omega (arith, same, is, below, above)

      heads_back : MaybeVariable (head decls a) → MaybeVariable (head decls b) → HeadsAgree (Holds back) (head decls a) (head decls b)
      heads_back (inl at) (inl at') =
          let here : HeadsAgree (Holds pairs) (heads.Tuple (ints decls well (suc (long at.0)))) (heads.Tuple (ints decls well (suc (long at'.0)))) =
          subst (λ h. HeadsAgree (Holds pairs) (heads.Tuple (ints decls well (suc (long at.0)))) h) (stands b at'.0 among' at'.1)
          (subst (λ h. HeadsAgree (Holds pairs) h (head decls (new b))) (stands a at.0 among at.1) agree) in
          let lengths = sym (length_ints decls well (suc (long at.0)))
          ∙ Pairwise-length (Holds pairs) (ints decls well (suc (long at.0))) (ints decls well (suc (long at'.0))) here
          ∙ length_ints decls well (suc (long at'.0)) in
          let same : at.0 ≡ at'.0 = same_name at.0 at'.0 (named a at.0 among at.1) (named b at'.0 among' at'.1) lengths in
          subst (λ h. HeadsAgree (Holds back) h (head decls b)) (sym at.1)
          (subst (λ h. HeadsAgree (Holds back) (heads.Variable at.0) h) (sym at'.1) same)
      heads_back (inl at) (inr free) =
          let here = subst (λ h. HeadsAgree (Holds pairs) (heads.Tuple (ints decls well (suc (long at.0)))) h)
          (commutes decls well apart b (sound b among') free)
          (subst (λ h. HeadsAgree (Holds pairs) h (head decls (new b))) (stands a at.0 among at.1) agree) in
          absurd (never_long at.0 b among' (tuple_too (Holds pairs) new (ints decls well (suc (long at.0))) (head decls b) here))
      heads_back (inr free) (inl at) =
          let turned = HeadsAgree-turn (Holds pairs) (λ t u. Holds pairs u t) (λ t u held. held) (head decls (new a)) (head decls (new b)) agree in
          let here = subst (λ h. HeadsAgree (λ t u. Holds pairs u t) (heads.Tuple (ints decls well (suc (long at.0)))) h)
          (commutes decls well apart a (sound a among) free)
          (subst (λ h. HeadsAgree (λ t u. Holds pairs u t) h (head decls (new a))) (stands b at.0 among' at.1) turned) in
          absurd (never_long at.0 a among
          (tuple_too (λ t u. Holds pairs u t) new (ints decls well (suc (long at.0))) (head decls a) here))
      heads_back (inr free) (inr free') =
          let here = subst (λ h. HeadsAgree (Holds pairs) (head_with_parts new (head decls a)) h)
          (commutes decls well apart b (sound b among') free')
          (subst (λ h. HeadsAgree (Holds pairs) h (head decls (new b))) (commutes decls well apart a (sound a among) free) agree) in
          HeadsAgree-more (λ t u. Holds pairs (new t) (new u)) (Holds back) (head decls a) (head decls b)
          (λ t u has has' held. back_has t u (parts_here decls types listed a t among has)
          (parts_here decls types listed b u among' has') held)
          (HeadsAgree-unmap new (Holds pairs) (head decls a) (head decls b) here)

    back_shut : IsClosed (head decls) back
    back_shut a b held =
        let is = back_is a b held in
        heads_back a b is.0 is.1 (shut (new a) (new b) is.2) (variable_or_not (head decls a)) (variable_or_not (head decls b))

  -- If two reached types have equal instances, then the two types are equal.
  pub kept_apart : (t u : Ty) → Contains types t → Contains types u → Equal decls (new t) (new u) → Equal decls t u
  kept_apart t u among among' equal = record {
    pairs = back equal.pairs equal.closed;
    holds = back_has equal.pairs equal.closed t u among among' equal.holds;
    closed = back_shut equal.pairs equal.closed;
  }

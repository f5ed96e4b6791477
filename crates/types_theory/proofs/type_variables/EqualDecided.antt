-- If a finite list of types contains the parts of its types, then equality of types of the list is
-- decidable. The decision starts with all pairs. The decision removes each pair whose heads do not
-- agree by the remaining pairs, until no pair can be removed.
use Rattle.std.proofs.Common.{ℕ, zero, suc, ◌<◌, ◌≡◌, ◌∙◌, ◌⊎◌, ⊎_elim, inl, inr, List, [], ◌∷◌, length, Option, Some, None, refl, ap, subst, sym, arith}
use Rattle.std.specs.Prelude.{Contains, map, slice_get}
use Rattle.std.specs.List.{flat_map}
use Rattle.std.specs.Str.{bytes_eq}
use Rattle.std.proofs.lemmas.Option.{same_Some}
use Rattle.std.proofs.lemmas.Slice.Eq.{bytes_eq-Decides}
use Rattle.base_data.proofs.model.Options.{Contains-map, Contains-flat_map, true_or_not}
use Rattle.types_spec.specs.declared.types.decl.Predeclared.{Predeclared}
use Rattle.types_spec.specs.declared.types.decl.Predeclared.TheVariants as bases
use Rattle.types_spec.specs.declared.types.decl.Decl.{Decl}
use Rattle.types_spec.specs.declared.types.head.HeadOf.{HeadOf}
use Rattle.types_spec.specs.declared.types.head.HeadOf.TheVariants as heads
use Rattle.types_spec.specs.declared.types.head.TagOf.{TagOf}
use Rattle.types_spec.specs.types.Ty.{Ty}
use Rattle.types_spec.specs.types.Head.{head}
use Rattle.types_spec.specs.types.Equal.{Pairwise, ArgumentsAgree, TagsAgree, SameTags, HeadsAgree, Holds, IsClosed, Equal}
use Rattle.types_spec.specs.types.Reached.{parts_of}
use Rattle.types_theory.proofs.typing.Choices.{search_all, without}
use Rattle.types_theory.proofs.equality.EqualityAgreeLemmas.{HeadsAgree-more}
use Rattle.types_theory.proofs.equality.TyEquality.{types_same_or_not}

-- ---- decidable properties

abbrev pub OrNot : Type 0 → Type 0
OrNot A = A ⊎ (A → ⊥)

both_or_not : (A B : Type 0) → OrNot A → OrNot B → OrNot (A × B)
both_or_not A B (inl a) (inl b) = inl (a, b)
both_or_not A B (inr never) other = inr (λ both. never both.0)
both_or_not A B (inl a) (inr never) = inr (λ both. never both.1)

if_or_not : (A B : Type 0) → (A → B) → (B → A) → OrNot A → OrNot B
if_or_not A B forth back (inl a) = inl (forth a)
if_or_not A B forth back (inr never) = inr (λ b. never (back b))

module _ {X : Type 0} (Q : X → Type 0) (test : (x : X) → OrNot (Q x)) (xs : List X) where
  abbrev pub Fails : Type 0
  Fails = (x : X) × Contains xs x × (Q x → ⊥)

  abbrev pub All : Type 0
  All = (x : X) → Contains xs x → Q x

  abbrev Some_one : Type 0
  Some_one = (x : X) × Contains xs x × Q x

  -- Either one element of the list does not have the property, or all elements have the property.
  pub fails_or_all : Fails ⊎ All
  fails_or_all = search_all Q xs (λ x among. by x among (test x)) where
    by : (x : X) → Contains xs x → OrNot (Q x) → Fails ⊎ Q x
    by x among (inl holds) = inr holds
    by x among (inr never) = inl (x, among, never)

  all_or_not : OrNot All
  all_or_not = ⊎_elim (λ fails. inr (λ all. fails.2 (all fails.0 fails.1))) (λ all. inl all) fails_or_all

  some_or_not : OrNot Some_one
  some_or_not = ⊎_elim (λ found. inl found) (λ none. inr (λ found. none found.0 found.1 found.2))
      (search_all (λ x. Q x → ⊥) xs (λ x among. by x among (test x))) where
        by : (x : X) → Contains xs x → OrNot (Q x) → Some_one ⊎ (Q x → ⊥)
        by x among (inl holds) = inl (x, among, holds)
        by x among (inr never) = inr never

names_or_not : (a b : List ℕ) → OrNot (a ≡ b)
names_or_not a b = ⊎_elim
    (λ yes'. inl ((bytes_eq-Decides a b).0 yes'))
    (λ no'. inr (λ same. no' ((bytes_eq-Decides a b).1 same)))
    (true_or_not (bytes_eq a b))

-- The number of the kind of a predeclared type, and the row of a variant or 0.
abbrev code_of : Predeclared → List ℕ
code_of bases.Int = 0 ∷ 0 ∷ []
code_of bases.Char = 1 ∷ 0 ∷ []
code_of bases.Bool = 2 ∷ 0 ∷ []
code_of bases.Unit = 3 ∷ 0 ∷ []
code_of bases.String = 4 ∷ 0 ∷ []
code_of bases.Bytes = 5 ∷ 0 ∷ []
code_of bases.Float = 6 ∷ 0 ∷ []
code_of bases.Int32 = 7 ∷ 0 ∷ []
code_of bases.Int64 = 8 ∷ 0 ∷ []
code_of bases.Nativeint = 9 ∷ 0 ∷ []
code_of bases.Floatarray = 10 ∷ 0 ∷ []
code_of bases.Array = 11 ∷ 0 ∷ []
code_of bases.Any = 12 ∷ 0 ∷ []
code_of (bases.Sum k) = 13 ∷ k ∷ []

abbrev in_order : ℕ → List Predeclared
in_order k =
    bases.Int ∷ bases.Char ∷ bases.Bool ∷ bases.Unit ∷ bases.String ∷ bases.Bytes ∷ bases.Float ∷ bases.Int32
    ∷ bases.Int64 ∷ bases.Nativeint ∷ bases.Floatarray ∷ bases.Array ∷ bases.Any ∷ bases.Sum k ∷ []

abbrev base_of : List ℕ → Option Predeclared
base_of (kind ∷ k ∷ []) = slice_get (in_order k) kind
base_of code = None

of_code : (b : Predeclared) → base_of (code_of b) ≡ Some b
of_code bases.Int = refl
of_code (bases.Sum k) = refl
of_code b = refl

bases_or_not : (b c : Predeclared) → OrNot (b ≡ c)
bases_or_not b c = if_or_not (code_of b ≡ code_of c) (b ≡ c)
    (λ same. same_Some b c (sym (of_code b) ∙ ap base_of same ∙ of_code c))
    (λ same. ap code_of same)
    (names_or_not (code_of b) (code_of c))

-- ---- heads that agree

module _ {T : Type 0} (P : T → T → Type 0) (test : (t u : T) → OrNot (P t u)) where
  pairwise_or_not : (ts us : List T) → OrNot (Pairwise P ts us)
  pairwise_or_not [] [] = inl tt
  pairwise_or_not [] (u ∷ us) = inr (λ never. never)
  pairwise_or_not (t ∷ ts) [] = inr (λ never. never)
  pairwise_or_not (t ∷ ts) (u ∷ us) = both_or_not (P t u) (Pairwise P ts us) (test t u) (pairwise_or_not ts us)

  arguments_or_not : (t u : Option T) → OrNot (ArgumentsAgree P t u)
  arguments_or_not None None = inl tt
  arguments_or_not None (Some u) = inr (λ never. never)
  arguments_or_not (Some t) None = inr (λ never. never)
  arguments_or_not (Some t) (Some u) = test t u

  tags_or_not : (t u : TagOf T) → OrNot (TagsAgree P t u)
  tags_or_not t u = both_or_not (t.name ≡ u.name) (ArgumentsAgree P t.argument u.argument)
      (names_or_not t.name u.name) (arguments_or_not t.argument u.argument)

  abbrev There : List (TagOf T) → TagOf T → Type 0
  There others tag = (other : TagOf T) × Contains others other × TagsAgree P tag other

  abbrev Back : List (TagOf T) → TagOf T → Type 0
  Back tags other = (tag : TagOf T) × Contains tags tag × TagsAgree P tag other

  same_tags_or_not : (tags others : List (TagOf T)) → OrNot (SameTags P tags others)
  same_tags_or_not tags others = if_or_not
      (((tag : TagOf T) → Contains tags tag → There others tag) × ((other : TagOf T) → Contains others other → Back tags other))
      (SameTags P tags others)
      (λ both. record { there = both.0; back = both.1 })
      (λ same. (same.there, same.back))
      (both_or_not ((tag : TagOf T) → Contains tags tag → There others tag) ((other : TagOf T) → Contains others other → Back tags other)
      (all_or_not (There others) (λ tag. some_or_not (TagsAgree P tag) (tags_or_not tag) others) tags)
      (all_or_not (Back tags) (λ other. some_or_not (λ tag. TagsAgree P tag other) (λ tag. tags_or_not tag other) tags) others))

  heads_or_not : (h k : HeadOf T) → OrNot (HeadsAgree P h k)
  heads_or_not (heads.Variable x) (heads.Variable y) = names_or_not x y
  heads_or_not (heads.Predeclared b ts) (heads.Predeclared c us) =
      both_or_not (b ≡ c) (Pairwise P ts us) (bases_or_not b c) (pairwise_or_not ts us)
  heads_or_not (heads.Datatype m ts) (heads.Datatype n us) =
      both_or_not (m ≡ n) (Pairwise P ts us) (names_or_not m n) (pairwise_or_not ts us)
  heads_or_not (heads.Tuple ts) (heads.Tuple us) = pairwise_or_not ts us
  heads_or_not (heads.Variants tags) (heads.Variants others) = same_tags_or_not tags others
  heads_or_not heads.Absent heads.Absent = inl tt
  heads_or_not h k = inr (λ never. never)

-- ---- pairs

abbrev Pair : Type 0
Pair = Ty × Ty

pairs_same_or_not : (p q : Pair) → OrNot (p ≡ q)
pairs_same_or_not p q = if_or_not ((p.0 ≡ q.0) × (p.1 ≡ q.1)) (p ≡ q)
    (λ both. ap (λ a. (a, p.1)) both.0 ∙ ap (λ b. (q.0, b)) both.1)
    (λ same. (ap (λ (r : Pair). r.0) same, ap (λ (r : Pair). r.1) same))
    (both_or_not (p.0 ≡ q.0) (p.1 ≡ q.1) (types_same_or_not p.0 q.0) (types_same_or_not p.1 q.1))

-- Whether a list of pairs contains this pair is decidable.
pub holds_or_not : (pairs : List Pair) (t u : Ty) → OrNot (Holds pairs t u)
holds_or_not pairs t u = if_or_not ((p : Pair) × Contains pairs p × (p ≡ (t, u))) (Holds pairs t u)
    (λ found. subst (Contains pairs) found.2 found.1)
    (λ held. ((t, u), held, refl))
    (some_or_not (λ p. p ≡ (t, u)) (λ p. pairs_same_or_not p (t, u)) pairs)

module _ (decls : List Decl) (types : List Ty)
    (parts : (u a : Ty) → Contains types u → Contains (parts_of (head decls u)) a → Contains types a) where
  -- The list `pairs` contains each pair of equal types of the list `types`.
  abbrev Keeps : List Pair → Type 0
  Keeps pairs = (t u : Ty) → Contains types t → Contains types u → Equal decls t u → Holds pairs t u

  -- A list of exactly the pairs of equal types among `types`.
  pub record AreEqualPairs : Type 0 where
    pub pairs : List Pair
    pub closed : IsClosed (head decls) pairs
    pub keeps : Keeps pairs

  agree : (pairs : List Pair) → Keeps pairs → (t u : Ty) → Contains types t → Contains types u → Equal decls t u
      → HeadsAgree (Holds pairs) (head decls t) (head decls u)
  agree pairs keeps t u among among' equal =
      HeadsAgree-more (Holds equal.pairs) (Holds pairs) (head decls t) (head decls u)
      (λ a b part part' held. keeps a b (parts t a among part) (parts u b among' part')
      (record { pairs = equal.pairs; holds = held; closed = equal.closed }))
      (equal.closed t u equal.holds)

  Agrees : List Pair → Pair → Type 0
  Agrees pairs p = HeadsAgree (Holds pairs) (head decls p.0) (head decls p.1)

  settled : (n : ℕ) (pairs : List Pair) → length pairs < n → Keeps pairs → AreEqualPairs
  unfolding Agrees
  settled zero pairs short keeps = absurd (omega (arith, short))
  settled (suc n) pairs short keeps = ⊎_elim
      (λ fails. let left = without pairs fails.0 fails.1 in
      settled n left.rest (omega (arith, short, left.shorter)) (λ t u among among' equal. ⊎_elim
      (λ same. absurd (fails.2 (subst (Agrees pairs) (sym same) (agree pairs keeps t u among among' equal))))
      (λ later. later)
      (left.others (t, u) (keeps t u among among' equal))))
      (λ all. record { pairs = pairs; closed = λ t u held. all (t, u) held; keeps = keeps })
      (fails_or_all (Agrees pairs)
      (λ p. heads_or_not (Holds pairs) (holds_or_not pairs) (head decls p.0) (head decls p.1)) pairs)

  abbrev all_pairs : List Pair
  all_pairs = flat_map (λ t. map (λ u. (t, u)) types) types

  pub equal_pairs : AreEqualPairs
  equal_pairs = settled (suc (length all_pairs)) all_pairs (omega arith)
      (λ t u among among' equal. Contains-flat_map (λ a. map (λ b. (a, b)) types) types t (t, u) among
      (Contains-map (λ b. (t, b)) types u among'))

-- The head of a sound type has as many arguments as its datatype takes.
use Rattle.std.proofs.Common.{ℕ, zero, suc, ◌+◌, ◌<◌, ◌≡◌, ◌∙◌, List, [], ◌∷◌, ◌++◌, length}
use Rattle.std.proofs.Common.{Option, Some, None, refl, ap, subst, sym, arith}
use Rattle.std.proofs.lemmas.Option.{same_Some}
use Rattle.types_spec.specs.declared.types.decl.Predeclared.{Predeclared}
use Rattle.types_spec.specs.declared.types.decl.Decl.{Decl}
use Rattle.types_spec.specs.declared.types.head.TagOf.{TagOf}
use Rattle.types_spec.specs.declared.types.head.HeadOf.{HeadOf}
use Rattle.types_spec.specs.declared.types.head.HeadOf.TheVariants as heads
use Rattle.types_spec.specs.types.Ty.{Ty, variable, named, tuple, bracket, part, tag, tag_of, including}
use Rattle.types_spec.specs.types.Declarations.{predeclared, declaration_of, arity_in, arity_of, unfolded}
use Rattle.types_spec.specs.types.Head.{with_tags, bare_tag, carrying_tag, tags_in, head_meant, with_part, plain_head, head}
use Rattle.types_spec.specs.types.WellFormed.{TakeArguments, IsSoundType, AreWellFormed}
use Rattle.types_theory.proofs.equality.HeadInstance.{weighs, falls_to, again, plain}
use Rattle.types_theory.proofs.equality.EqualitySoundLemmas.{sound_unfolded}

pub length-push : {X : Type 0} (xs : List X) (x : X) → length (xs ++ x ∷ []) ≡ suc (length xs)
length-push [] x = refl
length-push (y ∷ xs) x = ap suc (length-push xs x)

-- If the head is a datatype, then the datatype takes the arguments of the head and `k` more
-- arguments.
abbrev pub HasArity : List Decl → HeadOf Ty → ℕ → Type 0
HasArity decls (heads.Datatype n ts) k = arity_of decls n ≡ Some (length ts + k)
HasArity decls h k = Unit {0}

module _ (decls : List Decl) where
  part_arity : (h : HeadOf Ty) (a : Ty) (k : ℕ) → HasArity decls h (suc k) → HasArity decls (with_part h a) k
  part_arity (heads.Variable x) a k given = tt
  part_arity (heads.Predeclared b ts) a k given = tt
  part_arity (heads.Datatype n ts) a k given =
      let more : length ts + suc k ≡ length (ts ++ a ∷ []) + k = omega (arith, length-push ts a) in
      given ∙ ap Some more
  part_arity (heads.Tuple ts) a k given = tt
  part_arity (heads.Variants tags) a k given = tt
  part_arity heads.Absent a k given = tt

  tags_arity : (h : HeadOf Ty) (more : List (TagOf Ty)) (k : ℕ) → HasArity decls (with_tags h more) k
  tags_arity (heads.Variable x) more k = tt
  tags_arity (heads.Predeclared b ts) more k = tt
  tags_arity (heads.Datatype n ts) more k = tt
  tags_arity (heads.Tuple ts) more k = tt
  tags_arity (heads.Variants tags) more k = tt
  tags_arity heads.Absent more k = tt

  meant_arity : (base : Option Predeclared) (n : List ℕ) (k : ℕ) → arity_of decls n ≡ Some k → HasArity decls (head_meant base n) k
  meant_arity None n k given =
      let none : k ≡ 0 + k = omega arith in
      given ∙ ap Some none
  meant_arity (Some b) n k given = tt

  plain_arity : (f : Ty → HeadOf Ty) (k : ℕ) (t : Ty) → TakeArguments decls k t → HasArity decls (plain_head f t) k
  plain_arity f k (variable x) given = tt
  plain_arity f k (named n) given = meant_arity (predeclared n) n k given
  plain_arity f k tuple given = tt
  plain_arity f k bracket given = tt
  plain_arity f k (part t a) given = part_arity (plain_head f t) a k (plain_arity f (suc k) t given.0)
  plain_arity f k (tag t x) given = tags_arity (plain_head f t) (bare_tag x ∷ []) k
  plain_arity f k (tag_of t x a) given = tags_arity (plain_head f t) (carrying_tag x a ∷ []) k
  plain_arity f k (including t a) given = tags_arity (plain_head f t) (tags_in (f a)) k

module _ (decls : List Decl) (well : AreWellFormed decls) where
  Known : ℕ → Type 0
  Known k = (t : Ty) → weighs decls well t < k → IsSoundType decls t → HasArity decls (head decls t) 0

  one_known : (k : ℕ) → Known k → (t : Ty) → weighs decls well t < suc k → IsSoundType decls t
      → (next : Option Ty) → unfolded decls t ≡ next → HasArity decls (head decls t) 0
  unfolding Known
  one_known k known t below s None is =
      subst (λ h. HasArity decls h 0) (sym (plain decls well t is)) (plain_arity decls (head decls) 0 t s.arguments)
  one_known k known t below s (Some u) is =
      subst (λ h. HasArity decls h 0) (sym (again decls well t u is))
      (known u (omega (arith, falls_to decls well t u is, below)) (sound_unfolded decls well t u s is))

  all_known : (k : ℕ) → Known k
  unfolding Known
  all_known zero t below s = absurd (omega (arith, below))
  all_known (suc k) t below s = one_known k (all_known k) t below s (unfolded decls t) refl

  head_arity : (t : Ty) → IsSoundType decls t → HasArity decls (head decls t) 0
  unfolding Known
  head_arity t s = all_known (suc (weighs decls well t)) t (omega arith) s

  -- The head of a sound type has as many arguments as the declaration of its datatype has
  -- parameters.
  pub as_many : (t : Ty) → IsSoundType decls t → (n : List ℕ) (ts : List Ty) → head decls t ≡ heads.Datatype n ts
      → (d : Decl) → declaration_of decls n ≡ Some d → length ts ≡ length d.parameters
  as_many t s n ts is d found =
      let arity : arity_of decls n ≡ Some (length ts + 0) = subst (λ h. HasArity decls h 0) is (head_arity t s) in
      let declared : arity_of decls n ≡ Some (length d.parameters) =
      ap (λ base. arity_in base (declaration_of decls n)) (well.new_names n d found) ∙ ap (arity_in None) found in
      let same = same_Some (length ts + 0) (length d.parameters) (sym arity ∙ declared) in
      omega (arith, same)

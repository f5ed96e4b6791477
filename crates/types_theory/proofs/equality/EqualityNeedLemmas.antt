-- Equal types require fields at equal types. If two argument lists of a datatype are equal element
-- by element, the fields of the datatype have equal types.
use Rattle.std.proofs.Common.{ℕ, zero, suc, ◌<◌, ◌≡◌, ◌∙◌, List, [], ◌∷◌, Option, Some, None, refl}
use Rattle.std.proofs.Common.{sym, ap, inl, arith}
use Rattle.types_spec.specs.declared.types.head.HeadOf.{HeadOf}
use Rattle.types_spec.specs.declared.types.decl.Body.TheVariants as bodies
use Rattle.types_spec.specs.declared.types.decl.Decl.{Decl}
use Rattle.types_spec.specs.declared.types.decl.Body.{Body}
use Rattle.types_spec.specs.types.Ty.{Ty}
use Rattle.types_spec.specs.types.Declarations.{unfolded, declaration_of, abbreviated}
use Rattle.types_spec.specs.types.Head.{plain_head, head}
use Rattle.types_spec.specs.types.Equal.{Pairwise, HeadsAgree, Holds, IsClosed}
use Rattle.types_theory.proofs.equality.EqualitySettledLemmas as settled
use Rattle.types_theory.proofs.equality.SimilarLemmas.{Similar, HasTypes}
use Rattle.types_theory.proofs.equality.EqualityHeadLemmas.{similar_agree}
use Rattle.types_theory.proofs.equality.WeightLemmas.{AreRanked, heft, falls, bound, by_part, by_including}
use Rattle.types_theory.proofs.equality.WeightLemmas.{inside, price, priced}

module _ (decls : List Decl) (rank : List ℕ → ℕ) (ranked : AreRanked decls rank) where
  -- One expansion of an abbreviation at the head of a type does not change the type's head.
  pub head_again : (t u : Ty) → unfolded decls t ≡ Some u → head decls t ≡ head decls u
  head_again t u is = settled.again decls (heft decls rank ranked) (falls decls rank ranked)
      (λ t a. by_part (price decls rank ranked) (priced decls rank ranked) t a) (λ t x. omega arith)
      (λ t x a. omega arith)
      (λ t a. by_including (price decls rank ranked) (priced decls rank ranked) t a)
      (λ t a. inside (price decls rank ranked) (priced decls rank ranked) t a)
      (bound decls rank ranked) t u is

  -- If no abbreviation is at the head of a type, the head of the type is the written head.
  pub head_plain : (t : Ty) → unfolded decls t ≡ None → head decls t ≡ plain_head (head decls) t
  head_plain t is = settled.plain decls (heft decls rank ranked) (falls decls rank ranked)
      (λ t a. by_part (price decls rank ranked) (priced decls rank ranked) t a) (λ t x. omega arith)
      (λ t x a. omega arith)
      (λ t a. by_including (price decls rank ranked) (priced decls rank ranked) t a)
      (λ t a. inside (price decls rank ranked) (priced decls rank ranked) t a)
      (bound decls rank ranked) t is

  typed_body : (name : List ℕ) (d : Decl) → declaration_of decls name ≡ Some d → (body : Body)
      → d.body ≡ body → HasTypes body
  typed_body name d found (bodies.Abbreviation t) is =
      (ranked.falls name d t found (ap abbreviated is)).3
  typed_body name d found (bodies.Record fields) is = tt
  typed_body name d found (bodies.Variant constructors) is = tt

  module _ (pairs : List (Ty × Ty)) (closed : IsClosed (head decls) pairs) where
    pub similar_heads :
        (t u : Ty) → Similar pairs t u → HeadsAgree (Similar pairs) (head decls t) (head decls u)
    similar_heads t u similar =
        similar_agree decls (λ name d found. typed_body name d found d.body refl) (head decls)
        head_again head_plain
        (heft decls rank ranked) (falls decls rank ranked)
        (λ t a. by_part (price decls rank ranked) (priced decls rank ranked) t a)
        (λ t x. omega arith) (λ t x a. omega arith)
        (λ t a. by_including (price decls rank ranked) (priced decls rank ranked) t a)
        (λ t a. inside (price decls rank ranked) (priced decls rank ranked) t a)
        pairs closed t u similar

    pub held_similar : (ts us : List Ty) → Pairwise (Holds pairs) ts us → Pairwise (Similar pairs) ts us
    held_similar [] [] held = tt
    held_similar (t ∷ ts) (u ∷ us) held = (inl held.0, held_similar ts us held.1)
    held_similar [] (u ∷ us) held = absurd held
    held_similar (t ∷ ts) [] held = absurd held

-- ---- uniqueness of the head

module _ (decls : List Decl) (rank : List ℕ → ℕ) (ranked : AreRanked decls rank)
    (other : Ty → HeadOf Ty) (again : (t u : Ty) → unfolded decls t ≡ Some u → other t ≡ other u)
    (plain : (t : Ty) → unfolded decls t ≡ None → other t ≡ plain_head other t) where
  abbrev weighs : Ty → ℕ
  weighs t = heft decls rank ranked t

  abbrev Below : ℕ → Type 0
  Below k = (t : Ty) → weighs t < k → other t ≡ head decls t

  one_more : (k : ℕ) → Below k → (t : Ty) → weighs t < suc k → (next : Option Ty)
      → unfolded decls t ≡ next → other t ≡ head decls t
  one_more k known t below (Some u) is =
      again t u is ∙ known u (omega (arith, falls decls rank ranked t u is, below))
      ∙ sym (head_again decls rank ranked t u is)
  one_more k known t below None is =
      plain t is
      ∙ settled.plain_same decls weighs (falls decls rank ranked)
      (λ s a. by_part (price decls rank ranked) (priced decls rank ranked) s a) (λ s x. omega arith)
      (λ s x a. omega arith)
      (λ s a. by_including (price decls rank ranked) (priced decls rank ranked) s a)
      (λ s a. inside (price decls rank ranked) (priced decls rank ranked) s a)
      (weighs t) other (head decls) (λ a less. known a (omega (arith, less, below))) t (omega arith)
      ∙ sym (head_plain decls rank ranked t is)

  all_below : (k : ℕ) → Below k
  all_below zero t below = absurd (omega arith)
  all_below (suc k) t below = one_more k (all_below k) t below (unfolded decls t) refl

  -- Let a function not change under expansion at the head, and give the written head for types
  -- without an abbreviation at the head. The function is `head`.
  pub only_head : (t : Ty) → other t ≡ head decls t
  only_head t = all_below (suc (weighs t)) t (omega arith)

-- If enough expansions are allowed, the head of a type is the head of the type's expansion.
use Rattle.std.proofs.Common.{ℕ, zero, suc, ◌<◌, ◌≤◌, ◌≡◌, ◌∙◌, List, [], ◌∷◌, Option, Some, None}
use Rattle.std.proofs.Common.{refl, ap, arith}
use Rattle.types_spec.specs.declared.types.decl.Decl.{Decl}
use Rattle.types_spec.specs.declared.types.head.HeadOf.{HeadOf}
use Rattle.types_spec.specs.types.Ty.{Ty, variable, named, tuple, bracket, part, tag, tag_of, including}
use Rattle.types_spec.specs.types.Declarations.{unfolded}
use Rattle.types_spec.specs.types.Head.{plain_head, with_part, with_tags, tags_in, head_by, head_within}
use Rattle.types_spec.specs.types.Head.{enough, head}

module _ (decls : List Decl) (weight : Ty → ℕ) (falls : (t u : Ty) → unfolded decls t ≡ Some u
    → weight u < weight t)
    (by_part : (t a : Ty) → weight t ≤ weight (part t a)) (by_tag : (t : Ty) (x : List ℕ)
    → weight t ≤ weight (tag t x))
    (by_tag_of : (t : Ty) (x : List ℕ) (a : Ty) → weight t ≤ weight (tag_of t x a))
    (by_including : (t a : Ty) → weight t ≤ weight (including t a))
    (inside : (t a : Ty) → weight a < weight (including t a)) where
  pub plain_same :
      (k : ℕ) (one other : Ty → HeadOf Ty) → ((a : Ty) → weight a < k → one a ≡ other a)
      → (t : Ty) → weight t ≤ k → plain_head one t ≡ plain_head other t
  plain_same k one other same (variable x) below = refl
  plain_same k one other same (named n) below = refl
  plain_same k one other same tuple below = refl
  plain_same k one other same bracket below = refl
  plain_same k one other same (part t a) below =
      ap (λ h. with_part h a) (plain_same k one other same t (omega (arith, by_part t a)))
  plain_same k one other same (tag t x) below =
      ap (λ h. with_tags h (record { name = x; argument = None } ∷ []))
      (plain_same k one other same t (omega (arith, by_tag t x)))
  plain_same k one other same (tag_of t x a) below =
      ap (λ h. with_tags h (record { name = x; argument = Some a } ∷ []))
      (plain_same k one other same t (omega (arith, by_tag_of t x a)))
  plain_same k one other same (including t a) below =
      ap (λ h. with_tags h (tags_in (one a)))
      (plain_same k one other same t (omega (arith, by_including t a)))
      ∙ ap (λ h. with_tags (plain_head other t) (tags_in h)) (same a (omega (arith, inside t a)))

  by_same : (k : ℕ) (one other : Ty → HeadOf Ty) → ((a : Ty) → weight a < k → one a ≡ other a)
      → (t : Ty) → weight t ≤ k → (next : Option Ty) → unfolded decls t ≡ next
      → head_by one t next ≡ head_by other t next
  by_same k one other same t below None is = plain_same k one other same t below
  by_same k one other same t below (Some u) is = same u (omega (arith, falls t u is))

  pub settled : (n m : ℕ) (t : Ty) → weight t < n → weight t < m
      → head_within decls n t ≡ head_within decls m t
  settled zero m t below below' = absurd (omega arith)
  settled (suc n) zero t below below' = absurd (omega arith)
  settled (suc n) (suc m) t below below' =
      by_same (weight t) (head_within decls n) (head_within decls m)
      (λ a less. settled n m a (omega arith) (omega arith)) t (omega arith) (unfolded decls t)
      refl

  module _ (bound : (t : Ty) → weight t < enough decls t) where
    within_one : (n : ℕ) (t u : Ty) → unfolded decls t ≡ Some u
        → head_within decls (suc n) t ≡ head_within decls n u
    within_one n t u is = ap (head_by (head_within decls n) t) is

    within_plain : (n : ℕ) (t : Ty) → unfolded decls t ≡ None
        → head_within decls (suc n) t ≡ plain_head (head_within decls n) t
    within_plain n t is = ap (head_by (head_within decls n) t) is

    -- One expansion of an abbreviation at the head of a type does not change the type's head.
    pub again : (t u : Ty) → unfolded decls t ≡ Some u → head decls t ≡ head decls u
    unfolding head
    again t u is =
        settled (enough decls t) (suc (weight t)) t (bound t) (omega arith)
        ∙ within_one (weight t) t u is
        ∙ settled (weight t) (enough decls u) u (falls t u is) (bound u)

    pub plain : (t : Ty) → unfolded decls t ≡ None → head decls t ≡ plain_head (head decls) t
    unfolding head
    plain t is =
        settled (enough decls t) (suc (weight t)) t (bound t) (omega arith)
        ∙ within_plain (weight t) t is
        ∙ plain_same (weight t) (head_within decls (weight t)) (head decls)
        (λ a less. settled (weight t) (enough decls a) a less (bound a)) t (omega arith)

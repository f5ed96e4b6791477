-- The records that hiding makes mixed, by the heads after hiding.
use Rattle.std.proofs.Common.{ℕ, ◌≡◌, ◌∙◌, ◌||◌, Bool, true, false, if◌then◌else◌, List, [], refl, ap}
use Rattle.types_spec.specs.declared.types.decl.Predeclared.{Predeclared}
use Rattle.types_spec.specs.declared.types.decl.Predeclared.TheVariants as bases
use Rattle.types_spec.specs.declared.types.decl.Field.{Field}
use Rattle.types_spec.specs.declared.types.decl.Decl.{Decl}
use Rattle.types_spec.specs.declared.types.head.HeadOf.{HeadOf}
use Rattle.types_spec.specs.declared.types.head.HeadOf.TheVariants as heads
use Rattle.types_spec.specs.types.WellFormed.{AreWellFormed}
use Rattle.types_spec.specs.types.Head.{head}
use Rattle.types_spec.specs.types.Scope.{is_mixed, is_mixed_by}
use Rattle.types_spec.specs.types.Shape.{is_float_head, is_wildcard_head, is_float, is_wildcard}
use Rattle.types_spec.specs.types.Ty.{Ty}
use Rattle.types_theory.specs.wildcard.Wildcard.{hide, HidesDatatypes, wildcard_head, is_hidden_head, becomes_wildcard}
use Rattle.types_theory.proofs.wildcard.WildcardHeadLemmas.{heads_wildcard}

float_kept : (hides : List ℕ → Bool) (h : HeadOf Ty) → is_float_head (wildcard_head hides h) ≡ is_float_head h
float_kept hides (heads.Datatype name ts) = by (hides name) where
  by : (hidden : Bool) → is_float_head (if hidden then heads.Predeclared bases.Any [] else heads.Datatype name ts) ≡ false
  by true = refl
  by false = refl
float_kept hides (heads.Variable x) = refl
float_kept hides (heads.Predeclared base ts) = refl
float_kept hides (heads.Tuple ts) = refl
float_kept hides (heads.Variants tags) = refl
float_kept hides heads.Absent = refl

wildcard_made : (hides : List ℕ → Bool) (h : HeadOf Ty) → is_wildcard_head (wildcard_head hides h) ≡ (is_wildcard_head h || is_hidden_head hides h)
wildcard_made hides (heads.Datatype name ts) = by (hides name) where
  by : (hidden : Bool) → is_wildcard_head (if hidden then heads.Predeclared bases.Any [] else heads.Datatype name ts) ≡ hidden
  by true = refl
  by false = refl
wildcard_made hides (heads.Predeclared base ts) = by (is_wildcard_head (heads.Predeclared base ts)) where
  by : (b : Bool) → b ≡ (b || false)
  by true = refl
  by false = refl
wildcard_made hides (heads.Variable x) = refl
wildcard_made hides (heads.Tuple ts) = refl
wildcard_made hides (heads.Variants tags) = refl
wildcard_made hides heads.Absent = refl

module _ (hides : List ℕ → Bool) (decls : List Decl) (well : AreWellFormed decls) (datatypes : HidesDatatypes hides decls) where
  floats : (t : Ty) → is_float (hide hides decls) t ≡ is_float decls t
  floats t = ap is_float_head (heads_wildcard hides decls well datatypes t) ∙ float_kept hides (head decls t)

  wildcards : (t : Ty) → is_wildcard (hide hides decls) t ≡ becomes_wildcard hides decls t
  wildcards t = ap is_wildcard_head (heads_wildcard hides decls well datatypes t) ∙ wildcard_made hides (head decls t)

  pub mixed_by_hiding :
      (fields : List Field) → is_mixed (hide hides decls) fields ≡ is_mixed_by (is_float decls) (becomes_wildcard hides decls) fields
  mixed_by_hiding fields = λ i. is_mixed_by (λ t. floats t i) (λ t. wildcards t i) fields

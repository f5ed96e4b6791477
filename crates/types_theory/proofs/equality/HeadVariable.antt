-- If the head of a type is a variable, then an instance of the type has the head of the type that
-- replaces the variable.
use Rattle.std.proofs.Common.{ℕ, zero, suc, ◌<◌, ◌≡◌, ◌∙◌, inl, inr, List}
use Rattle.std.proofs.Common.{Option, Some, None, refl, ap, subst, sym, arith}
use Rattle.std.specs.Prelude.{option_map}
use Rattle.types_spec.specs.declared.types.decl.Predeclared.{Predeclared}
use Rattle.types_spec.specs.declared.types.decl.Decl.{Decl}
use Rattle.types_spec.specs.declared.types.head.TagOf.{TagOf}
use Rattle.types_spec.specs.declared.types.head.HeadOf.{HeadOf}
use Rattle.types_spec.specs.declared.types.head.HeadOf.TheVariants as heads
use Rattle.types_spec.specs.types.Ty.{Ty, variable, named, tuple, bracket, part, tag, tag_of, including}
use Rattle.types_spec.specs.types.Ty.{parts, instance, argument_for}
use Rattle.types_spec.specs.types.Declarations.{predeclared, unfolded}
use Rattle.types_spec.specs.types.Head.{with_tags, head_meant, with_part, plain_head, head}
use Rattle.types_spec.specs.types.WellFormed.{IsVariable, IsWhole, IsType, TakeArguments}
use Rattle.types_spec.specs.types.WellFormed.{AreWellFormed}
use Rattle.types_theory.proofs.equality.EqualityInstanceLemmas.{type-instance, type-takes}
use Rattle.types_theory.proofs.equality.EqualityInstanceLemmas.{unfolded-instance, abbreviation_is}
use Rattle.types_theory.proofs.equality.HeadInstance.{weighs, falls_to, again, plain, of_argument}
use Rattle.types_theory.proofs.equality.HeadInstance.{unfolded_is, parts_written, parts_take}

-- ---- a written type has a variable as its head only if it is one

no_variable_part : (h : HeadOf Ty) (a : Ty) (x : List ℕ) → with_part h a ≡ heads.Variable x → ⊥
no_variable_part (heads.Variable y) a x is = cc
no_variable_part (heads.Predeclared b ts) a x is = cc
no_variable_part (heads.Datatype n ts) a x is = cc
no_variable_part (heads.Tuple ts) a x is = cc
no_variable_part (heads.Variants tags) a x is = cc
no_variable_part heads.Absent a x is = cc

no_variable_tags :
    (h : HeadOf Ty) (more : List (TagOf Ty)) (x : List ℕ) → with_tags h more ≡ heads.Variable x → ⊥
no_variable_tags (heads.Variable y) more x is = cc
no_variable_tags (heads.Predeclared b ts) more x is = cc
no_variable_tags (heads.Datatype n ts) more x is = cc
no_variable_tags (heads.Tuple ts) more x is = cc
no_variable_tags (heads.Variants tags) more x is = cc
no_variable_tags heads.Absent more x is = cc

no_variable_meant :
    (base : Option Predeclared) (n x : List ℕ) → head_meant base n ≡ heads.Variable x → ⊥
no_variable_meant None n x is = cc
no_variable_meant (Some b) n x is = cc

no_variable_written :
    (f : Ty → HeadOf Ty) (t : Ty) (x : List ℕ) → IsWhole t → plain_head f t ≡ heads.Variable x → ⊥
no_variable_written f (variable y) x whole is = whole
no_variable_written f (named n) x whole is = no_variable_meant (predeclared n) n x is
no_variable_written f tuple x whole is = cc
no_variable_written f bracket x whole is = cc
no_variable_written f (part t a) x whole is = no_variable_part (plain_head f t) a x is
no_variable_written f (tag t y) x whole is = no_variable_tags (plain_head f t) _ x is
no_variable_written f (tag_of t y a) x whole is = no_variable_tags (plain_head f t) _ x is
no_variable_written f (including t a) x whole is = no_variable_tags (plain_head f t) _ x is

same_variable : (h : HeadOf Ty) (x y : List ℕ) → h ≡ heads.Variable x → h ≡ heads.Variable y → x ≡ y
same_variable h x y is same = cc

-- ---- induction on the weight

module _ (decls : List Decl) (well : AreWellFormed decls) (value : List ℕ → Ty) (x : List ℕ) where
  abbrev ComesThrough : Ty → Type 0
  ComesThrough t = head decls (instance value t) ≡ head decls (value x)

  abbrev Known : ℕ → Type 0
  Known k = (t : Ty) → weighs decls well t < k → IsType t → TakeArguments decls 0 t
      → head decls t ≡ heads.Variable x → ComesThrough t

  by_variable : (t : Ty) → IsVariable t → head decls t ≡ heads.Variable x → ComesThrough t
  by_variable (variable y) is same =
      ap (λ z. head decls (value z)) (same_variable (head decls (variable y)) y x (plain decls well (variable y) refl) same)
  by_variable t is same = absurd is

  module _ (k : ℕ) (known : Known k) (t : Ty) (below : weighs decls well t < suc k) (whole : IsWhole t)
      (given : TakeArguments decls 0 t) (same : head decls t ≡ heads.Variable x) where
    unfolds_to : (next : Option Ty) → unfolded decls t ≡ next
        → unfolded decls (instance value t) ≡ option_map (instance value) next
    unfolds_to next is =
        unfolded-instance decls well value t whole given ∙ ap (option_map (instance value)) is

    by_replacement : (u : Ty) → unfolded decls t ≡ Some u → ComesThrough t
    by_replacement u is =
        let by = unfolded_is decls well t u is in
        let argument : List ℕ → Ty = argument_for by.decl.parameters (parts t) in
        let body = well.types by.name by.decl by.body by.found
        (abbreviation_is decls well by.decl.body by.body by.stands) in
        let written : IsType u = subst IsType by.same
        (type-instance argument (of_argument decls well IsType (λ y. inl tt) by.decl.parameters (parts t)
        (λ a among. parts_written decls well t a whole among)) by.body body.written) in
        let takes : TakeArguments decls 0 u = subst (TakeArguments decls 0) by.same
        (type-takes argument decls (of_argument decls well (TakeArguments decls 0) (λ y. tt)
        by.decl.parameters (parts t) (λ a among. parts_take decls well 0 t a given among)) by.body
        body.written body.arguments) in
        again decls well (instance value t) (instance value u) (unfolds_to (Some u) is)
        ∙ known u (omega (arith, falls_to decls well t u is, below)) written takes
        (sym (again decls well t u is) ∙ same)

    by_unfolding : (next : Option Ty) → unfolded decls t ≡ next → ComesThrough t
    by_unfolding None is =
        absurd (no_variable_written (head decls) t x whole (sym (plain decls well t is) ∙ same))
    by_unfolding (Some u) is = by_replacement u is

  all_known : (k : ℕ) → Known k
  all_known zero t below written given same = absurd (omega (arith, below))
  all_known (suc k) t below (inl is) given same = by_variable t is same
  all_known (suc k) t below (inr whole) given same =
      by_unfolding k (all_known k) t below whole given same (unfolded decls t) refl

  pub head-variable :
      (t : Ty) → IsType t → TakeArguments decls 0 t → head decls t ≡ heads.Variable x → ComesThrough t
  head-variable t written given same =
      all_known (suc (weighs decls well t)) t (omega arith) written given same

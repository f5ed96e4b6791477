-- Lemmas about the kind of a type, given the name and the parts at its head.
use Rattle.std.proofs.Common.{ℕ, ◌≡◌, ◌∙◌, Bool, true, false, List, [], Option, Some, None, refl, sym, ap, subst}
use Rattle.std.specs.Prelude.{IsTrue, ◌↔◌}
use Rattle.std.proofs.lemmas.Bool.{false≢true}
use Rattle.types_spec.specs.declared.types.decl.Decl.{Decl}
use Rattle.types_spec.specs.declared.types.decl.Predeclared.{Predeclared}
use Rattle.types_spec.specs.declared.types.decl.Predeclared.TheVariants as bases
use Rattle.types_spec.specs.declared.types.head.TagOf.{TagOf}
use Rattle.types_spec.specs.declared.types.head.HeadOf.{HeadOf}
use Rattle.types_spec.specs.declared.types.head.HeadOf.TheVariants as heads
use Rattle.types_spec.specs.types.Ty.{Ty, variable, named, tuple, bracket, part, tag, tag_of, including, name_of}
use Rattle.types_spec.specs.types.Declarations.{predeclared}
use Rattle.types_spec.specs.types.TypeNodes.{type_at}
use Rattle.types_spec.specs.types.Head.{head, plain_head, with_part, with_tags, head_meant}
use Rattle.types_spec.specs.types.Shape.{is_float_head}
use Rattle.types_spec.specs.types.WellFormed.{AreSound, AreVariants}
use Rattle.types_theory.proofs.equality.EqualityNeedLemmas.{head_plain}
use Rattle.types_theory.proofs.equality.RankedLemmas.{are_ranked}
use Rattle.types_build.specs.representation.Unfolded.{HasHeadOf}
use Rattle.types_build.specs.representation.Tags.{has_bracket}
use Rattle.types_build.specs.representation.Kind.{base_of_head, base_of, is_float_base}
use Rattle.types_build.proofs.representation.RepresentationBracketLemmas.{plain_head-bracket, takes_no_tags}

-- ---- polymorphic variants

module _ (head : Ty → HeadOf Ty) where
  none_there : (h : HeadOf Ty) → with_tags h [] ≡ heads.Absent → AreVariants h → ⊥
  none_there (heads.Variants tags) is are = cc
  none_there h is are = are

  variants_there : (t : Ty) (test : Bool) → has_bracket t ≡ test → IsTrue test ↔ AreVariants (plain_head head t)
  variants_there t true is = (λ _. subst AreVariants (sym (plain_head-bracket head t is)) tt, λ _. refl)
  variants_there t false is =
      (λ never. absurd (false≢true never), λ are. absurd (none_there (plain_head head t) (takes_no_tags head t [] is) are))

  -- ---- predeclared types

  base_part : (h : HeadOf Ty) (a : Ty) → base_of_head (with_part h a) ≡ base_of_head h
  base_part (heads.Variable x) a = refl
  base_part (heads.Predeclared b ts) a = refl
  base_part (heads.Datatype n ts) a = refl
  base_part (heads.Tuple ts) a = refl
  base_part (heads.Variants tags) a = refl
  base_part heads.Absent a = refl

  base_tags : (h : HeadOf Ty) (more : List (TagOf Ty)) → base_of_head (with_tags h more) ≡ None
  base_tags (heads.Variants tags) more = refl
  base_tags h more = refl

  base_meant : (base : Option Predeclared) (name : List ℕ) → base_of_head (head_meant base name) ≡ base
  base_meant None name = refl
  base_meant (Some base) name = refl

  abbrev base_by : Option (List ℕ) → Option Predeclared
  base_by (Some name) = predeclared name
  base_by None = None

  base_there : (t : Ty) → base_of_head (plain_head head t) ≡ base_by (name_of t)
  base_there (variable x) = refl
  base_there (named n) = base_meant (predeclared n) n
  base_there tuple = refl
  base_there bracket = refl
  base_there (part t a) = base_part (plain_head head t) a ∙ base_there t
  base_there (tag t x) = base_tags (plain_head head t) _
  base_there (tag_of t x a) = base_tags (plain_head head t) _
  base_there (including t a) = base_tags (plain_head head t) _

-- ---- the kind of a head, by the predeclared type

pub float_by_base : (h : HeadOf Ty) → is_float_base (base_of_head h) ≡ is_float_head h
float_by_base (heads.Predeclared base ts) = by base where
  by : (base : Predeclared) → is_float_base (Some base) ≡ is_float_head (heads.Predeclared base ts)
  by bases.Float = refl
  by bases.Int = refl
  by bases.Char = refl
  by bases.Bool = refl
  by bases.Unit = refl
  by bases.String = refl
  by bases.Bytes = refl
  by bases.Int32 = refl
  by bases.Int64 = refl
  by bases.Nativeint = refl
  by bases.Floatarray = refl
  by bases.Array = refl
  by bases.Any = refl
  by (bases.Sum k) = refl
float_by_base (heads.Variable x) = refl
float_by_base (heads.Datatype n ts) = refl
float_by_base (heads.Tuple ts) = refl
float_by_base (heads.Variants tags) = refl
float_by_base heads.Absent = refl

-- ---- over declarations

module _ (decls : List Decl) (sound : AreSound decls) (types : List Ty) (t : Ty) (number : ℕ) (has : HasHeadOf decls types t number) where
  written : plain_head (head decls) (type_at types number) ≡ head decls t
  written = sym (head_plain decls sound.rank (are_ranked decls sound) (type_at types number) has.ended) ∙ has.head

  pub are_variants : (test : Bool) → test ≡ has_bracket (type_at types number) → IsTrue test ↔ AreVariants (head decls t)
  are_variants test is =
      subst (λ h. IsTrue test ↔ AreVariants h) written (variants_there (head decls) (type_at types number) test (sym is))

  base_is : base_of decls t ≡ base_by (head decls) (name_of (type_at types number))
  base_is = ap base_of_head (sym written) ∙ base_there (head decls) (type_at types number)

  pub base_by_name : (name : List ℕ) → name_of (type_at types number) ≡ Some name → predeclared name ≡ base_of decls t
  base_by_name name is = sym (base_is ∙ ap (base_by (head decls)) is)

  pub base_no_name : name_of (type_at types number) ≡ None → None ≡ base_of decls t
  base_no_name is = sym (base_is ∙ ap (base_by (head decls)) is)

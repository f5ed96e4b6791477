-- Lemmas about the head of a bracket whose only item includes a type.
use Rattle.std.proofs.Common.{ℕ, ◌≡◌, ◌∙◌, List, [], ◌∷◌, map, Some, refl, ap}
use Rattle.std.specs.Prelude.{not, filter}
use Rattle.types_spec.specs.declared.types.decl.Decl.{Decl}
use Rattle.types_spec.specs.declared.types.head.TagOf.{TagOf}
use Rattle.types_spec.specs.declared.types.head.HeadOf.{HeadOf}
use Rattle.types_spec.specs.declared.types.head.HeadOf.TheVariants as heads
use Rattle.types_spec.specs.types.Ty.{Ty, bracket, including}
use Rattle.types_spec.specs.types.Head.{head, tags_in, has_tag}
use Rattle.types_spec.specs.types.WellFormed.{AreSound}
use Rattle.types_spec.specs.types.Table.{tag_with_part}
use Rattle.types_build.specs.representation.Tags.{IsHeadOf}
use Rattle.types_build.specs.representation.Heads.{IsTagsHead}
use Rattle.types_build.proofs.representation.RepresentationBracketLemmas.{head_of_bracket}
use Rattle.types_build.proofs.representation.RepresentationFoundLemmas.{tags_of_head}

all_new : (more : List (TagOf Ty)) → filter (λ (item : TagOf Ty). not (has_tag [] item.name)) more ≡ more
all_new [] = refl
all_new (item ∷ more) = ap (λ ts. item ∷ ts) (all_new more)

module _ (decls : List Decl) (sound : AreSound decls) where
  alone_tags : (t : Ty) → tags_in (head decls (including bracket t)) ≡ tags_in (head decls t)
  alone_tags t =
      ap tags_in (head_of_bracket decls sound (including bracket t) tt refl) ∙ all_new (tags_in (head decls t))

  pub alone_head : (types : List Ty) (t u : Ty) (h : HeadOf ℕ) → u ≡ including bracket t → IsHeadOf decls types u h → IsTagsHead decls types t h
  alone_head types t u (heads.Variants tags) same is =
      tags_of_head decls types u tags is
      ∙ ap (map (tag_with_part (λ (v : Ty). Some v))) (ap (λ (v : Ty). tags_in (head decls v)) same ∙ alone_tags t)
  alone_head types t u (heads.Variable x) same is = tt
  alone_head types t u (heads.Predeclared b ts) same is = tt
  alone_head types t u (heads.Datatype n ts) same is = tt
  alone_head types t u (heads.Tuple ts) same is = tt
  alone_head types t u heads.Absent same is = tt

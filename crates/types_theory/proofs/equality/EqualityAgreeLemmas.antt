-- Lemmas about heads that agree.
use Rattle.std.proofs.Common.{List, [], ◌∷◌, Option, Some, None}
use Rattle.std.specs.Prelude.{Contains}
use Rattle.types_spec.specs.declared.types.head.HeadOf.TheVariants as heads
use Rattle.types_spec.specs.declared.types.head.HeadOf.{HeadOf}
use Rattle.types_spec.specs.declared.types.head.TagOf.{TagOf}
use Rattle.types_spec.specs.types.Equal.{Pairwise, ArgumentsAgree, TagsAgree, SameTags, HeadsAgree}
use Rattle.types_spec.specs.types.Reached.{parts_of, listed_if}
use Rattle.base_data.proofs.model.Options.{Contains-first, Contains-later, Contains-flat_map}

module _ {T : Type 0} (P Q : T → T → Type 0) where
  -- `P` implies `Q` for each pair of a type of `ts` and a type of `us`.
  abbrev More : List T → List T → Type 0
  More ts us = (t u : T) → Contains ts t → Contains us u → P t u → Q t u

  Pairwise-more : (ts us : List T) → More ts us → Pairwise P ts us → Pairwise Q ts us
  Pairwise-more [] [] more agree = tt
  Pairwise-more [] (u ∷ us) more agree = absurd agree
  Pairwise-more (t ∷ ts) [] more agree = absurd agree
  Pairwise-more (t ∷ ts) (u ∷ us) more agree = (
    more t u (Contains-first t ts) (Contains-first u us) agree.0,
    Pairwise-more ts us (λ a b among among'. more a b (Contains-later t ts a among)
        (Contains-later u us b among')) agree.1,
  )

  ArgumentsAgree-more :
      (t u : Option T) → More (listed_if t) (listed_if u) → ArgumentsAgree P t u
      → ArgumentsAgree Q t u
  ArgumentsAgree-more None None more agree = tt
  ArgumentsAgree-more (Some t) (Some u) more agree =
      more t u (Contains-first t []) (Contains-first u []) agree
  ArgumentsAgree-more None (Some u) more agree = absurd agree
  ArgumentsAgree-more (Some t) None more agree = absurd agree

  TagsAgree-more :
      (tags others : List (TagOf T)) → More (parts_of (heads.Variants tags))
      (parts_of (heads.Variants others)) → (tag other : TagOf T) → Contains tags tag
      → Contains others other → TagsAgree P tag other → TagsAgree Q tag other
  TagsAgree-more tags others more tag other among among' agree = (
    agree.0,
    ArgumentsAgree-more tag.argument other.argument
        (λ a b has has'. more a b (Contains-flat_map (λ (x : TagOf T). listed_if x.argument) tags
        tag a among has) (Contains-flat_map (λ (x : TagOf T). listed_if x.argument) others other
        b among' has'))
        agree.1,
  )

  SameTags-more : (tags others : List (TagOf T)) → More (parts_of (heads.Variants tags))
      (parts_of (heads.Variants others)) → SameTags P tags others → SameTags Q tags others
  SameTags-more tags others more agree = record {
    there = λ tag among. let found =
        agree.there tag among in (
          found.0,
          found.1,
          TagsAgree-more tags others more tag found.0
              among found.1 found.2,
        );
    back = λ other among. let found =
        agree.back other among in (
          found.0,
          found.1,
          TagsAgree-more tags others more found.0 other
              found.1 among found.2,
        );
  }

  pub HeadsAgree-more :
      (one other : HeadOf T) → More (parts_of one) (parts_of other) → HeadsAgree P one other
      → HeadsAgree Q one other
  HeadsAgree-more (heads.Variable x) (heads.Variable y) more agree = agree
  HeadsAgree-more (heads.Predeclared b ts) (heads.Predeclared c us) more agree =
      (agree.0, Pairwise-more ts us more agree.1)
  HeadsAgree-more (heads.Datatype m ts) (heads.Datatype n us) more agree =
      (agree.0, Pairwise-more ts us more agree.1)
  HeadsAgree-more (heads.Tuple ts) (heads.Tuple us) more agree = Pairwise-more ts us more agree
  HeadsAgree-more (heads.Variants tags) (heads.Variants others) more agree =
      SameTags-more tags others more agree
  HeadsAgree-more heads.Absent heads.Absent more agree = tt
  HeadsAgree-more one other more agree = absurd agree

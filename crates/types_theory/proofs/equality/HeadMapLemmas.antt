-- If two heads agree, then the two heads with mapped parts agree.
use Rattle.std.proofs.Common.{◌≡◌, ◌∙◌, List, [], ◌∷◌, ◌++◌, Option, Some, None, refl, ap, subst}
use Rattle.std.proofs.Common.{sym}
use Rattle.std.specs.Prelude.{map, option_map}
use Rattle.base_data.proofs.model.Options.{Contains-map, map-Contains}
use Rattle.types_spec.specs.declared.types.head.TagOf.{TagOf}
use Rattle.types_spec.specs.declared.types.head.HeadOf.{HeadOf}
use Rattle.types_spec.specs.declared.types.head.HeadOf.TheVariants as heads
use Rattle.types_spec.specs.types.Equal.{Pairwise, ArgumentsAgree, TagsAgree, SameTags, HeadsAgree}
use Rattle.types_spec.specs.types.Reached.{listed_if, parts_of}
use Rattle.types_spec.proofs.types.TypeShapeLemmas.{listed-map}
use Rattle.types_spec.specs.types.Table.{tag_with_part, head_with_parts}

module _ {T U : Type 0} (f : T → U) (P : U → U → Type 0) where
  abbrev pub Through : T → T → Type 0
  Through a b = P (f a) (f b)

  Pairwise-map : (ts us : List T) → Pairwise Through ts us → Pairwise P (map f ts) (map f us)
  Pairwise-map [] [] agree = tt
  Pairwise-map (t ∷ ts) (u ∷ us) agree = (agree.0, Pairwise-map ts us agree.1)
  Pairwise-map [] (u ∷ us) agree = absurd agree
  Pairwise-map (t ∷ ts) [] agree = absurd agree

  Pairwise-unmap : (ts us : List T) → Pairwise P (map f ts) (map f us) → Pairwise Through ts us
  Pairwise-unmap [] [] agree = tt
  Pairwise-unmap (t ∷ ts) (u ∷ us) agree = (agree.0, Pairwise-unmap ts us agree.1)
  Pairwise-unmap [] (u ∷ us) agree = absurd agree
  Pairwise-unmap (t ∷ ts) [] agree = absurd agree

  argument-map : (t u : Option T) → ArgumentsAgree Through t u → ArgumentsAgree P (option_map f t)
      (option_map f u)
  argument-map None None agree = tt
  argument-map (Some t) (Some u) agree = agree
  argument-map None (Some u) agree = absurd agree
  argument-map (Some t) None agree = absurd agree

  argument-unmap :
      (t u : Option T) → ArgumentsAgree P (option_map f t) (option_map f u)
      → ArgumentsAgree Through t u
  argument-unmap None None agree = tt
  argument-unmap (Some t) (Some u) agree = agree
  argument-unmap None (Some u) agree = absurd agree
  argument-unmap (Some t) None agree = absurd agree

  abbrev with_f : TagOf T → TagOf U
  with_f tag = tag_with_part f tag

  tag-map : (tag other : TagOf T) → TagsAgree Through tag other
      → TagsAgree P (with_f tag) (with_f other)
  tag-map tag other agree = (agree.0, argument-map tag.argument other.argument agree.1)

  tag-unmap : (tag other : TagOf T) → TagsAgree P (with_f tag) (with_f other)
      → TagsAgree Through tag other
  tag-unmap tag other agree = (agree.0, argument-unmap tag.argument other.argument agree.1)

  tags-map : (tags others : List (TagOf T)) → SameTags Through tags others
      → SameTags P (map with_f tags) (map with_f others)
  tags-map tags others same = record {
    there = λ tag among.
        let source = map-Contains with_f tags tag among in
        let found = same.there source.0 source.1 in (
          with_f found.0,
          Contains-map with_f others found.0 found.1,
          subst
              (λ x. TagsAgree P x (with_f found.0)) source.2 (tag-map source.0 found.0 found.2),
        );
    back = λ other among.
        let source = map-Contains with_f others other among in
        let found = same.back source.0 source.1 in (
          with_f found.0,
          Contains-map with_f tags found.0 found.1,
          subst
              (λ x. TagsAgree P (with_f found.0) x) source.2 (tag-map found.0 source.0 found.2),
        );
  }

  tags-unmap : (tags others : List (TagOf T)) → SameTags P (map with_f tags) (map with_f others)
      → SameTags Through tags others
  tags-unmap tags others same = record {
    there = λ tag among.
        let found = same.there (with_f tag) (Contains-map with_f tags tag among) in
        let source = map-Contains with_f others found.0 found.1 in (
          source.0,
          source.1,
          tag-unmap tag source.0 (subst (λ x. TagsAgree P (with_f tag) x)
              (sym source.2) found.2),
        );
    back = λ other among.
        let found = same.back (with_f other) (Contains-map with_f others other among) in
        let source = map-Contains with_f tags found.0 found.1 in (
          source.0,
          source.1,
          tag-unmap source.0 other (subst (λ x. TagsAgree P x (with_f other))
              (sym source.2) found.2),
        );
  }

  pub HeadsAgree-map :
      (h k : HeadOf T) → HeadsAgree Through h k → HeadsAgree P (head_with_parts f h)
      (head_with_parts f k)
  HeadsAgree-map (heads.Variable x) (heads.Variable y) agree = agree
  HeadsAgree-map (heads.Predeclared b ts) (heads.Predeclared c us) agree =
      (agree.0, Pairwise-map ts us agree.1)
  HeadsAgree-map (heads.Datatype m ts) (heads.Datatype n us) agree =
      (agree.0, Pairwise-map ts us agree.1)
  HeadsAgree-map (heads.Tuple ts) (heads.Tuple us) agree = Pairwise-map ts us agree
  HeadsAgree-map (heads.Variants tags) (heads.Variants others) agree = tags-map tags others agree
  HeadsAgree-map heads.Absent heads.Absent agree = tt
  HeadsAgree-map h k agree = absurd agree

  pub HeadsAgree-unmap :
      (h k : HeadOf T) → HeadsAgree P (head_with_parts f h) (head_with_parts f k)
      → HeadsAgree Through h k
  HeadsAgree-unmap (heads.Variable x) (heads.Variable y) agree = agree
  HeadsAgree-unmap (heads.Predeclared b ts) (heads.Predeclared c us) agree =
      (agree.0, Pairwise-unmap ts us agree.1)
  HeadsAgree-unmap (heads.Datatype m ts) (heads.Datatype n us) agree =
      (agree.0, Pairwise-unmap ts us agree.1)
  HeadsAgree-unmap (heads.Tuple ts) (heads.Tuple us) agree = Pairwise-unmap ts us agree
  HeadsAgree-unmap (heads.Variants tags) (heads.Variants others) agree =
      tags-unmap tags others agree
  HeadsAgree-unmap heads.Absent heads.Absent agree = tt
  HeadsAgree-unmap h k agree = absurd agree

-- ---- parts

module _ {T U : Type 0} (f : T → U) where
  pub append-map : (xs ys : List T) → map f (xs ++ ys) ≡ map f xs ++ map f ys
  append-map [] ys = refl
  append-map (x ∷ xs) ys = ap (λ all. f x ∷ all) (append-map xs ys)

  arguments-map : (tags : List (TagOf T))
      → parts_of (heads.Variants (map (tag_with_part f) tags)) ≡ map f
      (parts_of (heads.Variants tags))
  arguments-map [] = refl
  arguments-map (tag ∷ tags) =
      ap (λ all. listed_if (option_map f tag.argument) ++ all) (arguments-map tags)
      ∙ ap (λ first. first ++ map f (parts_of (heads.Variants tags))) (listed-map f tag.argument)
      ∙ sym (append-map (listed_if tag.argument) (parts_of (heads.Variants tags)))

  -- If `f` maps the parts of a head, the parts of the result are the images of the head's parts.
  pub parts_of-map : (h : HeadOf T) → parts_of (head_with_parts f h) ≡ map f (parts_of h)
  parts_of-map (heads.Variable x) = refl
  parts_of-map (heads.Predeclared b ts) = refl
  parts_of-map (heads.Datatype n ts) = refl
  parts_of-map (heads.Tuple ts) = refl
  parts_of-map (heads.Variants tags) = arguments-map tags
  parts_of-map heads.Absent = refl

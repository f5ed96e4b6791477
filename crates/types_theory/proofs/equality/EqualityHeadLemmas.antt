-- If two types are equivalent, then their heads agree.
use Rattle.std.proofs.Common.{ℕ, zero, suc, ◌<◌, ◌≤◌, ◌≡◌, ⊎_elim, inl, inr, List, [], ◌∷◌, ◌++◌}
use Rattle.std.proofs.Common.{Option, Some, None, refl, sym, subst, arith}
use Rattle.types_spec.specs.declared.types.head.HeadOf.TheVariants as heads
use Rattle.types_spec.specs.declared.types.decl.Predeclared.{Predeclared}
use Rattle.types_spec.specs.declared.types.decl.Decl.{Decl}
use Rattle.types_spec.specs.declared.types.head.HeadOf.{HeadOf}
use Rattle.types_spec.specs.declared.types.head.TagOf.{TagOf}
use Rattle.types_spec.specs.types.Ty.{Ty, variable, named, tuple, bracket, part, tag, tag_of, including}
use Rattle.types_spec.specs.types.Declarations.{unfolded, declaration_of, predeclared}
use Rattle.types_spec.specs.types.Head.{plain_head, name_head, with_part, with_tags, tags_in, joined}
use Rattle.types_spec.specs.types.Head.{head_meant}
use Rattle.types_spec.specs.types.Equal.{Pairwise, ArgumentsAgree, TagsAgree, SameTags, HeadsAgree, Holds}
use Rattle.types_spec.specs.types.Equal.{IsClosed}
use Rattle.base_data.proofs.model.Options.{Contains-first, Contains-none, Contains-cases}
use Rattle.types_theory.proofs.equality.EqualityAgreeLemmas.{HeadsAgree-more}
use Rattle.types_theory.proofs.equality.EqualityTagLemmas.{there_joined}
use Rattle.types_theory.proofs.equality.SimilarLemmas.{Whole, Similar, HasTypes, unfolded_similar, BothUnfold}

-- ---- tags

module _ (P : Ty → Ty → Type 0) where
  back_of : (t u : Option Ty) → ArgumentsAgree P t u → ArgumentsAgree (λ a b. P b a) u t
  back_of None None agree = tt
  back_of (Some t) (Some u) agree = agree
  back_of None (Some u) agree = absurd agree
  back_of (Some t) None agree = absurd agree

  forth_of : (t u : Option Ty) → ArgumentsAgree (λ a b. P b a) u t → ArgumentsAgree P t u
  forth_of None None agree = tt
  forth_of (Some t) (Some u) agree = agree
  forth_of None (Some u) agree = absurd agree
  forth_of (Some t) None agree = absurd agree

  pub joined_agree :
      (tags others more more' : List (TagOf Ty)) → SameTags P tags others → SameTags P more more'
      → SameTags P (joined tags more) (joined others more')
  joined_agree tags others more more' first later = record {
    there = there_joined P tags others more more' first.there (λ other among. let found = first.back
        other among in (found.0, found.1, found.2.0)) later.there;
    back = λ other among.
        let found = there_joined (λ a b. P b a) others tags more' more
        (λ o has. let f = first.back o has in
        (f.0, f.1, (sym f.2.0, back_of f.0.argument o.argument f.2.1)))
        (λ t has. let f = first.there t has in (f.0, f.1, sym f.2.0))
        (λ o has. let f = later.back o has in
        (f.0, f.1, (sym f.2.0, back_of f.0.argument o.argument f.2.1)))
        other among in
        (found.0, found.1, (sym found.2.0, forth_of found.0.argument other.argument found.2.1));
  }

  pub one_agrees :
      (x y : List ℕ) (t u : Option Ty) → x ≡ y → ArgumentsAgree P t u
      → SameTags P (record { name = x; argument = t } ∷ []) (record { name = y; argument = u } ∷ [])
  one_agrees x y t u same agree = record {
    there = λ tag among. ⊎_elim
        (λ here. (
          record { name = y; argument = u },
          Contains-first
              (record { name = y; argument = u }) [],
          subst (λ (a : TagOf Ty).
              TagsAgree P a (record { name = y; argument = u })) here (same, agree),
        ))
        (λ never. absurd (Contains-none tag never))
        (Contains-cases (record { name = x; argument = t }) [] tag among);
    back = λ other among. ⊎_elim
        (λ here. (
          record { name = x; argument = t },
          Contains-first
              (record { name = x; argument = t }) [],
          subst (λ (a : TagOf Ty).
              TagsAgree P (record { name = x; argument = t }) a) here (same, agree),
        ))
        (λ never. absurd (Contains-none other never))
        (Contains-cases (record { name = y; argument = u }) [] other among);
  }

  none_agree : SameTags P [] []
  none_agree = record {
    there = λ tag among. absurd (Contains-none tag among);
    back = λ other among.
        absurd (Contains-none other among);
  }

  pub tags_agree :
      (one other : HeadOf Ty) → HeadsAgree P one other → SameTags P (tags_in one) (tags_in other)
  tags_agree (heads.Variable x) (heads.Variable y) agree = none_agree
  tags_agree (heads.Predeclared b ts) (heads.Predeclared c us) agree = none_agree
  tags_agree (heads.Datatype m ts) (heads.Datatype n us) agree = none_agree
  tags_agree (heads.Tuple ts) (heads.Tuple us) agree = none_agree
  tags_agree (heads.Variants tags) (heads.Variants others) agree = agree
  tags_agree heads.Absent heads.Absent agree = none_agree
  tags_agree one other agree = absurd agree

  Pairwise-push : (ts us : List Ty) (t u : Ty) → Pairwise P ts us → P t u
      → Pairwise P (ts ++ t ∷ []) (us ++ u ∷ [])
  Pairwise-push [] [] t u similar last = (last, tt)
  Pairwise-push [] (b ∷ us) t u similar last = absurd similar
  Pairwise-push (a ∷ ts) [] t u similar last = absurd similar
  Pairwise-push (a ∷ ts) (b ∷ us) t u similar last = (similar.0, Pairwise-push ts us t u similar.1 last)

  pub part_agrees :
      (one other : HeadOf Ty) (t u : Ty) → HeadsAgree P one other → P t u
      → HeadsAgree P (with_part one t) (with_part other u)
  part_agrees (heads.Variable x) (heads.Variable y) t u agree last = tt
  part_agrees (heads.Predeclared b ts) (heads.Predeclared c us) t u agree last =
      (agree.0, Pairwise-push ts us t u agree.1 last)
  part_agrees (heads.Datatype m ts) (heads.Datatype n us) t u agree last =
      (agree.0, Pairwise-push ts us t u agree.1 last)
  part_agrees (heads.Tuple ts) (heads.Tuple us) t u agree last = Pairwise-push ts us t u agree last
  part_agrees (heads.Variants tags) (heads.Variants others) t u agree last = tt
  part_agrees heads.Absent heads.Absent t u agree last = tt
  part_agrees one other t u agree last = absurd agree

  pub more_tags_agree :
      (one other : HeadOf Ty) (more more' : List (TagOf Ty)) → HeadsAgree P one other
      → SameTags P more more' → HeadsAgree P (with_tags one more) (with_tags other more')
  more_tags_agree (heads.Variable x) (heads.Variable y) more more' agree later = tt
  more_tags_agree (heads.Predeclared b ts) (heads.Predeclared c us) more more' agree later = tt
  more_tags_agree (heads.Datatype m ts) (heads.Datatype n us) more more' agree later = tt
  more_tags_agree (heads.Tuple ts) (heads.Tuple us) more more' agree later = tt
  more_tags_agree (heads.Variants tags) (heads.Variants others) more more' agree later =
      joined_agree tags others more more' agree later
  more_tags_agree heads.Absent heads.Absent more more' agree later = tt
  more_tags_agree one other more more' agree later = absurd agree

  meant_agree : (found : Option Predeclared) (name : List ℕ) → HeadsAgree P (head_meant found name)
      (head_meant found name)
  meant_agree None name = (refl, tt)
  meant_agree (Some b) name = (refl, tt)

  pub names_agree : (m n : List ℕ) → m ≡ n → HeadsAgree P (name_head m) (name_head n)
  names_agree m n same =
      subst (λ name. HeadsAgree P (name_head m) (name_head name)) same
      (meant_agree (predeclared m) m)

-- ---- heads: the laws of `head` over well-formed declarations are premises here

module _ (decls : List Decl) (typed : (name : List ℕ) (d : Decl) → declaration_of decls name ≡ Some
    d → HasTypes d.body) (head : Ty → HeadOf Ty)
    (again : (t u : Ty) → unfolded decls t ≡ Some u → head t ≡ head u) (plain : (t : Ty)
    → unfolded decls t ≡ None → head t ≡ plain_head head t)
    (weight : Ty → ℕ) (falls : (t u : Ty) → unfolded decls t ≡ Some u → weight u < weight t)
    (by_part : (t a : Ty) → weight t ≤ weight (part t a)) (by_tag : (t : Ty) (x : List ℕ)
    → weight t ≤ weight (tag t x))
    (by_tag_of : (t : Ty) (x : List ℕ) (a : Ty) → weight t ≤ weight (tag_of t x a))
    (by_including : (t a : Ty) → weight t ≤ weight (including t a))
    (inside : (t a : Ty) → weight a < weight (including t a)) (pairs : List (Ty × Ty))
    (closed : IsClosed head pairs) where
  abbrev Agree : Ty → Ty → Type 0
  Agree t u = HeadsAgree (Similar pairs) (head t) (head u)

  pair_agrees : (t u : Ty) → Holds pairs t u → Agree t u
  pair_agrees t u held =
      HeadsAgree-more (Holds pairs) (Similar pairs) (head t) (head u) (λ a b among among' h. inl h)
      (closed t u held)

  plain_agrees : (k : ℕ) → ((a b : Ty) → weight a < k → Similar pairs a b → Agree a b) → (t u : Ty)
      → weight t ≤ k → Whole pairs t u → HeadsAgree (Similar pairs) (plain_head head t)
      (plain_head head u)
  plain_agrees k known (variable x) (variable y) below whole = whole
  plain_agrees k known (named m) (named n) below whole = names_agree (Similar pairs) m n whole
  plain_agrees k known tuple tuple below whole = tt
  plain_agrees k known bracket bracket below whole = none_agree (Similar pairs)
  plain_agrees k known (part t a) (part u b) below whole =
      part_agrees (Similar pairs) (plain_head head t) (plain_head head u) a b
      (plain_agrees k known t u (omega (arith, by_part t a)) whole.0) whole.1
  plain_agrees k known (tag t x) (tag u y) below whole =
      more_tags_agree (Similar pairs) (plain_head head t) (plain_head head u)
      (record { name = x; argument = None } ∷ []) (record { name = y; argument = None } ∷ [])
      (plain_agrees k known t u (omega (arith, by_tag t x)) whole.0)
      (one_agrees (Similar pairs) x y None None whole.1 tt)
  plain_agrees k known (tag_of t x a) (tag_of u y b) below whole =
      more_tags_agree (Similar pairs) (plain_head head t) (plain_head head u)
      (record { name = x; argument = Some a } ∷ [])
      (record { name = y; argument = Some b } ∷ [])
      (plain_agrees k known t u (omega (arith, by_tag_of t x a)) whole.0)
      (one_agrees (Similar pairs) x y (Some a) (Some b) whole.1 whole.2)
  plain_agrees k known (including t a) (including u b) below whole =
      more_tags_agree (Similar pairs) (plain_head head t) (plain_head head u) (tags_in (head a))
      (tags_in (head b)) (plain_agrees k known t u (omega (arith, by_including t a)) whole.0)
      (tags_agree (Similar pairs) (head a) (head b) (known a b (omega (arith, inside t a))
      whole.1))
  plain_agrees k known t u below whole = absurd whole

  by_unfolding : (k : ℕ) → ((a b : Ty) → weight a < k → Similar pairs a b → Agree a b) → (t u : Ty)
      → weight t ≤ k → Whole pairs t u → (one other : Option Ty) → unfolded decls t ≡ one
      → unfolded decls u ≡ other → BothUnfold pairs one other → Agree t u
  by_unfolding k known t u below whole None None is is' both =
      subst (λ h. HeadsAgree (Similar pairs) h (head u)) (sym (plain t is))
      (subst (λ h. HeadsAgree (Similar pairs) (plain_head head t) h) (sym (plain u is'))
      (plain_agrees k known t u below whole))
  by_unfolding k known t u below whole (Some a) (Some b) is is' both =
      subst (λ h. HeadsAgree (Similar pairs) h (head u)) (sym (again t a is))
      (subst (λ h. HeadsAgree (Similar pairs) (head a) h) (sym (again u b is'))
      (known a b (omega (arith, falls t a is, below)) both))
  by_unfolding k known t u below whole None (Some b) is is' both = absurd both
  by_unfolding k known t u below whole (Some a) None is is' both = absurd both

  agree_below : (k : ℕ) (t u : Ty) → weight t < k → Similar pairs t u → Agree t u
  agree_below zero t u below similar = absurd (omega arith)
  agree_below (suc k) t u below (inl held) = pair_agrees t u held
  agree_below (suc k) t u below (inr whole) =
      by_unfolding k (λ a b less similar. agree_below k a b less similar) t u (omega arith) whole
      (unfolded decls t) (unfolded decls u) refl refl (unfolded_similar pairs decls typed t u
      whole)

  -- If two types are equivalent, then their heads agree and their parts are equivalent.
  pub similar_agree : (t u : Ty) → Similar pairs t u → Agree t u
  similar_agree t u similar = agree_below (suc (weight t)) t u (omega arith) similar

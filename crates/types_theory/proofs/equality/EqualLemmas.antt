-- Equality of types is symmetric, transitive and reflexive.
use Rattle.std.proofs.Common.{◌≡◌, ◌∙◌, ◌⊎◌, ⊎_elim, inl, inr, List, [], ◌∷◌, Option, Some, None}
use Rattle.std.proofs.Common.{refl, sym, ap, subst}
use Rattle.std.specs.Prelude.{Contains, map}
use Rattle.std.specs.List.{flat_map}
use Rattle.types_spec.specs.declared.types.head.HeadOf.TheVariants as heads
use Rattle.types_spec.specs.declared.types.head.HeadOf.{HeadOf}
use Rattle.types_spec.specs.declared.types.head.TagOf.{TagOf}
use Rattle.types_spec.specs.types.Equal.{Pairwise, ArgumentsAgree, TagsAgree, SameTags, HeadsAgree, Holds}
use Rattle.types_spec.specs.types.Equal.{IsClosed, EqualBy}
use Rattle.types_spec.specs.types.Reached.{parts_of, listed_if}
use Rattle.base_data.proofs.model.Options.{Contains-first, Contains-later, Contains-none, Contains-cases, Contains-map, Contains-flat_map, map-Contains, flat_map-Contains}

-- ---- symmetry and transitivity of agreement of heads

module _ {T : Type 0} (P Q R : T → T → Type 0) (join : (t u v : T) → P t u → Q u v → R t v) where
  Pairwise-join : (ts us vs : List T) → Pairwise P ts us → Pairwise Q us vs → Pairwise R ts vs
  Pairwise-join [] [] [] first second = tt
  Pairwise-join (t ∷ ts) (u ∷ us) (v ∷ vs) first second =
      (join t u v first.0 second.0, Pairwise-join ts us vs first.1 second.1)
  Pairwise-join [] (u ∷ us) vs first second = absurd first
  Pairwise-join (t ∷ ts) [] vs first second = absurd first
  Pairwise-join [] [] (v ∷ vs) first second = absurd second
  Pairwise-join (t ∷ ts) (u ∷ us) [] first second = absurd second

  ArgumentsAgree-join :
      (t u v : Option T) → ArgumentsAgree P t u → ArgumentsAgree Q u v → ArgumentsAgree R t v
  ArgumentsAgree-join None None None first second = tt
  ArgumentsAgree-join (Some t) (Some u) (Some v) first second = join t u v first second
  ArgumentsAgree-join None (Some u) v first second = absurd first
  ArgumentsAgree-join (Some t) None v first second = absurd first
  ArgumentsAgree-join None None (Some v) first second = absurd second
  ArgumentsAgree-join (Some t) (Some u) None first second = absurd second

  TagsAgree-join : (t u v : TagOf T) → TagsAgree P t u → TagsAgree Q u v → TagsAgree R t v
  TagsAgree-join t u v first second =
      (first.0 ∙ second.0, ArgumentsAgree-join t.argument u.argument v.argument first.1 second.1)

  SameTags-join : (ts us vs : List (TagOf T)) → SameTags P ts us → SameTags Q us vs
      → SameTags R ts vs
  SameTags-join ts us vs first second = record {
    there = λ tag among. let one =
        first.there tag among in let two = second.there one.0 one.1 in
        (two.0, two.1, TagsAgree-join tag one.0 two.0 one.2 two.2);
    back = λ other among. let two =
        second.back other among in let one = first.back two.0 two.1 in
        (one.0, one.1, TagsAgree-join one.0 two.0 other one.2 two.2);
  }

  pub HeadsAgree-join : (t u v : HeadOf T) → HeadsAgree P t u → HeadsAgree Q u v → HeadsAgree R t v
  HeadsAgree-join (heads.Variable x) (heads.Variable y) (heads.Variable z) first second =
      first ∙ second
  HeadsAgree-join (heads.Predeclared b ts) (heads.Predeclared c us) (heads.Predeclared d vs) first
      second = (first.0 ∙ second.0, Pairwise-join ts us vs first.1 second.1)
  HeadsAgree-join (heads.Datatype l ts) (heads.Datatype m us) (heads.Datatype n vs) first second =
      (first.0 ∙ second.0, Pairwise-join ts us vs first.1 second.1)
  HeadsAgree-join (heads.Tuple ts) (heads.Tuple us) (heads.Tuple vs) first second =
      Pairwise-join ts us vs first second
  HeadsAgree-join (heads.Variants ts) (heads.Variants us) (heads.Variants vs) first second =
      SameTags-join ts us vs first second
  HeadsAgree-join heads.Absent heads.Absent heads.Absent first second = tt
  HeadsAgree-join (heads.Variable x) (heads.Variable y) v first second = absurd second
  HeadsAgree-join (heads.Predeclared b ts) (heads.Predeclared c us) v first second = absurd second
  HeadsAgree-join (heads.Datatype l ts) (heads.Datatype m us) v first second = absurd second
  HeadsAgree-join (heads.Tuple ts) (heads.Tuple us) v first second = absurd second
  HeadsAgree-join (heads.Variants ts) (heads.Variants us) v first second = absurd second
  HeadsAgree-join heads.Absent heads.Absent v first second = absurd second
  HeadsAgree-join t u v first second = absurd first

module _ {T : Type 0} (P Q : T → T → Type 0) (turn : (t u : T) → P t u → Q u t) where
  Pairwise-turn : (ts us : List T) → Pairwise P ts us → Pairwise Q us ts
  Pairwise-turn [] [] agree = tt
  Pairwise-turn (t ∷ ts) (u ∷ us) agree = (turn t u agree.0, Pairwise-turn ts us agree.1)
  Pairwise-turn [] (u ∷ us) agree = absurd agree
  Pairwise-turn (t ∷ ts) [] agree = absurd agree

  ArgumentsAgree-turn : (t u : Option T) → ArgumentsAgree P t u → ArgumentsAgree Q u t
  ArgumentsAgree-turn None None agree = tt
  ArgumentsAgree-turn (Some t) (Some u) agree = turn t u agree
  ArgumentsAgree-turn None (Some u) agree = absurd agree
  ArgumentsAgree-turn (Some t) None agree = absurd agree

  TagsAgree-turn : (t u : TagOf T) → TagsAgree P t u → TagsAgree Q u t
  TagsAgree-turn t u agree = (sym agree.0, ArgumentsAgree-turn t.argument u.argument agree.1)

  pub HeadsAgree-turn : (t u : HeadOf T) → HeadsAgree P t u → HeadsAgree Q u t
  HeadsAgree-turn (heads.Variable x) (heads.Variable y) agree = sym agree
  HeadsAgree-turn (heads.Predeclared b ts) (heads.Predeclared c us) agree =
      (sym agree.0, Pairwise-turn ts us agree.1)
  HeadsAgree-turn (heads.Datatype m ts) (heads.Datatype n us) agree =
      (sym agree.0, Pairwise-turn ts us agree.1)
  HeadsAgree-turn (heads.Tuple ts) (heads.Tuple us) agree = Pairwise-turn ts us agree
  HeadsAgree-turn (heads.Variants ts) (heads.Variants us) agree = record {
    there = λ tag among. let found =
        agree.back tag among in (found.0, found.1, TagsAgree-turn found.0 tag found.2);
    back = λ other among. let found =
        agree.there other among in (found.0, found.1, TagsAgree-turn other found.0 found.2);
  }
  HeadsAgree-turn heads.Absent heads.Absent agree = tt
  HeadsAgree-turn t u agree = absurd agree

module _ {T : Type 0} (P : T → T → Type 0) where
  Pairwise-own : (ts : List T) → ((t : T) → Contains ts t → P t t) → Pairwise P ts ts
  Pairwise-own [] own = tt
  Pairwise-own (t ∷ ts) own = (
    own t (Contains-first t ts),
    Pairwise-own ts
        (λ u among. own u (Contains-later t ts u among)),
  )

  ArgumentsAgree-own : (t : Option T) → ((a : T) → t ≡ Some a → P a a) → ArgumentsAgree P t t
  ArgumentsAgree-own None own = tt
  ArgumentsAgree-own (Some t) own = own t refl

  tag_own : (tags : List (TagOf T)) → ((t : T) → Contains (parts_of (heads.Variants tags)) t
      → P t t) → (tag : TagOf T) → Contains tags tag → TagsAgree P tag tag
  tag_own tags own tag among = (
    refl,
    ArgumentsAgree-own tag.argument
        (λ a is. own a (Contains-flat_map (λ (x : TagOf T). listed_if x.argument) tags tag a among
        (subst (λ o. Contains (listed_if o) a) (sym is) (Contains-first a [])))),
  )

  pub HeadsAgree-own :
      (h : HeadOf T) → ((t : T) → Contains (parts_of h) t → P t t) → HeadsAgree P h h
  HeadsAgree-own (heads.Variable x) own = refl
  HeadsAgree-own (heads.Predeclared b ts) own = (refl, Pairwise-own ts own)
  HeadsAgree-own (heads.Datatype n ts) own = (refl, Pairwise-own ts own)
  HeadsAgree-own (heads.Tuple ts) own = Pairwise-own ts own
  HeadsAgree-own (heads.Variants tags) own = record {
    there = λ tag among. (tag, among, tag_own tags own tag among);
    back = λ tag among. (tag, among, tag_own tags own tag among);
  }
  HeadsAgree-own heads.Absent own = tt

-- ---- the laws

module _ {T : Type 0} (head : T → HeadOf T) where
  abbrev twice : T → T × T
  twice u = (u, u)

  -- If a finite list of types is closed under the parts of heads, then each type of the list is
  -- equal to itself.
  pub equal_itself :
      (types : List T) → ((u a : T) → Contains types u → Contains (parts_of (head u)) a
      → Contains types a) → (t : T) → Contains types t → EqualBy head t t
  equal_itself types reached t among =
      record {
        pairs = map twice types;
        holds = Contains-map twice types t among;
        closed = closed;
      } where
        agree_itself : (u : T) → Contains types u → HeadsAgree (Holds (map twice types)) (head u)
            (head u)
        agree_itself u has =
            HeadsAgree-own (Holds (map twice types)) (head u) (λ a part. Contains-map twice types
            a
            (reached u a has part))

        closed : IsClosed head (map twice types)
        closed a b held =
            let found = map-Contains twice types (a, b) held in
            let first : found.0 ≡ a = ap (λ (p : T × T). p.0) found.2 in
            let second : found.0 ≡ b = ap (λ (p : T × T). p.1) found.2 in
            subst (λ u. HeadsAgree (Holds (map twice types)) (head u) (head b)) first
            (subst (λ u. HeadsAgree (Holds (map twice types)) (head found.0) (head u)) second
            (agree_itself found.0 found.1))

  abbrev turned : T × T → T × T
  turned p = (p.1, p.0)

  turned_has : (pairs : List (T × T)) (t u : T) → Holds pairs t u → Holds (map turned pairs) u t
  turned_has pairs t u held = Contains-map turned pairs (t, u) held

  pub equal_turned : (t u : T) → EqualBy head t u → EqualBy head u t
  equal_turned t u equal =
      record {
        pairs = map turned equal.pairs;
        holds = turned_has equal.pairs t u equal.holds;
        closed = closed;
      } where
        closed : IsClosed head (map turned equal.pairs)
        closed a b held =
            let found = map-Contains turned equal.pairs (a, b) held in
            let first : found.0.1 ≡ a = ap (λ (p : T × T). p.0) found.2 in
            let second : found.0.0 ≡ b = ap (λ (p : T × T). p.1) found.2 in
            subst (λ x. HeadsAgree (Holds (map turned equal.pairs)) (head x) (head b)) first
            (subst (λ y. HeadsAgree (Holds (map turned equal.pairs)) (head found.0.1) (head y))
            second
            (HeadsAgree-turn (Holds equal.pairs) (Holds (map turned equal.pairs))
            (turned_has equal.pairs) (head found.0.0) (head found.0.1)
            (equal.closed found.0.0 found.0.1 found.1)))

  module _ (same_or_not : (t u : T) → (t ≡ u) ⊎ (t ≡ u → ⊥)) (pairs others : List (T × T)) where
    joined_if : (p q : T × T) → (p.1 ≡ q.0) ⊎ (p.1 ≡ q.0 → ⊥) → List (T × T)
    joined_if p q (inl same) = (p.0, q.1) ∷ []
    joined_if p q (inr different) = []

    joined : List (T × T)
    joined = flat_map (λ p. flat_map (λ q. joined_if p q (same_or_not p.1 q.0)) others) pairs

    if_joined : (t u v : T) (test : (u ≡ u) ⊎ (u ≡ u → ⊥)) → Contains (joined_if (t, u) (u, v) test)
        (t, v)
    unfolding joined_if
    if_joined t u v (inl same) = Contains-first (t, v) []
    if_joined t u v (inr different) = absurd (different refl)

    joined_has : (t u v : T) → Holds pairs t u → Holds others u v → Holds joined t v
    unfolding joined
    joined_has t u v first second =
        Contains-flat_map (λ p. flat_map (λ q. joined_if p q (same_or_not p.1 q.0)) others) pairs
        (t, u) (t, v) first
        (Contains-flat_map (λ q. joined_if (t, u) q (same_or_not u q.0)) others (u, v) (t, v) second
        (if_joined t u v (same_or_not u u)))

    joined_if_is : (p q : T × T) (test : (p.1 ≡ q.0) ⊎ (p.1 ≡ q.0 → ⊥)) (t v : T)
        → Contains (joined_if p q test) (t, v) → (p.1 ≡ q.0) × (◌≡◌ {A = T × T} (p.0, q.1) (t, v))
    unfolding joined_if
    joined_if_is p q (inl same) t v among = (
      same,
      ⊎_elim (λ here. here) (λ never. absurd (Contains-none (t, v) never))
          (Contains-cases (p.0, q.1) [] (t, v) among),
    )
    joined_if_is p q (inr different) t v among = absurd (Contains-none (t, v) among)

    joined_is : (t v : T) → Holds joined t v → (u : T) × Holds pairs t u × Holds others u v
    unfolding joined
    joined_is t v held =
        let one = flat_map-Contains (λ p. flat_map (λ q. joined_if p q (same_or_not p.1 q.0)) others)
        pairs (t, v) held in
        let two = flat_map-Contains (λ q. joined_if one.0 q (same_or_not one.0.1 q.0)) others (t, v)
        one.2 in
        let is = joined_if_is one.0 two.0 (same_or_not one.0.1 two.0.0) t v two.2 in
        let first : one.0.0 ≡ t = ap (λ (p : T × T). p.0) is.1 in
        let second : two.0.1 ≡ v = ap (λ (p : T × T). p.1) is.1 in (
          one.0.1,
          subst (λ x. Holds pairs x one.0.1) first one.1,
          subst (λ x. Holds others one.0.1 x) second (subst (λ x. Holds others x two.0.1) (sym is.0)
              two.1),
        )

  pub equal_joined :
      ((t u : T) → (t ≡ u) ⊎ (t ≡ u → ⊥)) → (t u v : T) → EqualBy head t u → EqualBy head u v
      → EqualBy head t v
  equal_joined same_or_not t u v first second = record {
    pairs = joined same_or_not first.pairs second.pairs;
    holds = joined_has same_or_not first.pairs second.pairs t u v first.holds second.holds;
    closed = λ a c held.
        let middle = joined_is same_or_not first.pairs second.pairs a c held in
        HeadsAgree-join (Holds first.pairs) (Holds second.pairs)
        (Holds (joined same_or_not first.pairs second.pairs))
        (joined_has same_or_not first.pairs second.pairs) (head a) (head middle.0) (head c)
        (first.closed a middle.0 middle.1) (second.closed middle.0 c middle.2);
  }

-- Lemmas about sequences of expansions at the head, for types and for their instances.
use Rattle.std.proofs.Common.{ℕ, zero, suc, ◌<◌, ◌≤◌, ◌≡◌, ◌∙◌, true, false, cond, List, [], ◌∷◌, ◌++◌, length, map, Option, Some, refl, sym, ap, subst, arith}
use Rattle.std.proofs.lemmas.List.Quantifiers.{position-Some}
use Rattle.std.specs.Prelude.{option_and_then, get_or, option_map, position, slice_get}
use Rattle.std.specs.Str.{bytes_eq}
use Rattle.std.proofs.lemmas.Option.{none-some, same_Some, slice_get-map}
use Rattle.types_spec.specs.declared.types.decl.Decl.{Decl}
use Rattle.types_spec.specs.types.Ty.{Ty, variable, named, tuple, bracket, part, tag, tag_of, including, name_of, parts, instance, argument_for}
use Rattle.types_spec.specs.types.Declarations.{declaration_of, abbreviated, abbreviated_at, abbreviated_by, unfolded}
use Rattle.types_spec.specs.types.WellFormed.{AreSound}
use Rattle.types_spec.specs.types.Head.{head}
use Rattle.types_theory.proofs.equality.HeadMapLemmas.{append-map}
use Rattle.types_theory.proofs.equality.EqualityNeedLemmas.{head_again}
use Rattle.types_theory.proofs.equality.RankedLemmas.{are_ranked}
use Rattle.types_build.specs.representation.AbbreviationWay.{IsAbbreviation, IsBare, IsOf, IsOfAt, IsAt, Way, Leads, Passes, EachLeads, EachPasses, IsArgument, ComesToArgument}
use Rattle.types_build.proofs.representation.RepresentationReplacedLemmas.{ComesTo, times_more}
use Rattle.types_build.specs.representation.Work.{work}
use Rattle.types_build.proofs.representation.WorkLemmas.{work_again}

-- ---- instances of a name with arguments

module _ (value : List ℕ → Ty) where
  pub name_instance : (t : Ty) (name : List ℕ) → name_of t ≡ Some name → name_of (instance value t) ≡ Some name
  name_instance (named n) name is = is
  name_instance (part t a) name is = name_instance t name is
  name_instance t name is = absurd (none-some name is)

  parts_instance : (t : Ty) (name : List ℕ) → name_of t ≡ Some name → parts (instance value t) ≡ map (instance value) (parts t)
  parts_instance (named n) name is = refl
  parts_instance (part t a) name is =
      ap (λ ts. ts ++ instance value a ∷ []) (parts_instance t name is)
      ∙ sym (append-map (instance value) (parts t) (a ∷ []))
  parts_instance t name is = absurd (none-some name is)

pub instance_itself : (t : Ty) → instance (λ x. variable x) t ≡ t
instance_itself (variable x) = refl
instance_itself (named n) = refl
instance_itself tuple = refl
instance_itself bracket = refl
instance_itself (part t a) = ap (λ u. part u (instance (λ x. variable x) a)) (instance_itself t) ∙ ap (part t) (instance_itself a)
instance_itself (tag t x) = ap (λ u. tag u x) (instance_itself t)
instance_itself (tag_of t x a) =
    ap (λ u. tag_of u x (instance (λ x. variable x) a)) (instance_itself t) ∙ ap (tag_of t x) (instance_itself a)
instance_itself (including t a) =
    ap (λ u. including u (instance (λ x. variable x) a)) (instance_itself t) ∙ ap (including t) (instance_itself a)

argument_first :
    (parameters : List (List ℕ)) (ts : List Ty) (x : List ℕ) (i : ℕ) (a : Ty) → i < length parameters
    → bytes_eq (get_or parameters i []) x ≡ true → ((k : ℕ) → k < i → bytes_eq (get_or parameters k []) x ≡ false)
    → slice_get ts i ≡ Some a → argument_for parameters ts x ≡ a
argument_first [] ts x i a below is before there = absurd (omega arith)
argument_first (p ∷ ps) [] x i a below is before there = absurd (none-some a there)
argument_first (p ∷ ps) (t ∷ ts) x zero a below is before there =
    ap (λ b. cond b t (argument_for ps ts x)) is ∙ same_Some t a there
argument_first (p ∷ ps) (t ∷ ts) x (suc i) a below is before there =
    ap (λ b. cond b t (argument_for ps ts x)) (before 0 (omega arith))
    ∙ argument_first ps ts x i a (omega arith) is (λ k less. before (suc k) (omega arith)) there

-- If a parameter is at index `i`, then the argument for the parameter is the argument at index `i`.
pub argument_placed :
    (parameters : List (List ℕ)) (ts : List Ty) (x : List ℕ) (i : ℕ) (a : Ty)
    → position (λ (p : List ℕ). bytes_eq p x) parameters ≡ Some i → slice_get ts i ≡ Some a
    → argument_for parameters ts x ≡ a
argument_placed parameters ts x i a is there =
    let at = position-Some (λ (p : List ℕ). bytes_eq p x) parameters i [] is in
    argument_first parameters ts x i a at.0 at.1 at.2 there

module _ (decls : List Decl) (group : Option ℕ) where
  -- ---- composition of sequences

  way_then : (n : ℕ) (t u v : Ty) → Way decls group n t u → Leads decls group u v → Leads decls group t v
  way_then zero t u v is leads = subst (λ w. Leads decls group w v) (sym is) leads
  way_then (suc n) t u v way leads =
      let rest = way_then n way.0 u v way.3 leads in (suc rest.0, (way.0, way.1, way.2, rest.1))

  pub leads_more : (t u v : Ty) → EachLeads decls group t u → EachPasses decls group u v → EachLeads decls group t v
  leads_more t u v leads passes value =
      let first = leads value in
      let last = passes value in
      way_then first.0 (instance value t) (instance value u) (instance value v) first.1 (suc last.0, last.1)

  -- ---- what is known

  pub known_passes :
      (t a : Ty) (decl : Decl) (name : List ℕ) (i : ℕ) → name_of t ≡ Some name → declaration_of decls name ≡ Some decl
      → slice_get (parts t) i ≡ Some a → ComesToArgument decls group decl i → EachPasses decls group t a
  known_passes t a decl name i named' found there comes value =
      comes (instance value t) (instance value a) name (name_instance value t name named') found
      (ap (λ ts. slice_get ts i) (parts_instance value t name named')
      ∙ slice_get-map (instance value) (parts t) i ∙ ap (option_map (instance value)) there)

  pub unfolded_is :
      (t body : Ty) (decl : Decl) (name : List ℕ) → name_of t ≡ Some name → declaration_of decls name ≡ Some decl
      → abbreviated decl.body ≡ Some body
      → unfolded decls t ≡ Some (instance (argument_for decl.parameters (parts t)) body)
  unfolded_is t body decl name named' found is =
      ap (λ o. abbreviated_by decls o (parts t)) named'
      ∙ ap (λ o. abbreviated_at o (parts t)) found
      ∙ ap (option_map (instance (argument_for decl.parameters (parts t)))) is

  -- An abbreviation without parameters expands to the abbreviated type unchanged.
  module _ (d : ℕ) where
    pub is_bare : (decl : Decl) → slice_get decls d ≡ Some decl → decl.parameters ≡ [] → IsBare decls d
    is_bare decl there none other at =
        subst (λ (x : Decl). x.parameters ≡ []) (same_Some decl other (sym there ∙ at)) none

    pub bare_next : (t body : Ty) (decl : Decl) → IsBare decls d → IsAbbreviation decls t d → slice_get decls d ≡ Some decl
        → abbreviated decl.body ≡ Some body → unfolded decls t ≡ Some body
    bare_next t body decl bare at there is =
        let one = same_Some at.decl decl (sym at.there ∙ there) in
        let same : instance (argument_for decl.parameters (parts t)) body ≡ body =
        ap (λ ps. instance (argument_for ps (parts t)) body) (bare decl there) ∙ instance_itself body in
        unfolded_is t body decl at.name at.named (at.found ∙ ap Some one) is ∙ ap Some same

  not_at :
      (t : Ty) (decl : Decl) (name : List ℕ) → name_of t ≡ Some name → declaration_of decls name ≡ Some decl
      → ¬ IsOf group decl → ¬ IsAt decls group t
  not_at t decl name named' found apart at =
      apart (subst (IsOfAt group) found (subst (λ o. IsOfAt group (option_and_then (declaration_of decls) o)) named' at)).1

  -- If an abbreviated type expands to a parameter, then the abbreviation expands to the argument
  -- for the parameter.
  pub comes_to_argument :
      (decl : Decl) (body end : Ty) (i : ℕ) → abbreviated decl.body ≡ Some body → EachLeads decls group body end
      → IsArgument decl group end i → ComesToArgument decls group decl i
  comes_to_argument decl body end i is leads argument t a name named' found there =
      let value = argument_for decl.parameters (parts t) in
      let way = leads value in
      let same : instance value end ≡ a = ap (instance value) argument.is
      ∙ argument_placed decl.parameters (parts t) argument.name i a argument.location there in (
        way.0,
        (
          instance value body,
          not_at t decl name named' found argument.apart,
          unfolded_is t body decl name named' found is,
          subst (λ w. Way decls group way.0 (instance value body) w) same way.1,
        ),
      )

  -- ---- the next type in a sequence

  pub passes_once : (t a : Ty) → EachPasses decls group t a → Passes decls group t a
  passes_once t a passes =
      subst (λ u. Passes decls group u a) (instance_itself t)
      (subst (λ u. Passes decls group (instance (λ x. variable x) t) u) (instance_itself a) (passes (λ x. variable x)))

  -- ---- heads and the measure

  pub comes_more : (n : ℕ) (t u v : Ty) → ComesTo decls t u → Way decls group n u v → ComesTo decls t v
  comes_more zero t u v comes is = subst (ComesTo decls t) is comes
  comes_more (suc n) t u v comes way =
      comes_more n t way.0 v
      (record { times = suc comes.times; replaced = times_more decls comes.times t u way.0 comes.replaced way.2 }) way.3

  module _ (sound : AreSound decls) where
    pub way_head : (n : ℕ) (t v : Ty) → Way decls group n t v → head decls t ≡ head decls v
    way_head zero t v is = ap (head decls) is
    way_head (suc n) t v way =
        head_again decls sound.rank (are_ranked decls sound) t way.0 way.2 ∙ way_head n way.0 v way.3

    pub way_work : (n : ℕ) (t v : Ty) → Way decls group n t v → work decls v ≤ work decls t
    way_work zero t v is = let same = ap (work decls) is in omega (arith, same)
    way_work (suc n) t v way =
        let rest = way_work n way.0 v way.3 in
        let one = work_again decls sound t way.0 way.2 in
        omega (arith, rest, one)

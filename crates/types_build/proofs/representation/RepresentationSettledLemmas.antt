-- Lemmas about abbreviations whose tags are all gathered, for any arguments.
use Rattle.std.proofs.Common.{ℕ, suc, ◌+◌, ◌<◌, ◌≤◌, ◌≡◌, ◌∙◌, nat_eq, Bool, true, false, cond, List, [], ◌∷◌, ◌++◌, length, Option, Some, None, refl, sym, ap, subst, arith}
use Rattle.std.specs.Prelude.{slice_get, not, filter, IfSome, IsSome}
use Rattle.std.specs.List.{list_any}
use Rattle.std.proofs.lemmas.Bool.{false≢true, eqb-true}
use Rattle.std.proofs.lemmas.List.Elements.{filter-append, All-push, All-contains}
use Rattle.std.proofs.lemmas.List.Sums.{sum_by_push}
use Rattle.std.proofs.lemmas.Map.Views.{Contains-from_any}
use Rattle.std.proofs.lemmas.Option.{none-some, same_Some, slice_get_within}
use Rattle.indexmap.specs.IndexSet.{insert_key}
use Rattle.types_spec.specs.declared.types.decl.Decl.{Decl}
use Rattle.types_spec.specs.declared.types.decl.Body.TheVariants as bodies
use Rattle.types_spec.specs.declared.types.head.TagOf.{TagOf}
use Rattle.types_spec.specs.declared.types.head.HeadOf.{HeadOf}
use Rattle.types_spec.specs.declared.types.head.HeadOf.TheVariants as heads
use Rattle.types_spec.specs.types.Ty.{Ty, variable, named, tuple, bracket, part, tag, tag_of, including, parts, instance, argument_for}
use Rattle.types_spec.specs.types.TypeNodes.{type_at}
use Rattle.types_spec.specs.types.Declarations.{abbreviated, unfolded}
use Rattle.types_spec.specs.types.Head.{head, plain_head, with_tags, tags_in, joined, has_tag, bare_tag, carrying_tag}
use Rattle.types_spec.specs.types.WellFormed.{AreSound}
use Rattle.types_theory.proofs.equality.EqualityNeedLemmas.{head_again, head_plain}
use Rattle.types_theory.proofs.equality.RankedLemmas.{are_ranked}
use Rattle.types_build.specs.representation.Tags.{has_bracket, before_item}
use Rattle.types_build.specs.representation.AbbreviationWay.{EachLeads, IsAbbreviation, IsBare}
use Rattle.types_build.specs.representation.Work.{work}
use Rattle.types_build.specs.representation.RepresentationSteps.{AreThere, BringsNone, EachBringsNone, EachItemBringsNone, IsSettled, IsSure, IsSettledAt, AreSettled, numbers_work}
use Rattle.types_build.proofs.representation.RepresentationBracketLemmas.{is_new, none_kept, joined_there}
use Rattle.types_build.proofs.representation.RepresentationWayLemmas.{name_instance, instance_itself, unfolded_is, bare_next, way_head, way_work}

-- ---- tags that are already gathered

pub tag_there : (tags : List (TagOf Ty)) (item : TagOf Ty) → has_tag tags item.name ≡ true → AreThere tags (item ∷ [])
tag_there tags item is = ap (λ b. cond (not b) (item ∷ []) []) is

with_tags_there : (tags more : List (TagOf Ty)) (h : HeadOf Ty) → AreThere tags (tags_in h) → AreThere tags more
    → AreThere tags (tags_in (with_tags h more))
with_tags_there tags more (heads.Variants ts) here later =
    filter-append (is_new tags) ts (filter (is_new ts) more)
    ∙ ap (λ xs. xs ++ filter (is_new tags) (filter (is_new ts) more)) here
    ∙ none_kept (is_new ts) (is_new tags) more later
with_tags_there tags more other here later = refl

-- ---- brackets

pub has_same : (t w : Ty) → before_item t ≡ Some w → has_bracket t ≡ has_bracket w
has_same (tag t x) w is = ap has_bracket (same_Some t w is)
has_same (tag_of t x a) w is = ap has_bracket (same_Some t w is)
has_same (including t a) w is = ap has_bracket (same_Some t w is)
has_same t w is = absurd (none-some w is)

module _ (decls : List Decl) (tags : List (TagOf Ty)) where
  -- All tags of the written bracket `t` are gathered, whatever types replace the variables of `t`.
  abbrev pub EachWrittenThere : Ty → Type 0
  EachWrittenThere t =
      (value : List ℕ → Ty) → AreThere tags (tags_in (plain_head (head decls) (instance value t)))

  before : (t w : Ty) → Some t ≡ Some w → EachWrittenThere w → EachWrittenThere t
  before t w is = subst EachWrittenThere (sym (same_Some t w is))

  pub one_item : (t w : Ty) → before_item t ≡ Some w → EachItemBringsNone decls tags t → EachWrittenThere w → EachWrittenThere t
  one_item (tag t x) w is item rest value =
      with_tags_there tags (bare_tag x ∷ []) (plain_head (head decls) (instance value t)) (before t w is rest value) (item value)
  one_item (tag_of t x a) w is item rest value =
      with_tags_there tags (carrying_tag x (instance value a) ∷ []) (plain_head (head decls) (instance value t))
      (before t w is rest value) (item value)
  one_item (including t a) w is item rest value =
      with_tags_there tags (tags_in (head decls (instance value a))) (plain_head (head decls) (instance value t))
      (before t w is rest value) (item value)
  one_item t w is item rest value = absurd (none-some w is)

  pub no_items : (t : Ty) → before_item t ≡ None → has_bracket t ≡ true → EachWrittenThere t
  no_items bracket is has value = refl
  no_items (variable x) is has value = absurd (false≢true has)
  no_items (named n) is has value = absurd (false≢true has)
  no_items tuple is has value = absurd (false≢true has)
  no_items (part t a) is has value = absurd (false≢true has)
  no_items (tag t x) is has value = absurd (none-some t (sym is))
  no_items (tag_of t x a) is has value = absurd (none-some t (sym is))
  no_items (including t a) is has value = absurd (none-some t (sym is))

  bracket_left : (t : Ty) → has_bracket t ≡ true → (value : List ℕ → Ty) → unfolded decls (instance value t) ≡ None
  bracket_left bracket has value = refl
  bracket_left (tag t x) has value = refl
  bracket_left (tag_of t x a) has value = refl
  bracket_left (including t a) has value = refl
  bracket_left (variable x) has value = absurd (false≢true has)
  bracket_left (named n) has value = absurd (false≢true has)
  bracket_left tuple has value = absurd (false≢true has)
  bracket_left (part t a) has value = absurd (false≢true has)

  -- ---- abbreviations

  pub settled_each : (u : Ty) (d : ℕ) → IsAbbreviation decls u d → IsSettled decls tags d → EachBringsNone decls tags u
  settled_each u d is settled value =
      settled (instance value u)
      (record {
        name = is.name;
        decl = is.decl;
        named = name_instance value u is.name is.named;
        found = is.found;
        there = is.there;
        abbreviates = is.abbreviates;
      })

  pub settled_at : (t : Ty) (decl : Option ℕ) → IfSome decl (IsAbbreviation decls t) → IsSettledAt decls tags decl → BringsNone decls tags t
  settled_at t None is settled = absurd settled
  settled_at t (Some d) is settled = settled t is

  pub abbreviation_within : (t : Ty) (decl : Option ℕ) → IfSome decl (IsAbbreviation decls t) → IfSome decl (λ d. d < length decls)
  abbreviation_within t None is = tt
  abbreviation_within t (Some d) is = slice_get_within decls d is.decl is.there

  pub settled_among : (settled : List ℕ) (d : ℕ) → AreSettled decls tags settled → list_any (nat_eq d) settled ≡ true
      → IsSettled decls tags d
  settled_among settled d are there =
      All-contains (IsSettled decls tags) settled d are (Contains-from_any eqb-true d settled there)

  pub settled_added : (settled : List ℕ) (d : ℕ) → AreSettled decls tags settled → IsSettled decls tags d
      → AreSettled decls tags (insert_key nat_eq settled d)
  settled_added settled d are is = by (list_any (nat_eq d) settled) where
    by : (there : Bool) → AreSettled decls tags (cond there settled (settled ++ d ∷ []))
    by true = are
    by false = All-push (IsSettled decls tags) settled d are is

  module _ (sound : AreSound decls) where
    pub each_bracket : (t : Ty) → has_bracket t ≡ true → EachWrittenThere t → EachBringsNone decls tags t
    each_bracket t has written value =
        ap (λ h. filter (is_new tags) (tags_in h)) (head_plain decls sound.rank (are_ranked decls sound) (instance value t) (bracket_left t has value))
        ∙ written value

    pub each_led : (t u : Ty) → EachLeads decls None t u → EachBringsNone decls tags u → EachBringsNone decls tags t
    each_led t u leads each value =
        let way = leads value in
        ap (λ h. filter (is_new tags) (tags_in h))
        (way_head decls None sound way.0 (instance value t) (instance value u) way.1)
        ∙ each value

    -- If all tags of an abbreviated type are gathered, then the abbreviation is settled.
    pub settles : (k : ℕ) (d : Decl) (body : Ty) → slice_get decls k ≡ Some d
        → d.body ≡ bodies.Abbreviation body → EachBringsNone decls tags body → IsSettled decls tags k
    settles k d body there is each t at =
        let one : d ≡ at.decl = same_Some d at.decl (sym there ∙ at.there) in
        let type = ap (λ (x : Decl). abbreviated x.body) (sym one) ∙ ap abbreviated is in
        let value = argument_for at.decl.parameters (parts t) in
        let next = unfolded_is decls None t body at.decl at.name at.named at.found type in
        ap (λ h. filter (is_new tags) (tags_in h))
        (head_again decls sound.rank (are_ranked decls sound) t (instance value body) next)
        ∙ each value

-- ---- abbreviations without parameters

module _ (decls : List Decl) (sound : AreSound decls) where
  body_at : (o : Option Ty) → IsSome o → (body : Ty) × (o ≡ Some body)
  body_at (Some body) is = (body, refl)
  body_at None is = absurd (false≢true is)

  -- If an abbreviation has no parameters, then all types with the abbreviation at the head have the
  -- same head.
  one_head : (d : ℕ) → IsBare decls d → (t u : Ty) → IsAbbreviation decls t d → IsAbbreviation decls u d
      → head decls t ≡ head decls u
  one_head d bare t u at other =
      let body = body_at (abbreviated at.decl.body) at.abbreviates in
      head_again decls sound.rank (are_ranked decls sound) t body.0
      (bare_next decls None d t body.0 at.decl bare at at.there body.1)
      ∙ sym (head_again decls sound.rank (are_ranked decls sound) u body.0
      (bare_next decls None d u body.0 at.decl bare other at.there body.1))

  -- If the tags of a type with the head of `t` were joined, and the abbreviation of `t` has no
  -- parameters, then the abbreviation is settled.
  pub sure_joined : (t u : Ty) (decl : Option ℕ) (tags : List (TagOf Ty)) → IfSome decl (IsAbbreviation decls t)
      → head decls u ≡ head decls t → IfSome decl (IsSure decls (joined tags (tags_in (head decls u))))
  sure_joined t u None tags is same = tt
  sure_joined t u (Some d) tags is same = λ bare other at.
      ap (λ h. filter (is_new (joined tags (tags_in (head decls u)))) (tags_in h))
      (one_head d bare other t at is ∙ sym same)
      ∙ joined_there tags (tags_in (head decls u))

-- ---- termination measure

pub led_work : (decls : List Decl) → AreSound decls → (t u : Ty) → EachLeads decls None t u → work decls u ≤ work decls t
led_work decls sound t u leads =
    let way = leads (λ x. variable x) in
    let less = way_work decls None sound way.0 (instance (λ x. variable x) t) (instance (λ x. variable x) u) way.1 in
    let first = ap (work decls) (instance_itself t) in
    let last = ap (work decls) (instance_itself u) in
    omega (arith, less, first, last)

pub numbers_push : (decls : List Decl) (types : List Ty) (numbers : List ℕ) (n : ℕ)
    → numbers_work decls types (numbers ++ n ∷ []) ≡ numbers_work decls types numbers + suc (work decls (type_at types n))
numbers_push decls types numbers n = sum_by_push (λ m. suc (work decls (type_at types m))) numbers n

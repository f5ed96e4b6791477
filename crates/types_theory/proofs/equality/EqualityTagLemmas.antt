-- Lemmas about the tags of heads that agree.
use Rattle.std.proofs.Common.{ℕ, ◌≡◌, ◌∙◌, ◌⊎◌, ⊎_elim, inl, inr, List, [], ◌∷◌, Bool, true, false}
use Rattle.std.proofs.Common.{refl, sym, ap}
use Rattle.std.specs.Prelude.{Contains, filter, not, ◌||◌}
use Rattle.std.specs.Str.{bytes_eq}
use Rattle.std.proofs.lemmas.Bool.{false≢true, or_left, or_right}
use Rattle.std.proofs.lemmas.Slice.Eq.{bytes_eq-Decides}
use Rattle.std.proofs.lemmas.List.Elements.{Contains-append_left, Contains-append_right}
use Rattle.std.proofs.lemmas.List.Elements.{Contains-append_cases}
use Rattle.types_spec.proofs.types.TypeListLemmas.{filtered-Contains}
use Rattle.types_spec.specs.declared.types.head.TagOf.{TagOf}
use Rattle.types_spec.specs.types.Ty.{Ty}
use Rattle.types_spec.specs.types.Head.{has_tag, joined}
use Rattle.types_spec.specs.types.Equal.{TagsAgree}
use Rattle.base_data.proofs.model.Options.{Contains-first, Contains-later, Contains-none, Contains-cases}
use Rattle.base_data.proofs.model.Lists.{Contains-filter}

-- ---- tags by name

or_is : (a b : Bool) → (a || b) ≡ true → (a ≡ true) ⊎ (b ≡ true)
or_is true b is = inl refl
or_is false b is = inr is

pub has_tag-Contains :
    (tags : List (TagOf Ty)) (name : List ℕ) → has_tag tags name ≡ true → (tag : TagOf Ty)
    × Contains tags tag × (tag.name ≡ name)
has_tag-Contains [] name has = absurd (false≢true has)
has_tag-Contains (tag ∷ tags) name has = ⊎_elim
    (λ here. (tag, Contains-first tag tags, (bytes_eq-Decides tag.name name).0 here))
    (λ later. let is = has_tag-Contains tags name later in
    (is.0, Contains-later tag tags is.0 is.1, is.2))
    (or_is (bytes_eq tag.name name) (has_tag tags name) has)

pub Contains-has_tag :
    (tags : List (TagOf Ty)) (tag : TagOf Ty) (name : List ℕ) → Contains tags tag → tag.name ≡ name
    → has_tag tags name ≡ true
Contains-has_tag [] tag name among same = absurd (Contains-none tag among)
Contains-has_tag (first ∷ tags) tag name among same = ⊎_elim
    (λ here. or_left (bytes_eq first.name name) (has_tag tags name)
    ((bytes_eq-Decides first.name name).1 (ap (λ (t : TagOf Ty). t.name) here ∙ same)))
    (λ later. or_right (bytes_eq first.name name) (has_tag tags name)
    (Contains-has_tag tags tag name later same))
    (Contains-cases first tags tag among)

pub not_true : (a : Bool) → not a ≡ true → a ≡ true → ⊥
not_true true never is = false≢true never
not_true false never is = false≢true is

not_is : (a : Bool) → (a ≡ true → ⊥) → not a ≡ true
not_is true never = absurd (never refl)
not_is false never = refl

abbrev pub is_new : List (TagOf Ty) → TagOf Ty → Bool
is_new tags tag = not (has_tag tags tag.name)

-- ---- joined tag lists

module _ (Similar : Ty → Ty → Type 0) where
  abbrev Found : List (TagOf Ty) → TagOf Ty → Type 0
  Found others tag = (other : TagOf Ty) × Contains others other × TagsAgree Similar tag other

  -- If the first lists of two joined lists have the same names, then each tag of one joined list
  -- agrees with a tag of the other joined list.
  pub there_joined :
      (tags others more more' : List (TagOf Ty)) → ((tag : TagOf Ty) → Contains tags tag
      → Found others tag) → ((other : TagOf Ty) → Contains others other → (tag : TagOf Ty)
      × Contains tags tag × (tag.name ≡ other.name)) → ((tag : TagOf Ty) → Contains more tag
      → Found more' tag)
      → (tag : TagOf Ty) → Contains (joined tags more) tag → Found (joined others more') tag
  there_joined tags others more more' first names later tag among = ⊎_elim
      (λ prefix. let found = first tag prefix in (
        found.0,
        Contains-append_left others (filter (is_new others) more') found.0 found.1,
        found.2,
      ))
      (λ back.
      let is = filtered-Contains (is_new tags) more tag back in
      let found = later tag is.0 in (
        found.0,
        Contains-append_right others (filter (is_new others) more') found.0
            (Contains-filter (is_new others) more' found.0 found.1
            (not_is (has_tag others found.0.name) (λ has.
            let other = has_tag-Contains others found.0.name has in
            let same = names other.0 other.1 in
            not_true (has_tag tags tag.name) is.1 (Contains-has_tag tags same.0 tag.name same.1
            (same.2 ∙ other.2 ∙ sym found.2.0))))),
        found.2,
      ))
      (Contains-append_cases tags (filter (is_new tags) more) tag among)

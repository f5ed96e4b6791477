-- The pending steps while the tags of a bracket are gathered. The next step comes first.
use Rattle.std.specs.Prelude.{ℕ, suc, ◌+◌, ◌<◌, ◌≡◌, not, List, [], ◌∷◌, Option, Some, None, filter}
use Rattle.std.specs.Prelude.{length, All, sum_by}
use Rattle.types_spec.specs.declared.types.decl.Decl.{Decl}
use Rattle.types_spec.specs.declared.types.head.TagOf.{TagOf}
use Rattle.types_spec.specs.types.Ty.{Ty, including, instance}
use Rattle.types_spec.specs.types.TypeNodes.{type_at}
use Rattle.types_spec.specs.types.Head.{head, has_tag, joined, tags_in}
use Rattle.types_build.specs.declared.representation.bracket.BracketStep.{BracketStep}
use Rattle.types_build.specs.declared.representation.bracket.BracketStep.TheVariants as steps
use Rattle.types_build.specs.representation.Tags.{tags_of_item, with_item, tags_at, IsTagWithin}
use Rattle.types_build.specs.representation.AbbreviationWay.{IsAbbreviation, IsBare}
use Rattle.types_build.specs.representation.Work.{work}

-- The number in a step is the index of an existing type or declaration.
abbrev pub IsStepWithin : List Decl → List Ty → BracketStep → Type 0
IsStepWithin decls types (steps.Item i) = i < length types
IsStepWithin decls types (steps.Included n) = n < length types
IsStepWithin decls types (steps.Settle d) = d < length decls

-- ---- tags that are already gathered

-- Each tag of `more` has the name of a tag in `tags`, and so adds nothing to `tags`.
abbrev pub AreThere : List (TagOf Ty) → List (TagOf Ty) → Type 0
AreThere tags more = filter (λ (tag : TagOf Ty). not (has_tag tags tag.name)) more ≡ []

-- All tags of the type `t` are already gathered.
abbrev pub BringsNone : List Decl → List (TagOf Ty) → Ty → Type 0
BringsNone decls tags t = AreThere tags (tags_in (head decls t))

-- All tags of the type `t` are already gathered, whatever types replace its variables.
abbrev pub EachBringsNone : List Decl → List (TagOf Ty) → Ty → Type 0
EachBringsNone decls tags t = (value : List ℕ → Ty) → BringsNone decls tags (instance value t)

-- The tags of the last item of `t` are already gathered, whatever types replace the variables of
-- `t`.
abbrev pub EachItemBringsNone : List Decl → List (TagOf Ty) → Ty → Type 0
EachItemBringsNone decls tags t =
    (value : List ℕ → Ty) → AreThere tags (tags_of_item (head decls) (instance value t))

-- The tags of the types with the indices `numbers` are already gathered, whatever types replace
-- their variables.
abbrev pub AreEachThere : List Decl → List Ty → List (TagOf Ty) → List ℕ → Type 0
AreEachThere decls types tags numbers =
    All (λ n. EachBringsNone decls tags (type_at types n)) numbers

-- An abbreviation is settled: the tags of each type with the abbreviation `d` at its head are
-- already gathered.
abbrev pub IsSettled : List Decl → List (TagOf Ty) → ℕ → Type 0
IsSettled decls tags d = (t : Ty) → IsAbbreviation decls t d → BringsNone decls tags t

-- The optional abbreviation exists and is settled.
abbrev pub IsSettledAt : List Decl → List (TagOf Ty) → Option ℕ → Type 0
IsSettledAt decls tags None = ⊥
IsSettledAt decls tags (Some d) = IsSettled decls tags d

-- If the abbreviation `d` has no parameters, then `d` is settled.
abbrev pub IsSure : List Decl → List (TagOf Ty) → ℕ → Type 0
IsSure decls tags d = IsBare decls d → IsSettled decls tags d

abbrev pub AreSettled : List Decl → List (TagOf Ty) → List ℕ → Type 0
AreSettled decls tags settled = All (IsSettled decls tags) settled

-- ---- pending steps

-- The tags `tags`, followed by the tags of the pending steps, are the tags `all`.
abbrev pub AreLeft : List Decl → List Ty → List (TagOf Ty) → List BracketStep → List (TagOf Ty)
    → Type 0
AreLeft decls types tags [] all = tags ≡ all
AreLeft decls types tags (steps.Item i ∷ rest) all =
    (i < length types)
    × AreLeft decls types (with_item (head decls) tags (type_at types i)) rest all
AreLeft decls types tags (steps.Included n ∷ rest) all =
    (n < length types)
    × AreLeft decls types (joined tags (tags_in (head decls (type_at types n)))) rest all
AreLeft decls types tags (steps.Settle d ∷ rest) all =
    (d < length decls) × IsSure decls tags d × AreLeft decls types tags rest all

-- The tags `found`, followed by the tags of the pending steps, are the tags `all`. The tags of
-- settled abbreviations are in `found`.
pub record AreGathered (decls : List Decl) (types : List Ty) (found : List (TagOf ℕ))
    (settled : List ℕ) (waiting : List BracketStep)
    (all : List (TagOf Ty)) : Type 0 where
  pub found_within : All (IsTagWithin types) found
  pub brought : AreSettled decls (tags_at types found) settled
  pub left : AreLeft decls types (tags_at types found) waiting all

-- The tags `found`, over type indices, are the tags `all`.
pub record AreAll (types : List Ty) (found : List (TagOf ℕ)) (all : List (TagOf Ty)) : Type 0 where
  pub found_within : All (IsTagWithin types) found
  pub are : tags_at types found ≡ all

-- ---- termination measure

abbrev pub item_work : (Ty → ℕ) → Ty → ℕ
item_work w (including whole included) = suc (suc (w included))
item_work w t = 1

abbrev pub step_work : List Decl → List Ty → BracketStep → ℕ
step_work decls types (steps.Item i) = item_work (work decls) (type_at types i)
step_work decls types (steps.Included n) = suc (work decls (type_at types n))
step_work decls types (steps.Settle d) = 1

abbrev pub steps_work : List Decl → List Ty → List BracketStep → ℕ
steps_work decls types [] = 0
steps_work decls types (step ∷ rest) = step_work decls types step + steps_work decls types rest

abbrev pub numbers_work : List Decl → List Ty → List ℕ → ℕ
numbers_work decls types numbers = sum_by (λ n. suc (work decls (type_at types n))) numbers

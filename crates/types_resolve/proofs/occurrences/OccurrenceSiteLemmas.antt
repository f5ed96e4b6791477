-- If all additions are made to the empty site, then the result is the site that the scope rules
-- require.
use Rattle.std.proofs.Common.{ℕ, ◌≡◌, ◌⊎◌, ⊎_elim, inl, inr, Bool, true, false, not, ◌&&◌, ◌||◌, List, [], ◌∷◌}
use Rattle.std.proofs.Common.{◌++◌, Some, length, refl, sym, ap, subst}
use Rattle.std.specs.Prelude.{Contains, IsTrue, ◌↔◌}
use Rattle.std.specs.List.{filter_map}
use Rattle.std.proofs.lemmas.Option.{same_Some, none-some}
use Rattle.std.proofs.lemmas.List.Elements.{Contains-append_left, Contains-append_right, Contains-append_cases}
use Rattle.base_data.proofs.model.Options.{Contains-first, Contains-later, Contains-none, Contains-cases}
use Rattle.types_spec.specs.types.Ty.{Ty, variable, named, tuple, bracket, part, tag, tag_of, including}
use Rattle.types_spec.specs.types.WellFormed.{IsVariable}
use Rattle.types_spec.specs.types.Occurrence.{Placed, PlacedItem, Occurrence, use_of, variable_at, bracket_of, DeclPositions}
use Rattle.types_spec.specs.types.Scope.{HoldsVariable, written_tag}
use Rattle.types_spec.proofs.types.TypeListLemmas.{Contains-filter_mapped, filter_mapped_is}
use Rattle.types_resolve.specs.declared.scope.site.Site.{Site}
use Rattle.types_resolve.specs.declared.scope.site.TypeUse.{TypeUse}
use Rattle.types_resolve.specs.scope.Sites.{Grow, HasArguments, IsTagRow, AreUses, IsSite, IsTypeSite}
use Rattle.types_resolve.specs.occurrences.Facts.{holds, is_alone, some_grow}
use Rattle.types_resolve.specs.occurrences.Adds.{as_use, as_variable, as_row, Adds}

-- ---- tests on types

either_is : (a b : Bool) (P Q : Type 0) → IsTrue a ↔ P → IsTrue b ↔ Q → IsTrue (a || b) ↔ (P ⊎ Q)
either_is true b P Q p q = (λ h. inl (p.0 refl), λ h. refl)
either_is false b P Q p q = (λ h. inr (q.0 h), ⊎_elim (λ x. cc (p.1 x)) (λ x. q.1 x))

holds_is : (t : Ty) → IsTrue (holds t) ↔ HoldsVariable t
holds_is (variable x) = (λ h. tt, λ h. refl)
holds_is (named x) = (λ h. cc, λ h. absurd h)
holds_is tuple = (λ h. cc, λ h. absurd h)
holds_is bracket = (λ h. cc, λ h. absurd h)
holds_is (part w a) =
    either_is (holds w) (holds a) (HoldsVariable w) (HoldsVariable a) (holds_is w) (holds_is a)
holds_is (tag w x) = holds_is w
holds_is (tag_of w x a) =
    either_is (holds w) (holds a) (HoldsVariable w) (HoldsVariable a) (holds_is w) (holds_is a)
holds_is (including w u) =
    either_is (holds w) (holds u) (HoldsVariable w) (HoldsVariable u) (holds_is w) (holds_is u)

not_alone : (t : Ty) → IsTrue (not (is_alone t)) ↔ (¬ IsVariable t)
not_alone (variable x) = (λ h. cc, λ h. absurd (h tt))
not_alone (named x) = (λ h no. no, λ h. refl)
not_alone tuple = (λ h no. no, λ h. refl)
not_alone bracket = (λ h no. no, λ h. refl)
not_alone (part w a) = (λ h no. no, λ h. refl)
not_alone (tag w x) = (λ h no. no, λ h. refl)
not_alone (tag_of w x a) = (λ h no. no, λ h. refl)
not_alone (including w u) = (λ h no. no, λ h. refl)

both_are : (a b : Bool) (P Q : Type 0) → IsTrue a ↔ P → IsTrue b ↔ Q → IsTrue (a && b) ↔ (P × Q)
both_are true b P Q p q = (λ h. (p.0 refl, q.0 h), λ h. q.1 h.1)
both_are false b P Q p q = (λ h. cc, λ h. p.1 h.0)

grows_is : (t : Ty) → IsTrue (holds t && not (is_alone t)) ↔ (HoldsVariable t × (¬ IsVariable t))
grows_is t = both_are (holds t) (not (is_alone t)) (HoldsVariable t) (¬ IsVariable t) (holds_is t) (not_alone t)

pub some_grow_is : (ts : List Ty) → IsTrue (some_grow ts) ↔ Grow ts
some_grow_is [] = (λ h. cc, λ g. absurd (Contains-none g.0 g.1))
some_grow_is (t ∷ ts) =
    let first = grows_is t in
    let later = some_grow_is ts in
    let either = either_is (holds t && not (is_alone t)) (some_grow ts) (HoldsVariable t × (¬ IsVariable t)) (Grow ts)
    first later in (
      λ h. ⊎_elim (λ here. (t, Contains-first t ts, here.0, here.1))
          (λ g. (g.0, Contains-later t ts g.0 g.1, g.2, g.3)) (either.0 h),
      λ g. ⊎_elim (λ same. either.1 (inl (
        subst HoldsVariable (sym same) g.2,
        subst (λ u. ¬ IsVariable u) (sym same) g.3,
      )))
          (λ more. either.1 (inr (g.0, more, g.2, g.3))) (Contains-cases t ts g.0 g.1),
    )

-- ---- occurrences

use_shown :
    (o : Occurrence) (u : TypeUse) → as_use o ≡ Some u
    → (arguments : List Ty) × HasArguments u arguments × (o ≡ use_of u.position u.name arguments u.in_tag)
use_shown (use_of k name arguments in_tag) u is =
    let same = same_Some (record {
      position = k;
      name = name;
      arguments = length arguments;
      grows = some_grow arguments;
      in_tag = in_tag;
    }) u is in (
      arguments,
      record {
        counted = sym (ap (λ (v : TypeUse). v.arguments) same);
        grow = subst (λ b. IsTrue b ↔ Grow arguments) (ap (λ (v : TypeUse). v.grows) same) (some_grow_is arguments);
      },
      ap (λ (v : TypeUse). use_of v.position v.name arguments v.in_tag) same,
    )
use_shown (variable_at k name) u is = absurd (none-some u is)
use_shown (bracket_of items) u is = absurd (none-some u is)

variable_shown :
    (o : Occurrence) (position : ℕ) (name : List ℕ) → as_variable o ≡ Some (position, name) → o ≡ variable_at position name
variable_shown (use_of k x arguments in_tag) position name is = absurd (none-some (position, name) is)
variable_shown (variable_at k x) position name is =
    ap (λ (p : Placed). variable_at p.0 p.1) (same_Some (k, x) (position, name) is)
variable_shown (bracket_of items) position name is = absurd (none-some (position, name) is)

row_shown :
    (o : Occurrence) (row : List Placed) → as_row o ≡ Some row
    → (items : List PlacedItem) × (o ≡ bracket_of items) × (row ≡ filter_map written_tag items)
row_shown (use_of k x arguments in_tag) row is = absurd (none-some row is)
row_shown (variable_at k x) row is = absurd (none-some row is)
row_shown (bracket_of items) row is = (items, refl, sym (same_Some (filter_map written_tag items) row is))

uses_are : (uses : List TypeUse) (all : List Occurrence) → uses ≡ filter_map as_use all → AreUses uses all
uses_are uses all is = record {
  occur = λ u among.
      let found = filter_mapped_is as_use all u (subst (λ (l : List TypeUse). Contains l u) is among) in
      let shown = use_shown found.0 u found.2 in
      (shown.0, shown.1, subst (Contains all) shown.2 found.1);
  all = λ position name arguments in_tag among. (
    record { position = position; name = name; arguments = length arguments; grows = some_grow arguments; in_tag = in_tag },
    subst (λ (l : List TypeUse). Contains l (record {
      position = position;
      name = name;
      arguments = length arguments;
      grows = some_grow arguments;
      in_tag = in_tag;
    })) (sym is) (Contains-filter_mapped as_use all (use_of position name arguments in_tag) (record {
      position = position;
      name = name;
      arguments = length arguments;
      grows = some_grow arguments;
      in_tag = in_tag;
    }) among refl),
    record { counted = refl; grow = some_grow_is arguments },
    refl,
    refl,
    refl,
  );
}

tag_row : (all : List Occurrence) (row : List Placed) → Contains (filter_map as_row all) row → IsTagRow all row
tag_row all row among =
    let found = filter_mapped_is as_row all row among in
    let shown = row_shown found.0 row found.2 in
    (shown.0, subst (Contains all) shown.1 found.1, shown.2)

tag_row_there : (all : List Occurrence) (row : List Placed) → IsTagRow all row → Contains (filter_map as_row all) row
tag_row_there all row is =
    Contains-filter_mapped as_row all (bracket_of is.0) row is.1 (ap Some (sym is.2))

-- ---- sites

abbrev pub nothing : Site
nothing = record { rows = []; carrying = []; uses = []; variables = [] }

-- If only occurrences were added to the empty site, then the result is the site of a type.
pub IsTypeSite-added :
    (site : Site) (all : List Occurrence) → Adds nothing site [] [] all
    → IsTypeSite (record { rows = site.rows; uses = site.uses }) all
IsTypeSite-added site all adds = record {
  rows = λ row among. ⊎_elim (λ no. absurd (Contains-none row no))
      (⊎_elim (λ no. absurd (Contains-none row no)) (λ tags. tag_row all row tags)) (adds.rows_are row among);
  all_rows = λ row is. adds.rows_there row (inr (inr (tag_row_there all row is)));
  used = uses_are site.uses all adds.uses_are;
}

-- If the rows of a declaration are added to the empty site, then the result is the site of the
-- declaration.
pub IsSite-added :
    (site : Site) (d : DeclPositions)
    → Adds nothing site (d.parameters ∷ (d.records ++ d.constructors ∷ [])) d.carrying d.occurrences
    → IsSite site d
IsSite-added site d adds =
    let others = d.records ++ d.constructors ∷ [] in
    record {
      rows = λ row among. ⊎_elim (λ no. absurd (Contains-none row no))
          (⊎_elim (λ here. ⊎_elim (λ first. inl (sym first)) (λ later. ⊎_elim
          (λ fields. inr (inr (inl fields))) (λ last. inr (inl (sym (only d.constructors row last))))
          (Contains-append_cases d.records (d.constructors ∷ []) row later))
          (Contains-cases d.parameters others row here))
          (λ tags. inr (inr (inr (tag_row d.occurrences row tags))))) (adds.rows_are row among);
      all_rows = λ row. ⊎_elim
          (λ e. adds.rows_there row (inr (inl (subst (Contains (d.parameters ∷ others)) (sym e)
          (Contains-first d.parameters others)))))
          (⊎_elim
          (λ e. adds.rows_there row (inr (inl (Contains-later d.parameters others row
          (Contains-append_right d.records (d.constructors ∷ []) row
          (subst (Contains (d.constructors ∷ [])) (sym e) (Contains-first d.constructors [])))))))
          (⊎_elim
          (λ fields. adds.rows_there row (inr (inl (Contains-later d.parameters others row
          (Contains-append_left d.records (d.constructors ∷ []) row fields)))))
          (λ tags. adds.rows_there row (inr (inr (tag_row_there d.occurrences row tags))))));
      carrying = adds.carrying_is;
      used = uses_are site.uses d.occurrences adds.uses_are;
      variables = λ position name among.
          let found = filter_mapped_is as_variable d.occurrences (position, name)
          (subst (λ (l : List Placed). Contains l (position, name)) adds.variables_are among) in
          subst (Contains d.occurrences) (variable_shown found.0 position name found.2) found.1;
      all_variables = λ position name among. subst (λ (l : List Placed). Contains l (position, name))
          (sym adds.variables_are)
          (Contains-filter_mapped as_variable d.occurrences (variable_at position name) (position, name) among refl);
    } where
      only : (x y : List Placed) → Contains (x ∷ []) y → x ≡ y
      only x y among = ⊎_elim (λ e. e) (λ no. absurd (Contains-none y no)) (Contains-cases x [] y among)

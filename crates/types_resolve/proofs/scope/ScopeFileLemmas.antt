-- The collected data of a file breaks a rule if and only if the file breaks the rule.
use Rattle.std.proofs.Common.{ℕ, ◌<◌, ◌≤◌, ◌≡◌, ◌≢◌, ◌⊎◌, ⊎_elim, inl, inr, List, [], ◌∷◌}
use Rattle.std.proofs.Common.{Option, Some, None, Bool, true, false, cond, length, refl, sym, ap, subst, arith, ◌∙◌}
use Rattle.std.specs.Prelude.{slice_get, Contains, ◌↔◌, map, option_map}
use Rattle.std.specs.List.{filter_map}
use Rattle.std.proofs.lemmas.Bool.{cases_lt}
use Rattle.std.proofs.lemmas.Option.{same_Some, none-some, slice_get-map, slice_get_within}
use Rattle.std.proofs.lemmas.Option.{slice_get-get_or}
use Rattle.std.specs.Str.{bytes_eq}
use Rattle.std.proofs.lemmas.Slice.Eq.{bytes_eq-Decides}
use Rattle.base_data.proofs.model.Options.{Contains-first, Contains-later, slice_get-Contains, slice_get_there}
use Rattle.base_data.proofs.model.Lists.{map-slice_get}
use Rattle.types_spec.specs.declared.types.decl.Decl.{Decl}
use Rattle.types_spec.specs.types.Ty.{Ty}
use Rattle.types_spec.specs.types.WellFormed.{IsVariable}
use Rattle.types_spec.specs.types.Declarations.{arity_of, declaration_of}
use Rattle.types_spec.specs.types.Occurrence.{Occurrence}
use Rattle.types_spec.specs.types.Occurrence.{Placed, use_of, DeclPositions}
use Rattle.types_spec.specs.types.Scope.{twice, unknown_name, arity, irregular, IsSecond, HoldsVariable}
use Rattle.types_spec.specs.types.Scope.{written_tag, IsUnseen, decls_of}
use Rattle.types_spec.specs.types.Scope.{declared_names, NamesBreak, BreaksInDecl, BreaksInFile, BreaksInType}
use Rattle.types_resolve.specs.declared.scope.site.TypeUse.{TypeUse}
use Rattle.types_resolve.specs.declared.scope.site.Site.{Site}
use Rattle.types_resolve.specs.declared.scope.site.TypeSite.{TypeSite}
use Rattle.types_resolve.specs.declared.scope.rule.NameRule.{NameRule}
use Rattle.types_resolve.specs.declared.scope.rule.NameRule.TheVariants as names
use Rattle.types_resolve.specs.declared.scope.rule.UseRule.{UseRule}
use Rattle.types_resolve.specs.declared.scope.rule.UseRule.TheVariants as use_rules
use Rattle.types_resolve.specs.scope.Breaks.{Later, OfGroup, IsOther, BreaksUse, UsesBreak}
use Rattle.types_resolve.specs.scope.Breaks.{WantsDistinctNames}
use Rattle.types_resolve.specs.scope.Breaks.{names_of_decls, SiteBreaks, SitesBreak, NameBreaks, TypeBreaks, rule_of}
use Rattle.types_resolve.specs.scope.Sites.{HasArguments, IsRow, IsSite, AreUses, IsTypeSite}
use Rattle.types_resolve.specs.scope.Sites.{AreSites}
use Rattle.types_resolve.proofs.scope.ScopeDeclaredLemmas.{find_first}

-- ---- one use

later_unseen :
    (o : Option Decl) (group : ℕ)
    → Later o (Some group) ↔ ((d : Decl) → o ≡ Some d → ¬ (d.group ≤ group))
later_unseen None group = (λ later d is. absurd (none-some d is), λ unseen. tt)
later_unseen (Some e) group = (
  λ later d is within. let g : group < d.group = subst (λ (x : Decl). group < x.group) (same_Some e d is) later in
      omega arith,
  λ unseen. ⊎_elim (λ less. less) (λ more. absurd (unseen e refl more)) (cases_lt group e.group),
)

other_arity :
    (o : Option ℕ) (arguments : ℕ) (count : ℕ) → arguments ≡ count
    → IsOther o arguments ↔ ((n : ℕ) × (o ≡ Some n) × (n ≢ count))
other_arity None arguments count is = (λ never. absurd never, λ some. none-some some.0 some.1)
other_arity (Some m) arguments count is = (
  λ other. (m, refl, λ same. other (same ∙ sym is)),
  λ some same. some.2 (sym (same_Some m some.0 some.1) ∙ same ∙ is),
)

uses_break :
    (decls : List Decl) (uses : List TypeUse) (occurrences : List Occurrence) → AreUses uses occurrences
    → (rule : UseRule) (Breaks : List ℕ → List Ty → Type 0) (group : Option ℕ)
    → ((u : TypeUse) (arguments : List Ty) → HasArguments u arguments
    → BreaksUse rule decls group u ↔ Breaks u.name arguments)
    → (k : ℕ)
    → UsesBreak rule decls group uses k
    ↔ ((name : List ℕ) × (arguments : List Ty) × (in_tag : Bool)
    × Contains occurrences (use_of k name arguments in_tag) × Breaks name arguments)
uses_break decls uses occurrences are rule Breaks group same k = (
  λ some. let u = some.0 in let stands = are.occur u some.1 in (
    u.name,
    stands.0,
    u.in_tag,
    subst (λ position. Contains occurrences (use_of position u.name stands.0 u.in_tag)) some.2.0 stands.2,
    (same u stands.0 stands.1).0 some.2.1,
  ),
  λ some. let known = are.all k some.0 some.1 some.2 some.3 in
      let u = known.0 in (
        u,
        known.1,
        (
          known.3,
          (same u some.1 known.2).1
              (subst (λ name. Breaks name some.1) (sym known.4) some.4),
        ),
      ),
)

-- ---- the declaration of a name

-- If the lookup of a name finds a declaration, then the declaration is in the file and has the
-- name.
found_in :
    (all : List DeclPositions) (name : List ℕ) (x : Decl)
    → declaration_of (decls_of all) name ≡ Some x
    → (e : DeclPositions) × Contains all e × (e.decl ≡ x) × (x.name ≡ name)
found_in [] name x is = absurd (none-some x is)
found_in (e ∷ es) name x is =
    by_test (bytes_eq e.decl.name name) (found_in es name x) refl is where
      by_test :
          (test : Bool)
          → (declaration_of (decls_of es) name ≡ Some x → (f : DeclPositions) × Contains es f × (f.decl ≡ x)
          × (x.name ≡ name))
          → bytes_eq e.decl.name name ≡ test
          → cond test (Some e.decl) (declaration_of (decls_of es) name) ≡ Some x
          → (f : DeclPositions) × Contains (e ∷ es) f × (f.decl ≡ x) × (x.name ≡ name)
      by_test true rest same found = (
        e,
        Contains-first e es,
        same_Some e.decl x found,
        sym (ap (λ (d : Decl). d.name) (same_Some e.decl x found))
            ∙ (bytes_eq-Decides e.decl.name name).0 same,
      )
      by_test false rest same found = let later = rest found in
          (later.0, Contains-later e es later.0 later.1, later.2, later.3)

of_group :
    (all : List DeclPositions) (name : List ℕ) (o : Option Decl) (group : ℕ)
    → declaration_of (decls_of all) name ≡ o → OfGroup o (Some group)
    → (e : DeclPositions) × Contains all e × (e.decl.name ≡ name) × (e.decl.group ≡ group)
of_group all name None group is here = absurd here
of_group all name (Some x) group is here = let found = found_in all name x is in (
  found.0,
  found.1,
  ap (λ (d : Decl). d.name) found.2 ∙ found.3,
  ap (λ (d : Decl). d.group) found.2 ∙ here,
)

pub decl_at :
    (all : List DeclPositions) (j : ℕ) (d : DeclPositions) → slice_get all j ≡ Some d
    → slice_get (decls_of all) j ≡ Some d.decl
decl_at all j d at = slice_get-map (λ (x : DeclPositions). x.decl) all j
    ∙ ap (option_map (λ (x : DeclPositions). x.decl)) at

pub name_placed :
    (all : List DeclPositions) (j : ℕ) (d : DeclPositions) → slice_get all j ≡ Some d
    → slice_get (declared_names all) j ≡ Some (d.position, d.decl.name)
name_placed all j d at = slice_get-map (λ (x : DeclPositions). (x.position, x.decl.name)) all j
    ∙ ap (option_map (λ (x : DeclPositions). (x.position, x.decl.name))) at

-- If declared names are distinct, then no earlier declaration has the name of a declaration.
pub not_earlier :
    (all : List DeclPositions) → ((k : ℕ) → ¬ NamesBreak all twice k) → (name : List ℕ) (j : ℕ)
    (e : DeclPositions) → slice_get all j ≡ Some e → e.decl.name ≡ name → (i : ℕ) → i < j
    → slice_get (names_of_decls (decls_of all)) i ≢ Some name
not_earlier all distinct name j e at named i before same =
    let decl = map-slice_get (λ (d : Decl). d.name) (decls_of all) i name same in
    let f = map-slice_get (λ (x : DeclPositions). x.decl) all i decl.0 decl.1 in
    distinct e.position (inl (record {
      earlier = i;
      later = j;
      position = f.0.position;
      name = name;
      before = before;
      first = name_placed all i f.0 f.1
          ∙ ap (λ x. Some (f.0.position, x)) (ap (λ (d : Decl). d.name) f.2 ∙ decl.2);
      second = name_placed all j e at ∙ ap (λ x. Some (e.position, x)) named;
    }))

-- If declared names are distinct, then the lookup of a declaration's name finds the declaration.
first_named :
    (all : List DeclPositions) → ((k : ℕ) → ¬ NamesBreak all twice k) → (name : List ℕ)
    (e : DeclPositions) → Contains all e → e.decl.name ≡ name
    → declaration_of (decls_of all) name ≡ Some e.decl
first_named all distinct name e among named =
    let j = among.0 in
    let at : slice_get all j ≡ Some e = slice_get-get_or all j e among.1 ∙ ap Some among.2 in
    find_first (decls_of all) name j e.decl (decl_at all j e at) named
    (not_earlier all distinct name j e at named)

-- ---- one declaration of the file

module _ (all : List DeclPositions) (d : DeclPositions) (site : Site) (is : IsSite site d) where
  rows_break :
      (k : ℕ) → SiteBreaks names.Twice (decls_of all) d.decl site k ↔ BreaksInDecl all d twice k
  rows_break k = (
    λ some. from_row some.0 (is.rows some.0 some.1) some.2,
    ⊎_elim (λ here. (d.parameters, is.all_rows d.parameters (inl refl), here))
        (⊎_elim (λ here. (d.constructors, is.all_rows d.constructors (inr (inl refl)), here))
        (⊎_elim (λ some. (some.0, is.all_rows some.0 (inr (inr (inl some.1))), some.2))
        (λ some. (
          filter_map written_tag some.0,
          is.all_rows (filter_map written_tag some.0) (inr (inr (inr (some.0, some.1, refl)))),
          some.2,
        )))),
  ) where
    from_row : (row : List Placed) → IsRow d row → IsSecond row k → BreaksInDecl all d twice k
    from_row row row_is second = ⊎_elim (λ e. inl (subst (λ r. IsSecond r k) e second))
        (⊎_elim (λ e. inr (inl (subst (λ r. IsSecond r k) e second)))
        (⊎_elim (λ among. inr (inr (inl (row, among, second))))
        (λ some. inr (inr (inr (some.0, some.1, subst (λ r. IsSecond r k) some.2 second))))))
        row_is

  unknown_break :
      (k : ℕ) → SiteBreaks names.UnknownName (decls_of all) d.decl site k
      ↔ BreaksInDecl all d unknown_name k
  unknown_break = uses_break (decls_of all) site.uses d.occurrences is.used use_rules.UnknownName
      (λ name arguments. IsUnseen (decls_of all) (λ g. g ≤ d.decl.group) d.occurrences name) (Some d.decl.group)
      (λ u arguments has. let same = later_unseen (declaration_of (decls_of all) u.name) d.decl.group in
      (λ breaks. (breaks.0, same.0 breaks.1), λ breaks. (breaks.0, same.1 breaks.1)))

  arity_break :
      (k : ℕ) → SiteBreaks names.Arity (decls_of all) d.decl site k ↔ BreaksInDecl all d arity k
  arity_break = uses_break (decls_of all) site.uses d.occurrences is.used use_rules.Arity
      (λ name arguments. (n : ℕ) × (arity_of (decls_of all) name ≡ Some n) × (n ≢ length arguments)) (Some d.decl.group)
      (λ u arguments has. other_arity (arity_of (decls_of all) u.name) u.arguments (length arguments) has.counted)

  irregular_break :
      ((k : ℕ) → ¬ NamesBreak all twice k) → (k : ℕ)
      → SiteBreaks names.Irregular (decls_of all) d.decl site k ↔ BreaksInDecl all d irregular k
  irregular_break distinct = uses_break (decls_of all) site.uses d.occurrences is.used use_rules.Irregular
      (λ name arguments. (e : DeclPositions) × Contains all e × (e.decl.name ≡ name)
      × (e.decl.group ≡ d.decl.group) × (t : Ty) × Contains arguments t × HoldsVariable t × (¬ IsVariable t))
      (Some d.decl.group)
      (λ u arguments has. (
        λ breaks. let found = of_group all u.name (declaration_of (decls_of all) u.name) d.decl.group refl breaks.1 in
            let grows = has.grow.0 breaks.0 in
            (found.0, found.1, found.2, found.3, grows.0, grows.1, grows.2, grows.3),
        λ some. (
          has.grow.1 (some.4, some.5, some.6, some.7),
          subst (λ o. OfGroup o (Some d.decl.group)) (sym (first_named all distinct u.name some.0 some.1 some.2)) some.3,
        ),
      ))

  site_breaks :
      (rule : NameRule) → rule ≢ names.Cyclic → (WantsDistinctNames rule → (k : ℕ) → ¬ NamesBreak all twice k) → (k : ℕ)
      → SiteBreaks rule (decls_of all) d.decl site k ↔ BreaksInDecl all d (rule_of rule) k
  site_breaks names.Twice none distinct k = rows_break k
  site_breaks names.UnknownName none distinct k = unknown_break k
  site_breaks names.Arity none distinct k = arity_break k
  site_breaks names.UnboundVariable none distinct k = (
    λ some. (
      some.0.1,
      is.variables k some.0.1
          (subst (λ position. Contains site.variables (position, some.0.1)) some.2.0 some.1),
      some.2.1,
    ),
    λ some. ((k, some.0), is.all_variables k some.0 some.1, (refl, some.2)),
  )
  site_breaks names.Cyclic none distinct k = absurd (none refl)
  site_breaks names.Irregular none distinct k = irregular_break (distinct tt) k
  site_breaks names.TooManyConstructors none distinct k = (
    λ at. subst (λ (positions : List ℕ). slice_get positions 244 ≡ Some k) is.carrying at,
    λ at. subst (λ (positions : List ℕ). slice_get positions 244 ≡ Some k) (sym is.carrying) at,
  )

-- ---- the file

module _ (all : List DeclPositions) (rule : NameRule) (none : rule ≢ names.Cyclic)
    (distinct : WantsDistinctNames rule → (k : ℕ) → ¬ NamesBreak all twice k) where
  sites_break :
      (sites : List Site) → length sites ≡ length all
      → ((i : ℕ) (site : Site) (d : DeclPositions) → slice_get sites i ≡ Some site
      → slice_get all i ≡ Some d → IsSite site d)
      → (k : ℕ)
      → SitesBreak rule (decls_of all) sites k
      ↔ ((d : DeclPositions) × Contains all d × BreaksInDecl all d (rule_of rule) k)
  sites_break sites counted stand k = (
    λ some. let e = map-slice_get (λ (x : DeclPositions). x.decl) all some.0 some.2.0 some.2.2 in (
      e.0,
      slice_get-Contains all some.0 e.0 e.1,
      (site_breaks all e.0 some.2.1 (stand some.0 some.2.1 e.0 some.2.3 e.1) rule none distinct k).0
          (subst (λ x. SiteBreaks rule (decls_of all) x some.2.1 k) (sym e.2) some.2.4),
    ),
    λ some. let j = some.1.0 in
        let d = some.0 in
        let d_at : slice_get all j ≡ Some d = slice_get-get_or all j d some.1.1 ∙ ap Some some.1.2 in
        let within : j < length all = some.1.1 in
        let site = slice_get_there sites j (omega arith) in (
          j,
          slice_get_within (decls_of all) j d.decl (decl_at all j d d_at),
          (
            d.decl,
            site.0,
            decl_at all j d d_at,
            site.1,
            (site_breaks all d site.0 (stand j site.0 d site.1 d_at) rule none distinct k).1 some.2,
          ),
        ),
  )

names_break :
    (all : List DeclPositions) (rule : NameRule) (k : ℕ)
    → NameBreaks rule (declared_names all) k ↔ NamesBreak all (rule_of rule) k
names_break all names.Twice k = (
  ⊎_elim (λ second. inl second) (λ some. inr (
    some.0.1,
    subst (λ position. Contains (declared_names all) (position, some.0.1)) some.2.0 some.1,
    some.2.1,
  )),
  ⊎_elim (λ second. inl second) (λ some. inr ((k, some.0), some.1, (refl, some.2))),
)
names_break all names.UnknownName k = (λ never. never, λ never. never)
names_break all names.Arity k = (λ never. never, λ never. never)
names_break all names.UnboundVariable k = (λ never. never, λ never. never)
names_break all names.Cyclic k = (λ never. never, λ never. never)
names_break all names.Irregular k = (λ never. never, λ never. never)
names_break all names.TooManyConstructors k = (λ never. never, λ never. never)

pub file_breaks :
    (decls : List Decl) (declared : List Placed) (sites : List Site) (all : List DeclPositions)
    (rule : NameRule) → rule ≢ names.Cyclic → (WantsDistinctNames rule → (k : ℕ) → ¬ NamesBreak all twice k)
    → AreSites decls declared sites all → (k : ℕ)
    → (NameBreaks rule declared k ⊎ SitesBreak rule decls sites k) ↔ BreaksInFile all (rule_of rule) k
file_breaks decls declared sites all rule none distinct are k =
    subst (λ x. (NameBreaks rule x k ⊎ SitesBreak rule decls sites k) ↔ BreaksInFile all (rule_of rule) k) (sym are.declared)
    (subst (λ x. (NameBreaks rule (declared_names all) k ⊎ SitesBreak rule x sites k) ↔ BreaksInFile all (rule_of rule) k)
    (sym are.declares) (
      ⊎_elim (λ here. inl ((names_break all rule k).0 here))
          (λ some. inr ((sites_break all rule none distinct sites are.counted are.stand k).0 some)),
      ⊎_elim (λ here. inl ((names_break all rule k).1 here))
          (λ some. inr ((sites_break all rule none distinct sites are.counted are.stand k).1 some)),
    ))

-- ---- the text of a type

unseen_in_type :
    (o : Option Decl) → Later o None ↔ ((d : Decl) → o ≡ Some d → ¬ Unit {0})
unseen_in_type None = (λ later d is. absurd (none-some d is), λ unseen. tt)
unseen_in_type (Some e) = (λ never. absurd never, λ unseen. unseen e refl tt)

pub type_breaks :
    (decls : List Decl) (site : TypeSite) (occurrences : List Occurrence)
    → IsTypeSite site occurrences → (rule : NameRule) (k : ℕ)
    → TypeBreaks rule decls site k ↔ BreaksInType decls occurrences (rule_of rule) k
type_breaks decls site occurrences is names.Twice k = (
  λ some. let row = is.rows some.0 some.1 in
      (row.0, row.1, subst (λ r. IsSecond r k) row.2 some.2),
  λ some. (
    filter_map written_tag some.0,
    is.all_rows (filter_map written_tag some.0) (some.0, some.1, refl),
    some.2,
  ),
)
type_breaks decls site occurrences is names.UnknownName k =
    uses_break decls site.uses occurrences is.used use_rules.UnknownName
    (λ name arguments. IsUnseen decls (λ g. Unit {0}) occurrences name) None
    (λ u arguments has. let same = unseen_in_type (declaration_of decls u.name) in
    (λ breaks. (breaks.0, same.0 breaks.1), λ breaks. (breaks.0, same.1 breaks.1))) k
type_breaks decls site occurrences is names.Arity k =
    uses_break decls site.uses occurrences is.used use_rules.Arity
    (λ name arguments. (n : ℕ) × (arity_of decls name ≡ Some n) × (n ≢ length arguments)) None
    (λ u arguments has. other_arity (arity_of decls u.name) u.arguments (length arguments) has.counted) k
type_breaks decls site occurrences is names.UnboundVariable k = (λ never. never, λ never. never)
type_breaks decls site occurrences is names.Cyclic k = (λ never. never, λ never. never)
type_breaks decls site occurrences is names.Irregular k = (λ never. never, λ never. never)
type_breaks decls site occurrences is names.TooManyConstructors k = (λ never. never, λ never. never)

-- Lemmas about the parts of a type, and about the rules on names.
use Rattle.std.proofs.Common.{ℕ, suc, ◌≡◌, ◌≤◌, ◌+◌, ◌∙◌, ◌⊎◌, ⊎_elim, inl, inr, Bool, List, [], ◌∷◌, ◌++◌, length, Some, None, refl, sym, ap, ap₂, subst, arith, length-append}
use Rattle.std.specs.Prelude.{Contains, IsSome}
use Rattle.std.proofs.lemmas.Option.{none-some}
use Rattle.std.proofs.lemmas.List.Elements.{Contains-append_left, Contains-append_right}
use Rattle.base_data.proofs.model.Options.{none_or_some, same_or_not, Contains-first, Contains-map}
use Rattle.types_spec.specs.declared.types.decl.Predeclared.{Predeclared}
use Rattle.types_spec.specs.declared.types.decl.Decl.{Decl}
use Rattle.types_spec.specs.types.WellFormed.{TakeArguments, VariablesAmong}
use Rattle.types_spec.specs.types.Declarations.{predeclared, declaration_of, predeclared_arity, arity_in, arity_of}
use Rattle.types_spec.specs.types.Occurrence.{Occurrence, use_of, variable_at, bracket_of, DeclPositions}
use Rattle.types_spec.specs.types.Scope.{twice, unknown_name, arity, unbound_variable, decls_of, BreaksIn}
use Rattle.types_spec.specs.types.Ty.{Ty, variable, named, tuple, bracket, part, tag, tag_of, including}
use Rattle.types_spec.specs.types.Ty.{parts}
use Rattle.types_wellformed.specs.accepted.Ranked.{Keeps}
use Rattle.types_wellformed.specs.accepted.KnownThings.{Thing, use_thing, variable_thing, HasParts, HasItems, IsProper, items_of, begins_as, own_thing, things_inside, things_in, thing_of, AllIsKnown, ReportsAll}
use Rattle.types_wellformed.specs.accepted.AcceptedNames.{NamesAreSound}
use Rattle.types_wellformed.proofs.accepted.AcceptedRankLemmas.{contains_or_not}

-- ---- a type whose names take their arguments

-- Each name among the things takes as many arguments as the thing has.
abbrev UsesFit : List Decl → List Thing → Type 0
UsesFit decls things = (x : List ℕ) (ts : List Ty) → Contains things (use_thing x ts) → arity_of decls x ≡ Some (length ts)

fit_left : (decls : List Decl) (first rest : List Thing) → UsesFit decls (first ++ rest) → UsesFit decls first
fit_left decls first rest fit x ts among = fit x ts (Contains-append_left first rest (use_thing x ts) among)

fit_right : (decls : List Decl) (first rest : List Thing) → UsesFit decls (first ++ rest) → UsesFit decls rest
fit_right decls first rest fit x ts among = fit x ts (Contains-append_right first rest (use_thing x ts) among)

-- The name with which the type begins takes the arguments of the type and `n` more arguments.
abbrev BaseTakes : List Decl → ℕ → Ty → Type 0
BaseTakes decls n (variable x) = Unit {0}
BaseTakes decls n (named x) = arity_of decls x ≡ Some n
BaseTakes decls n tuple = Unit {0}
BaseTakes decls n bracket = Unit {0}
BaseTakes decls n (part whole added) = BaseTakes decls (suc n) whole
BaseTakes decls n (tag whole x) = Unit {0}
BaseTakes decls n (tag_of whole x argument) = Unit {0}
BaseTakes decls n (including whole included) = Unit {0}

module _ (decls : List Decl) where
  base_takes :
      (arguments items : List Ty) (n : ℕ) (t : Ty) → UsesFit decls (begins_as arguments items t) → length arguments ≡ n + length (parts t)
      → BaseTakes decls n t
  base_takes arguments items n (variable x) fit long = tt
  base_takes arguments items n (named x) fit long =
      fit x arguments (Contains-first (use_thing x arguments) []) ∙ ap Some (omega (arith, long))
  base_takes arguments items n tuple fit long = tt
  base_takes arguments items n bracket fit long = tt
  base_takes arguments items n (part whole added) fit long =
      base_takes arguments items (suc n) whole fit (omega (arith, long, length-append (parts whole) (added ∷ [])))
  base_takes arguments items n (tag whole x) fit long = tt
  base_takes arguments items n (tag_of whole x argument) fit long = tt
  base_takes arguments items n (including whole included) fit long = tt

  own_takes : (t : Ty) → UsesFit decls (own_thing t) → BaseTakes decls 0 t
  own_takes t fit = base_takes (parts t) (items_of t) 0 t fit (omega arith)

  bracket_takes : (n : ℕ) (t : Ty) → HasItems t → BaseTakes decls n t
  bracket_takes n (variable x) has = absurd has
  bracket_takes n (named x) has = absurd has
  bracket_takes n tuple has = absurd has
  bracket_takes n bracket has = tt
  bracket_takes n (part whole added) has = absurd has
  bracket_takes n (tag whole x) has = tt
  bracket_takes n (tag_of whole x argument) has = tt
  bracket_takes n (including whole included) has = tt

  takes : (t : Ty) (k : ℕ) → IsProper t → BaseTakes decls k t → UsesFit decls (things_inside t) → TakeArguments decls k t
  takes (variable x) k proper base inside = tt
  takes (named x) k proper base inside = base
  takes tuple k proper base inside = tt
  takes bracket k proper base inside = tt
  takes (part whole added) k proper base inside =
      let later = fit_right decls (things_inside whole) (own_thing added ++ things_inside added) inside in (
        takes whole (suc k) proper.1 base (fit_left decls (things_inside whole) (own_thing added ++ things_inside added) inside),
        takes added 0 proper.2 (own_takes added (fit_left decls (own_thing added) (things_inside added) later))
            (fit_right decls (own_thing added) (things_inside added) later),
      )
  takes (tag whole x) k proper base inside = takes whole 0 proper.1 (bracket_takes 0 whole proper.0) inside
  takes (tag_of whole x argument) k proper base inside =
      let later = fit_right decls (things_inside whole) (own_thing argument ++ things_inside argument) inside in (
        takes whole 0 proper.1 (bracket_takes 0 whole proper.0)
            (fit_left decls (things_inside whole) (own_thing argument ++ things_inside argument) inside),
        takes argument 0 proper.2 (own_takes argument (fit_left decls (own_thing argument) (things_inside argument) later))
            (fit_right decls (own_thing argument) (things_inside argument) later),
      )
  takes (including whole included) k proper base inside =
      let later = fit_right decls (things_inside whole) (own_thing included ++ things_inside included) inside in (
        takes whole 0 proper.1 (bracket_takes 0 whole proper.0)
            (fit_left decls (things_inside whole) (own_thing included ++ things_inside included) inside),
        takes included 0 proper.2 (own_takes included (fit_left decls (own_thing included) (things_inside included) later))
            (fit_right decls (own_thing included) (things_inside included) later),
      )

-- ---- a type whose variables are among some names

abbrev VariablesFit : List (List ℕ) → List Thing → Type 0
VariablesFit names things = (x : List ℕ) → Contains things (variable_thing x) → Contains names x

module _ (names : List (List ℕ)) where
  keep_left : (first rest : List Thing) → VariablesFit names (first ++ rest) → VariablesFit names first
  keep_left first rest fit x among = fit x (Contains-append_left first rest (variable_thing x) among)

  keep_right : (first rest : List Thing) → VariablesFit names (first ++ rest) → VariablesFit names rest
  keep_right first rest fit x among = fit x (Contains-append_right first rest (variable_thing x) among)

  abbrev BaseAmong : Ty → Type 0
  BaseAmong (variable x) = Contains names x
  BaseAmong t = Unit {0}

  own_among : (t : Ty) → VariablesFit names (own_thing t) → BaseAmong t
  own_among (variable x) fit = fit x (Contains-first (variable_thing x) [])
  own_among (named x) fit = tt
  own_among tuple fit = tt
  own_among bracket fit = tt
  own_among (part whole added) fit = tt
  own_among (tag whole x) fit = tt
  own_among (tag_of whole x argument) fit = tt
  own_among (including whole included) fit = tt

  parts_among : (t : Ty) → HasParts t → BaseAmong t
  parts_among (variable x) has = absurd has
  parts_among (named x) has = tt
  parts_among tuple has = tt
  parts_among bracket has = tt
  parts_among (part whole added) has = tt
  parts_among (tag whole x) has = tt
  parts_among (tag_of whole x argument) has = tt
  parts_among (including whole included) has = tt

  items_among : (t : Ty) → HasItems t → BaseAmong t
  items_among (variable x) has = absurd has
  items_among (named x) has = tt
  items_among tuple has = tt
  items_among bracket has = tt
  items_among (part whole added) has = tt
  items_among (tag whole x) has = tt
  items_among (tag_of whole x argument) has = tt
  items_among (including whole included) has = tt

  among_names : (t : Ty) → IsProper t → BaseAmong t → VariablesFit names (things_inside t) → VariablesAmong names t
  among_names (variable x) proper base inside = base
  among_names (named x) proper base inside = tt
  among_names tuple proper base inside = tt
  among_names bracket proper base inside = tt
  among_names (part whole added) proper base inside =
      let later = keep_right (things_inside whole) (own_thing added ++ things_inside added) inside in (
        among_names whole proper.1 (parts_among whole proper.0) (keep_left (things_inside whole) (own_thing added ++ things_inside added) inside),
        among_names added proper.2 (own_among added (keep_left (own_thing added) (things_inside added) later))
            (keep_right (own_thing added) (things_inside added) later),
      )
  among_names (tag whole x) proper base inside = among_names whole proper.1 (items_among whole proper.0) inside
  among_names (tag_of whole x argument) proper base inside =
      let later = keep_right (things_inside whole) (own_thing argument ++ things_inside argument) inside in (
        among_names whole proper.1 (items_among whole proper.0) (keep_left (things_inside whole) (own_thing argument ++ things_inside argument) inside),
        among_names argument proper.2 (own_among argument (keep_left (own_thing argument) (things_inside argument) later))
            (keep_right (own_thing argument) (things_inside argument) later),
      )
  among_names (including whole included) proper base inside =
      let later = keep_right (things_inside whole) (own_thing included ++ things_inside included) inside in (
        among_names whole proper.1 (items_among whole proper.0) (keep_left (things_inside whole) (own_thing included ++ things_inside included) inside),
        among_names included proper.2 (own_among included (keep_left (own_thing included) (things_inside included) later))
            (keep_right (own_thing included) (things_inside included) later),
      )

-- ---- complete occurrences

-- The occurrence is a use of the name `x` with the arguments `ts`.
record UseAt (occurrence : Occurrence) (x : List ℕ) (ts : List Ty) : Type 0 where
  position : ℕ
  in_tag : Bool
  is : occurrence ≡ use_of position x ts in_tag

use_known : (occurrence : Occurrence) (x : List ℕ) (ts : List Ty) → thing_of occurrence ≡ use_thing x ts → UseAt occurrence x ts
use_known (use_of k y us in_tag) x ts same =
    record { position = k; in_tag = in_tag; is = let n : y ≡ x = cc in let a : us ≡ ts = cc in ap₂ (λ z ws. use_of k z ws in_tag) n a }
use_known (variable_at k y) x ts same = absurd (cc)
use_known (bracket_of items) x ts same = absurd (cc)

variable_known : (occurrence : Occurrence) (x : List ℕ) → thing_of occurrence ≡ variable_thing x → (k : ℕ) × (occurrence ≡ variable_at k x)
variable_known (use_of k y us in_tag) x same = absurd (cc)
variable_known (variable_at k y) x same = let n : y ≡ x = cc in (k, ap (variable_at k) n)
variable_known (bracket_of items) x same = absurd (cc)

module _ (decls : List Decl) (Seen : ℕ → Type 0) (occurrences : List Occurrence)
    (known : (k : ℕ) → ¬ BreaksIn decls Seen occurrences unknown_name k) (fits : (k : ℕ) → ¬ BreaksIn decls Seen occurrences arity k) where
  -- Each name that an occurrence uses has an arity.
  meant : (k : ℕ) (x : List ℕ) (ts : List Ty) (in_tag : Bool) → Contains occurrences (use_of k x ts in_tag) → (n : ℕ) × (arity_of decls x ≡ Some n)
  meant k x ts in_tag occurs = by_kind (none_or_some (predeclared x)) (none_or_some (declaration_of decls x)) where
    by_kind : (predeclared x ≡ None) ⊎ ((b : Predeclared) × (predeclared x ≡ Some b))
        → (declaration_of decls x ≡ None) ⊎ ((e : Decl) × (declaration_of decls x ≡ Some e)) → (n : ℕ) × (arity_of decls x ≡ Some n)
    by_kind (inr b) declared = (predeclared_arity b.0, ap (λ o. arity_in o (declaration_of decls x)) b.1)
    by_kind (inl new) (inr e) = (length e.0.parameters, ap₂ arity_in new e.1)
    by_kind (inl new) (inl none) = absurd (known k (x, ts, in_tag, occurs, (new, λ decl is seen. none-some decl (sym none ∙ is))))

  takes_its : (k : ℕ) (x : List ℕ) (ts : List Ty) (in_tag : Bool) → Contains occurrences (use_of k x ts in_tag) → arity_of decls x ≡ Some (length ts)
  takes_its k x ts in_tag occurs =
      let m = meant k x ts in_tag occurs in
      ⊎_elim (λ same. m.1 ∙ ap Some same)
      (λ other. absurd (fits k (x, ts, in_tag, occurs, (m.0, m.1, other))))
      (same_or_not m.0 (length ts))

  uses_fit : (t : Ty) → ReportsAll occurrences t → UsesFit decls (things_in t)
  uses_fit t reported x ts stands =
      let o = reported (use_thing x ts) stands in
      let u = use_known o.0 x ts o.2 in
      takes_its u.position x ts u.in_tag (subst (λ e. Contains occurrences e) u.is o.1)

  pub arguments_follow : (t : Ty) → IsProper t → ReportsAll occurrences t → TakeArguments decls 0 t
  arguments_follow t proper reported =
      let fit = uses_fit t reported in
      takes decls t 0 proper (own_takes decls t (fit_left decls (own_thing t) (things_inside t) fit)) (fit_right decls (own_thing t) (things_inside t) fit)

module _ (all : List DeclPositions) (reported : AllIsKnown all) (once : Keeps all twice) (known : Keeps all unknown_name) (fits : Keeps all arity)
    (bound : Keeps all unbound_variable) where
  new_name : (d : DeclPositions) → Contains all d → predeclared d.decl.name ≡ None
  new_name d among = ⊎_elim (λ none. none)
      (λ some. absurd (once d.position (inl (inr (
        d.decl.name,
        Contains-map (λ (e : DeclPositions). (e.position, e.decl.name)) all d among,
        subst IsSome (sym some.1) refl,
      )))))
      (none_or_some (predeclared d.decl.name))

  variables_fit : (d : DeclPositions) (t : Ty) → Contains all d → ReportsAll d.occurrences t → VariablesFit d.decl.parameters (things_in t)
  variables_fit d t among reports x stands =
      let o = reports (variable_thing x) stands in
      let u = variable_known o.0 x o.2 in
      ⊎_elim (λ parameter. parameter)
      (λ other. absurd (bound u.0 (inr (d, among, (x, subst (λ e. Contains d.occurrences e) u.1 o.1, other)))))
      (contains_or_not d.decl.parameters x)

  pub names_follow_lem : NamesAreSound all
  names_follow_lem = record {
    new_names = new_name;
    arguments = λ d t among written proper.
        arguments_follow (decls_of all) (λ group. group ≤ d.decl.group) d.occurrences (λ k breaks. known k (inr (d, among, breaks)))
        (λ k breaks. fits k (inr (d, among, breaks))) t proper (reported d t among written);
    variables = λ d t among written proper.
        let fit = variables_fit d t among (reported d t among written) in
        among_names d.decl.parameters t proper (own_among d.decl.parameters t (keep_left d.decl.parameters (own_thing t) (things_inside t) fit))
        (keep_right d.decl.parameters (own_thing t) (things_inside t) fit);
  }

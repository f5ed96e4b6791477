-- Lemmas about the abbreviations of a group that are expanded at the head of a type.
use Rattle.std.proofs.Common.{ℕ, zero, suc, ◌≡◌, ◌∙◌, List, Option, Some, None, refl, sym, ap, subst}
use Rattle.std.specs.Prelude.{option_and_then}
use Rattle.std.proofs.lemmas.Option.{none-some, same_Some}
use Rattle.types_spec.specs.declared.types.decl.Decl.{Decl}
use Rattle.types_spec.specs.types.Ty.{Ty, name_of}
use Rattle.types_spec.specs.types.TypeNodes.{type_at}
use Rattle.types_spec.specs.types.Declarations.{declaration_of, unfolded, unfolded_times}
use Rattle.types_spec.specs.types.Scope.{IsThrough}
use Rattle.types_build.specs.representation.AbbreviationWay.{IsOfAt, Way, IsNearer}
use Rattle.types_wellformed.specs.head_rules.Rules.{IsOwnDecl, IsOwn}

module _ (decls : List Decl) (group : ℕ) where
  -- If an abbreviation of the group is at the head of a type, then the type expands through the
  -- group.
  own_decl :
      (t : Ty) (o : Option (List ℕ)) → name_of t ≡ o → IsOwnDecl group (option_and_then (declaration_of decls) o)
      → IsThrough decls group t
  own_decl t None named own = absurd own
  own_decl t (Some name) named own = by (declaration_of decls name) refl own where
    by : (d : Option Decl) → declaration_of decls name ≡ d → IsOwnDecl group d → IsThrough decls group t
    by None found own' = absurd own'
    by (Some d) found own' = record {
      times = 0;
      type = t;
      name = name;
      decl = d;
      replaced = refl;
      named = named;
      found = found;
      abbreviates = own'.0;
      own = own'.1;
    }

  pub own_is_through : (t : Ty) → IsOwn decls group t → IsThrough decls group t
  own_is_through t own = own_decl t (name_of t) refl own

  through_is_own : (t : Ty) (is : IsThrough decls group t) → IsOwn decls group is.type
  through_is_own t is =
      subst (λ o. IsOwnDecl group (option_and_then (declaration_of decls) o)) (sym is.named)
      (subst (IsOwnDecl group) (sym is.found) (is.abbreviates, is.own))

  -- ---- one expansion

  pub through_before : (t u : Ty) → unfolded decls t ≡ Some u → IsThrough decls group u → IsThrough decls group t
  through_before t u is through = record {
    times = suc through.times;
    type = through.type;
    name = through.name;
    decl = through.decl;
    replaced = ap (option_and_then (unfolded_times decls through.times)) is ∙ through.replaced;
    named = through.named;
    found = through.found;
    abbreviates = through.abbreviates;
    own = through.own;
  }

  module _ (t : Ty) (not_own : ¬ IsOwn decls group t) (through : IsThrough decls group t) where
    replaced_later :
        (u : Ty) → unfolded decls t ≡ Some u → (n : ℕ) → unfolded_times decls n t ≡ Some through.type → IsThrough decls group u
    replaced_later u is zero here =
        absurd (not_own (subst (IsOwn decls group) (sym (same_Some t through.type here)) (through_is_own t through)))
    replaced_later u is (suc n) later = record {
      times = n;
      type = through.type;
      name = through.name;
      decl = through.decl;
      replaced = sym (ap (option_and_then (unfolded_times decls n)) is) ∙ later;
      named = through.named;
      found = through.found;
      abbreviates = through.abbreviates;
      own = through.own;
    }

    pub through_after : (u : Ty) → unfolded decls t ≡ Some u → IsThrough decls group u
    through_after u is = replaced_later u is through.times through.replaced

    never_replaced : unfolded decls t ≡ None → (n : ℕ) → unfolded_times decls n t ≡ Some through.type → ⊥
    never_replaced none zero here = not_own (subst (IsOwn decls group) (sym (same_Some t through.type here)) (through_is_own t through))
    never_replaced none (suc n) later =
        none-some through.type (sym (ap (option_and_then (unfolded_times decls n)) none) ∙ later)

    pub never_through : unfolded decls t ≡ None → ⊥
    never_through none = never_replaced none through.times through.replaced

  -- ---- a sequence of expansions

  own_at : (o : Option Decl) → IsOwnDecl group o → IsOfAt (Some group) o
  own_at None own = own
  own_at (Some d) own = own

  way_before : (n : ℕ) (t v : Ty) → Way decls (Some group) n t v → IsThrough decls group v → IsThrough decls group t
  way_before zero t v is through = subst (IsThrough decls group) (sym is) through
  way_before (suc n) t v way through = through_before t way.0 way.2 (way_before n way.0 v way.3 through)

  way_after : (n : ℕ) (t v : Ty) → Way decls (Some group) n t v → IsThrough decls group t → IsThrough decls group v
  way_after zero t v is through = subst (IsThrough decls group) is through
  way_after (suc n) t v way through =
      way_after n way.0 v way.3
      (through_after t (λ own. way.1 (own_at (option_and_then (declaration_of decls) (name_of t)) own)) through way.0 way.2)

  pub nearer_before :
      (types : List Ty) (t : Ty) (n : ℕ) → IsNearer decls (Some group) types t n → IsThrough decls group (type_at types n)
      → IsThrough decls group t
  nearer_before types t n nearer through =
      through_before t nearer.first nearer.is
      (way_before nearer.leads.0 nearer.first (type_at types n) nearer.leads.1 through)

  pub nearer_after :
      (types : List Ty) (t : Ty) (n : ℕ) → IsNearer decls (Some group) types t n → ¬ IsOwn decls group t
      → IsThrough decls group t → IsThrough decls group (type_at types n)
  nearer_after types t n nearer not_own through =
      way_after nearer.leads.0 nearer.first (type_at types n) nearer.leads.1
      (through_after t not_own through nearer.first nearer.is)

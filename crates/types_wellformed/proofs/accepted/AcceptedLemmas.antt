-- The theorems about declarations and types, combined from the theorems about names, ranks and
-- polymorphic variants.
use Rattle.std.proofs.Common.{ℕ, ◌≡◌, ◌∙◌, List, Option, Some, None, sym, subst}
use Rattle.std.specs.Prelude.{Contains, option_map}
use Rattle.std.proofs.lemmas.Option.{same_Some, none-some}
use Rattle.types_spec.specs.declared.types.decl.Decl.{Decl}
use Rattle.types_spec.specs.types.WellFormed.{IsType, types_of_body, AreSound, IsSoundType, AreWellFormed, VariablesAmong}
use Rattle.types_spec.specs.types.Declarations.{predeclared, declaration_of}
use Rattle.types_spec.specs.types.Occurrence.{Occurrence, DeclPositions}
use Rattle.types_spec.specs.types.Scope.{twice, unknown_name, arity, unbound_variable, cyclic, not_variant, hash_clash, decls_of, BreaksInFile, KeepsAll, BreaksInType}
use Rattle.types_spec.specs.types.Ty.{Ty}
use Rattle.types_theory.proofs.equality.EqualityNeedLemmas.{head_plain}
use Rattle.types_theory.proofs.equality.RankedLemmas.{are_ranked}
use Rattle.types_wellformed.specs.accepted.AcceptedBrackets.{HeadsArePlain, BracketsAreSound}
use Rattle.types_wellformed.specs.accepted.AcceptedNames.{NamesAreSound}
use Rattle.types_wellformed.specs.accepted.Ranked.{Keeps}
use Rattle.types_wellformed.specs.accepted.KnownThings.{IsProper, ReportsAll}
use Rattle.types_wellformed.specs.accepted.Accepted.{IsWritten, AreKnownWhole}
use Rattle.types_wellformed.proofs.accepted.AcceptedRankLemmas.{ranks_follow_lem, found, found_named, found_decl}
use Rattle.types_wellformed.proofs.accepted.AcceptedNameLemmas.{arguments_follow, names_follow_lem}
use Rattle.types_wellformed.proofs.accepted.AcceptedBracketLemmas.{brackets_follow_in, brackets_follow_lem}

module _ (all : List DeclPositions) (reported : AreKnownWhole all) where
  -- A declaration with its occurrences.
  record Placed (decl : Decl) : Type 0 where
    d : DeclPositions
    among : Contains all d
    is : d.decl ≡ decl

  placed : (name : List ℕ) (decl : Decl) → declaration_of (decls_of all) name ≡ Some decl → Placed decl
  placed name decl is = by_found (found all name) (λ d at. (found_named all name d at).0) (sym (found_decl all name) ∙ is) where
    by_found : (o : Option DeclPositions) → ((d : DeclPositions) → o ≡ Some d → Contains all d) → option_map (λ (d : DeclPositions). d.decl) o ≡ Some decl → Placed decl
    by_found None there none = absurd (none-some decl none)
    by_found (Some d) there some = record { d = d; among = there d (λ i. Some d); is = same_Some d.decl decl some }

  written_at : (name : List ℕ) (decl : Decl) (t : Ty) → declaration_of (decls_of all) name ≡ Some decl → Contains (types_of_body decl.body) t → IsWritten t
  written_at name decl t is stands =
      let p = placed name decl is in
      reported.written p.d t p.among (subst (λ (e : Decl). Contains (types_of_body e.body) t) (sym p.is) stands)

  -- If names are declared once and known, and no abbreviation is cyclic, then the declarations are
  -- sound.
  pub sound_by_names : Keeps all twice → Keeps all unknown_name → Keeps all cyclic → AreSound (decls_of all)
  sound_by_names once known acyclic =
      let ranks = ranks_follow_lem all reported.uses once known acyclic in
      record {
        rank = ranks.0;
        ranking = ranks.1;
        written = λ name decl t is stands. let w = written_at name decl t is stands in (w.type, w.shallow);
      }

  module _ (keeps : KeepsAll (BreaksInFile all)) where
    names : NamesAreSound all
    names = names_follow_lem all reported.things (keeps twice) (keeps unknown_name) (keeps arity) (keeps unbound_variable)

    sound : AreSound (decls_of all)
    sound = sound_by_names (keeps twice) (keeps unknown_name) (keeps cyclic)

    plain : HeadsArePlain (decls_of all)
    plain t none = head_plain (decls_of all) sound.rank (are_ranked (decls_of all) sound) t none

    brackets : BracketsAreSound all
    brackets = brackets_follow_lem all reported.things plain (keeps not_variant) (keeps hash_clash)

    pub well_formed : AreWellFormed (decls_of all)
    well_formed = record {
      sound = sound;
      new_names = λ name decl is.
          let p = placed name decl is in
          let new : predeclared p.d.decl.name ≡ None = names.new_names p.d p.among in
          subst (λ n. predeclared n ≡ None) (named_so name decl is) (subst (λ (e : Decl). predeclared e.name ≡ None) p.is new);
      types = λ name decl t is stands.
          let p = placed name decl is in
          let w = written_at name decl t is stands in
          let stands' : Contains (types_of_body p.d.decl.body) t = subst (λ (e : Decl). Contains (types_of_body e.body) t) (sym p.is) stands in
          record {
            written = w.type;
            arguments = names.arguments p.d t p.among stands' w.proper;
            brackets = brackets p.d t p.among stands' w.proper;
          };
      variables = λ name decl t is stands.
          let p = placed name decl is in
          let w = written_at name decl t is stands in
          let stands' : Contains (types_of_body p.d.decl.body) t = subst (λ (e : Decl). Contains (types_of_body e.body) t) (sym p.is) stands in
          subst (λ (e : Decl). VariablesAmong e.parameters t) p.is (names.variables p.d t p.among stands' w.proper);
    } where
      named_so : (name : List ℕ) (decl : Decl) → declaration_of (decls_of all) name ≡ Some decl → decl.name ≡ name
      named_so name decl is = by_found (found all name) (λ d at. (found_named all name d at).1) (sym (found_decl all name) ∙ is) where
        by_found : (o : Option DeclPositions) → ((d : DeclPositions) → o ≡ Some d → d.decl.name ≡ name) → option_map (λ (d : DeclPositions). d.decl) o ≡ Some decl → decl.name ≡ name
        by_found None there none = absurd (none-some decl none)
        by_found (Some d) there some = subst (λ (e : Decl). e.name ≡ name) (same_Some d.decl decl some) (there d (λ i. Some d))

pub sound_type :
    (decls : List Decl) (occurrences : List Occurrence) (t : Ty) → AreWellFormed decls → IsProper t → IsType t → ReportsAll occurrences t
    → KeepsAll (BreaksInType decls occurrences) → IsSoundType decls t
sound_type decls occurrences t well proper type reported keeps =
    let plain : HeadsArePlain decls = λ u none. head_plain decls well.sound.rank (are_ranked decls well.sound) u none in
    record {
      written = type;
      arguments = arguments_follow decls (λ group. Unit {0}) occurrences (keeps unknown_name) (keeps arity) t proper reported;
      brackets = brackets_follow_in decls plain (λ group. Unit {0}) occurrences (keeps not_variant) (keeps hash_clash) t proper reported;
    }

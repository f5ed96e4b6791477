-- Lemmas about the additions of a declaration and of its body.
use Rattle.std.proofs.Common.{ℕ, ◌+◌, ◌≡◌, ◌∙◌, false, List, [], ◌∷◌, ◌++◌, length, drop, sym, ap, subst}
use Rattle.std.proofs.lemmas.List.{drop-drop}
use Rattle.types_spec.specs.types.Ty.{Ty}
use Rattle.types_spec.specs.declared.types.decl.Field.{Field}
use Rattle.types_spec.specs.declared.types.decl.Constructor.{Constructor}
use Rattle.types_spec.specs.declared.types.decl.Body.{Body}
use Rattle.types_spec.specs.declared.types.decl.Body.TheVariants as bodies
use Rattle.types_spec.specs.declared.types.decl.Decl.{Decl}
use Rattle.types_spec.specs.types.Occurrence.{Placed}
use Rattle.types_resolve.specs.scope.Sites.{IsSite}
use Rattle.types_resolve.specs.occurrences.Counted.{in_type}
use Rattle.types_resolve.specs.occurrences.CountedFile.{along, field_count, names_of_fields, in_field, constructor_count}
use Rattle.types_resolve.specs.occurrences.CountedFile.{records_in, in_body, body_count, parameters_in, decl_count, counted_positions}
use Rattle.types_resolve.specs.declared.occurrences.found_occurrences.FoundOccurrences.{FoundOccurrences}
use Rattle.types_resolve.specs.scope.TypeBrackets.{AreBrackets}
use Rattle.types_resolve.specs.occurrences.Adds.{Adds}
use Rattle.types_resolve.specs.occurrences.FoundOccurrences.{AddsFound}
use Rattle.types_resolve.specs.occurrences.Bodies.{records_of, carrying_of, occurrences_of, constructor_names, names_in, carrying_body}
use Rattle.types_resolve.proofs.occurrences.OccurrenceFoundLemmas.{AddsFound-then, AddsFound-row, then_row, AreBrackets-added}
use Rattle.types_resolve.proofs.occurrences.OccurrenceSiteLemmas.{nothing, IsSite-added}

-- `b` is `a` with the additions of a body, including the row of the body's constructors.
abbrev pub AddsBody : List ℕ → Body → FoundOccurrences → FoundOccurrences → Type 0
AddsBody ms body a b =
    AddsFound a b (records_in ms body ++ names_in ms body ∷ []) (carrying_body ms body) (in_body ms body)

module _ (ms : List ℕ) (body : Body) where
  pub adds_abbreviation :
      (t : Ty) (a b c : FoundOccurrences) (row : List Placed) → body ≡ bodies.Abbreviation t
      → AddsFound a b [] [] (in_type ms false t) → row ≡ [] → c ≡ record b { site = record b.site { rows = b.site.rows ++ row ∷ [] } }
      → AddsBody ms body a c
  adds_abbreviation t a b c row is adds empty write = subst (λ (x : Body). AddsBody ms x a c) (sym is)
      (subst (λ r. AddsFound a c (r ∷ []) [] (in_type ms false t)) empty
      (then_row a b c [] [] (in_type ms false t) row adds write))

  pub adds_record :
      (fields : List Field) (a b c : FoundOccurrences) (row : List Placed) → body ≡ bodies.Record fields
      → AddsFound a b (names_of_fields ms fields ∷ []) [] (along field_count in_field ms fields) → row ≡ []
      → c ≡ record b { site = record b.site { rows = b.site.rows ++ row ∷ [] } } → AddsBody ms body a c
  adds_record fields a b c row is adds empty write = subst (λ (x : Body). AddsBody ms x a c) (sym is)
      (subst (λ r. AddsFound a c (names_of_fields ms fields ∷ r ∷ []) [] (along field_count in_field ms fields)) empty
      (then_row a b c (names_of_fields ms fields ∷ []) [] (along field_count in_field ms fields) row adds write))

  pub adds_variant :
      (all : List Constructor) (a b : FoundOccurrences) → body ≡ bodies.Variant all
      → AddsFound a b (along constructor_count records_of ms all ++ constructor_names ms all ∷ [])
      (along constructor_count carrying_of ms all) (along constructor_count occurrences_of ms all)
      → AddsBody ms body a b
  adds_variant all a b is adds = subst (λ (x : Body). AddsBody ms x a b) (sym is) adds

module _ (ms name body : List ℕ) (d : Decl) (count : ℕ) (counted : count ≡ length d.parameters)
    (name_is : name ≡ drop count ms) (body_is : body ≡ drop 1 name) where
  behind_name : body ≡ drop (length d.parameters + 1) ms
  behind_name = body_is ∙ ap (drop 1) (name_is ∙ ap (λ n. drop n ms) counted) ∙ drop-drop 1 (length d.parameters) ms

  pub decl_rest :
      (rest : List ℕ) → rest ≡ drop (body_count d.body) body → rest ≡ drop (decl_count d) ms
  decl_rest rest is = is ∙ ap (drop (body_count d.body)) behind_name
      ∙ drop-drop (body_count d.body) (length d.parameters + 1) ms

  -- If the additions of a declaration start from the empty result, then the result is the
  -- declaration's occurrences.
  module _ (start first found : FoundOccurrences) (row : List Placed) (empty : start ≡ record { site = nothing; brackets = [] })
      (row_is : row ≡ parameters_in ms d.parameters)
      (write : first ≡ record start { site = record start.site { rows = start.site.rows ++ row ∷ [] } })
      (adds : AddsBody body d.body first found) where
    abbrev behind : List ℕ
    behind = drop (length d.parameters + 1) ms

    abbrev all_added : Type 0
    all_added = AddsFound start found (parameters_in ms d.parameters ∷ (records_in behind d.body ++ names_in behind d.body ∷ []))
        (carrying_body behind d.body) (in_body behind d.body)

    added : all_added
    added =
        let here : AddsBody behind d.body first found = subst (λ l. AddsBody l d.body first found) behind_name adds in
        let parameters : AddsFound start first (parameters_in ms d.parameters ∷ []) [] [] =
        subst (λ r. AddsFound start first (r ∷ []) [] []) row_is (AddsFound-row start first row write) in
        AddsFound-then start first found (parameters_in ms d.parameters ∷ [])
        (records_in behind d.body ++ names_in behind d.body ∷ []) [] (carrying_body behind d.body) []
        (in_body behind d.body) parameters here

    pub decl_known : IsSite found.site (counted_positions ms d)
    decl_known = IsSite-added found.site (counted_positions ms d)
        (subst (λ (f : FoundOccurrences). Adds f.site found.site
        (parameters_in ms d.parameters ∷ (records_in behind d.body ++ names_in behind d.body ∷ []))
        (carrying_body behind d.body) (in_body behind d.body)) empty added.site)

    pub decl_brackets : AreBrackets found.brackets (in_body behind d.body)
    decl_brackets = AreBrackets-added start found
        (parameters_in ms d.parameters ∷ (records_in behind d.body ++ names_in behind d.body ∷ []))
        (carrying_body behind d.body) (in_body behind d.body) (ap (λ (f : FoundOccurrences). f.brackets) empty) added

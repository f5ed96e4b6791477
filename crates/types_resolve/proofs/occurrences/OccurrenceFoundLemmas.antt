-- Lemmas about additions to a result, one addition at a time.
use Rattle.std.proofs.Common.{ℕ, ◌≡◌, ◌∙◌, List, [], ◌∷◌, ◌++◌, sym, ap, subst, append_assoc}
use Rattle.std.specs.Prelude.{All}
use Rattle.std.proofs.lemmas.Grind.{flat_map-append}
use Rattle.std.proofs.lemmas.List.{append-nil}
use Rattle.std.proofs.lemmas.List.Elements.{All-nil, filter_map-append}
use Rattle.types_spec.specs.types.Ty.{Ty}
use Rattle.types_spec.specs.types.Occurrence.{Placed, PlacedItem, Occurrence}
use Rattle.types_resolve.specs.declared.scope.site.Site.{Site}
use Rattle.types_resolve.specs.declared.scope.type_brackets.BracketItem.{BracketItem}
use Rattle.types_resolve.specs.declared.scope.type_brackets.TypeBrackets.{TypeBrackets}
use Rattle.types_resolve.specs.declared.occurrences.found_occurrences.FoundOccurrences.{FoundOccurrences}
use Rattle.types_resolve.specs.occurrences.Adds.{Adds}
use Rattle.types_resolve.specs.scope.TypeBrackets.{as_bracket, brackets_among, brackets_known, type_known, all_known, IsOrdered, AreBrackets}
use Rattle.types_resolve.specs.occurrences.FoundOccurrences.{AddsFound}
use Rattle.types_resolve.proofs.occurrences.AddsLemmas.{Adds-none, Adds-then, Adds-row, Adds-carrying, then_mapped}

-- ---- brackets, one occurrence at a time

-- Let remaining occurrences complete the collected brackets. If the first remaining occurrences are
-- added, then the occurrences after the added occurrences complete the brackets.
pub known_next :
    (old new whole : List (List PlacedItem)) (left first rest : List Occurrence) → left ≡ first ++ rest
    → new ≡ old ++ brackets_among first → old ++ brackets_among left ≡ whole
    → new ++ brackets_among rest ≡ whole
known_next old new whole left first rest is more so_far =
    ap (λ l. l ++ brackets_among rest) more
    ∙ append_assoc old (brackets_among first) (brackets_among rest)
    ∙ ap (λ l. old ++ l) (sym (filter_map-append as_bracket first rest))
    ∙ ap (λ l. old ++ brackets_among l) (sym is)
    ∙ so_far

-- ---- results

pub AddsFound-none : (found : FoundOccurrences) → AddsFound found found [] [] []
AddsFound-none found = record {
  site = Adds-none found.site;
  ordered = λ h. h;
  brackets = sym (append-nil (all_known found.brackets));
}

pub AddsFound-then :
    (a b c : FoundOccurrences) (rows rows' : List (List Placed)) (carrying carrying' : List ℕ) (all all' : List Occurrence)
    → AddsFound a b rows carrying all → AddsFound b c rows' carrying' all'
    → AddsFound a c (rows ++ rows') (carrying ++ carrying') (all ++ all')
AddsFound-then a b c rows rows' carrying carrying' all all' first second = record {
  site = Adds-then a.site b.site c.site rows rows' carrying carrying' all all' first.site second.site;
  ordered = λ h. second.ordered (first.ordered h);
  brackets = then_mapped as_bracket (all_known a.brackets) (all_known b.brackets) (all_known c.brackets) all all'
      first.brackets second.brackets;
}

-- ---- one more addition without a bracket

-- If an addition changes only the site, then the brackets stay the same.
site_alone :
    (old : FoundOccurrences) (site : Site) (rows : List (List Placed)) (carrying : List ℕ) → Adds old.site site rows carrying []
    → AddsFound old (record old { site = site }) rows carrying []
site_alone old site rows carrying adds = record {
  site = adds;
  ordered = λ h. h;
  brackets = sym (append-nil (all_known old.brackets));
}

pub AddsFound-row :
    (old new : FoundOccurrences) (row : List Placed)
    → new ≡ record old { site = record old.site { rows = old.site.rows ++ row ∷ [] } }
    → AddsFound old new (row ∷ []) [] []
AddsFound-row old new row is =
    let site : Site = record old.site { rows = old.site.rows ++ row ∷ [] } in
    subst (λ (f : FoundOccurrences). AddsFound old f (row ∷ []) [] []) (sym is)
    (site_alone old site (row ∷ []) [] (Adds-row old.site site row (λ i. site)))

AddsFound-carrying :
    (old new : FoundOccurrences) (carrying : List ℕ)
    → new ≡ record old { site = record old.site { carrying = old.site.carrying ++ carrying } }
    → AddsFound old new [] carrying []
AddsFound-carrying old new carrying is =
    let site : Site = record old.site { carrying = old.site.carrying ++ carrying } in
    subst (λ (f : FoundOccurrences). AddsFound old f [] carrying []) (sym is)
    (site_alone old site [] carrying (Adds-carrying old.site site carrying (λ i. site)))

-- ---- consecutive additions

pub then_row :
    (a b c : FoundOccurrences) (rows : List (List Placed)) (carrying : List ℕ) (all : List Occurrence) (row : List Placed)
    → AddsFound a b rows carrying all
    → c ≡ record b { site = record b.site { rows = b.site.rows ++ row ∷ [] } }
    → AddsFound a c (rows ++ row ∷ []) carrying all
then_row a b c rows carrying all row adds is =
    subst (λ l. AddsFound a c (rows ++ row ∷ []) l all) (append-nil carrying)
    (subst (λ l. AddsFound a c (rows ++ row ∷ []) (carrying ++ []) l) (append-nil all)
    (AddsFound-then a b c rows (row ∷ []) carrying [] all [] adds (AddsFound-row b c row is)))

pub carrying_then :
    (a b c : FoundOccurrences) (rows : List (List Placed)) (carrying : List ℕ) (all : List Occurrence)
    → b ≡ record a { site = record a.site { carrying = a.site.carrying ++ carrying } }
    → AddsFound b c rows [] all → AddsFound a c rows carrying all
carrying_then a b c rows carrying all is adds =
    subst (λ l. AddsFound a c rows l all) (append-nil carrying)
    (AddsFound-then a b c [] rows carrying [] [] all (AddsFound-carrying a b carrying is) adds)

-- ---- the brackets of one more type

pub known_more :
    (old : List TypeBrackets) (t : TypeBrackets) → all_known (old ++ t ∷ []) ≡ all_known old ++ type_known t
known_more old t =
    flat_map-append type_known old (t ∷ []) ∙ ap (λ l. all_known old ++ l) (append-nil (type_known t))

pub AddsFound-type :
    (old new : FoundOccurrences) (types : List Ty) (brackets : List (List BracketItem)) (all : List Occurrence)
    → Adds old.site new.site [] [] all → brackets_known types brackets ≡ brackets_among all
    → (All IsOrdered old.brackets → All IsOrdered new.brackets)
    → all_known new.brackets ≡ all_known old.brackets ++ brackets_known types brackets
    → AddsFound old new [] [] all
AddsFound-type old new types brackets all adds same ordered known =
    record { site = adds; ordered = ordered; brackets = known ∙ ap (λ l. all_known old.brackets ++ l) same }

-- ---- additions to the empty result

pub AreBrackets-added :
    (old new : FoundOccurrences) (rows : List (List Placed)) (carrying : List ℕ) (all : List Occurrence)
    → old.brackets ≡ [] → AddsFound old new rows carrying all → AreBrackets new.brackets all
AreBrackets-added old new rows carrying all none adds = record {
  ordered = adds.ordered (subst (All IsOrdered) (sym none) (All-nil IsOrdered));
  known = adds.brackets ∙ ap (λ l. all_known l ++ brackets_among all) none;
}

-- Lemmas about additions to a site, one addition at a time.
use Rattle.std.proofs.Common.{ℕ, ◌≡◌, ◌∙◌, ◌⊎◌, ⊎_elim, inl, inr, Option, List, [], ◌∷◌, ◌++◌}
use Rattle.std.proofs.Common.{length, refl, sym, ap, subst, append_assoc}
use Rattle.std.specs.Prelude.{Contains}
use Rattle.std.specs.List.{filter_map}
use Rattle.std.proofs.lemmas.List.{append-nil}
use Rattle.std.proofs.lemmas.List.Elements.{Contains-append_left, Contains-append_right}
use Rattle.std.proofs.lemmas.List.Elements.{Contains-append_cases, filter_map-append}
use Rattle.base_data.proofs.model.Options.{Contains-none}
use Rattle.types_spec.specs.types.Ty.{Ty}
use Rattle.types_spec.specs.types.Occurrence.{Placed, PlacedItem, Occurrence, use_of, variable_at, bracket_of}
use Rattle.types_spec.specs.types.Scope.{written_tag}
use Rattle.types_resolve.specs.declared.scope.site.Site.{Site}
use Rattle.types_resolve.specs.declared.scope.site.TypeUse.{TypeUse}
use Rattle.types_resolve.specs.occurrences.Facts.{some_grow}
use Rattle.types_resolve.specs.occurrences.Adds.{as_use, as_variable, as_row, Adds}

-- ---- lists

then_list :
    {X : Type 0} (a b c more last : List X) → b ≡ a ++ more → c ≡ b ++ last → c ≡ a ++ (more ++ last)
then_list a b c more last first second =
    second ∙ ap (λ l. l ++ last) first ∙ append_assoc a more last

pub then_mapped :
    {X Y : Type 0} (h : X → Option Y) (a b c : List Y) (more last : List X)
    → b ≡ a ++ filter_map h more → c ≡ b ++ filter_map h last → c ≡ a ++ filter_map h (more ++ last)
then_mapped h a b c more last first second =
    then_list a b c (filter_map h more) (filter_map h last) first second
    ∙ ap (λ l. a ++ l) (sym (filter_map-append h more last))

-- The row `row` is in `old`, in `rows`, or among the rows of the occurrences `all`.
abbrev Among : List (List Placed) → List (List Placed) → List Occurrence → List Placed → Type 0
Among old rows all row = Contains old row ⊎ (Contains rows row ⊎ Contains (filter_map as_row all) row)

tags_left :
    (more last : List Occurrence) (row : List Placed) → Contains (filter_map as_row more) row
    → Contains (filter_map as_row (more ++ last)) row
tags_left more last row among = subst (λ (l : List (List Placed)). Contains l row)
    (sym (filter_map-append as_row more last))
    (Contains-append_left (filter_map as_row more) (filter_map as_row last) row among)

tags_right :
    (more last : List Occurrence) (row : List Placed) → Contains (filter_map as_row last) row
    → Contains (filter_map as_row (more ++ last)) row
tags_right more last row among = subst (λ (l : List (List Placed)). Contains l row)
    (sym (filter_map-append as_row more last))
    (Contains-append_right (filter_map as_row more) (filter_map as_row last) row among)

tags_cases :
    (more last : List Occurrence) (row : List Placed) → Contains (filter_map as_row (more ++ last)) row
    → Contains (filter_map as_row more) row ⊎ Contains (filter_map as_row last) row
tags_cases more last row among = Contains-append_cases (filter_map as_row more) (filter_map as_row last) row
    (subst (λ (l : List (List Placed)). Contains l row) (filter_map-append as_row more last) among)

-- ---- no additions, and consecutive additions

pub Adds-none : (site : Site) → Adds site site [] [] []
Adds-none site = record {
  rows_are = λ row among. inl among;
  rows_there = λ row. ⊎_elim (λ among. among)
      (⊎_elim (λ no. absurd (Contains-none row no)) (λ no. absurd (Contains-none row no)));
  carrying_is = sym (append-nil site.carrying);
  uses_are = sym (append-nil site.uses);
  variables_are = sym (append-nil site.variables);
}

pub Adds-then :
    (a b c : Site) (rows rows' : List (List Placed)) (carrying carrying' : List ℕ) (all all' : List Occurrence)
    → Adds a b rows carrying all → Adds b c rows' carrying' all'
    → Adds a c (rows ++ rows') (carrying ++ carrying') (all ++ all')
Adds-then a b c rows rows' carrying carrying' all all' first second = record {
  rows_are = λ row among. ⊎_elim
      (λ before. ⊎_elim (λ old. inl old) (⊎_elim
      (λ here. inr (inl (Contains-append_left rows rows' row here)))
      (λ tags. inr (inr (tags_left all all' row tags)))) (first.rows_are row before))
      (⊎_elim (λ here. inr (inl (Contains-append_right rows rows' row here)))
      (λ tags. inr (inr (tags_right all all' row tags))))
      (second.rows_are row among);
  rows_there = λ row. ⊎_elim
      (λ old. second.rows_there row (inl (first.rows_there row (inl old))))
      (⊎_elim (λ here. ⊎_elim
      (λ left. second.rows_there row (inl (first.rows_there row (inr (inl left)))))
      (λ right. second.rows_there row (inr (inl right))) (Contains-append_cases rows rows' row here))
      (λ tags. ⊎_elim
      (λ left. second.rows_there row (inl (first.rows_there row (inr (inr left)))))
      (λ right. second.rows_there row (inr (inr right))) (tags_cases all all' row tags)));
  carrying_is =
      then_list a.carrying b.carrying c.carrying carrying carrying' first.carrying_is second.carrying_is;
  uses_are = then_mapped as_use a.uses b.uses c.uses all all' first.uses_are second.uses_are;
  variables_are = then_mapped as_variable a.variables b.variables c.variables all all'
      first.variables_are second.variables_are;
}

-- ---- one more addition

rows_more :
    (old : Site) (row other : List Placed) → Contains (old.rows ++ row ∷ []) other
    → Contains old.rows other ⊎ Contains (row ∷ []) other
rows_more old row other among = Contains-append_cases old.rows (row ∷ []) other among

pub Adds-row :
    (old new : Site) (row : List Placed) → new ≡ record old { rows = old.rows ++ row ∷ [] }
    → Adds old new (row ∷ []) [] []
Adds-row old new row is = subst (λ (s : Site). Adds old s (row ∷ []) [] []) (sym is) (record {
  rows_are = λ other among. ⊎_elim (λ before. inl before) (λ here. inr (inl here))
      (rows_more old row other among);
  rows_there = λ other. ⊎_elim (λ before. Contains-append_left old.rows (row ∷ []) other before)
      (⊎_elim (λ here. Contains-append_right old.rows (row ∷ []) other here)
      (λ no. absurd (Contains-none other no)));
  carrying_is = sym (append-nil old.carrying);
  uses_are = sym (append-nil old.uses);
  variables_are = sym (append-nil old.variables);
})

pub Adds-carrying :
    (old new : Site) (carrying : List ℕ) → new ≡ record old { carrying = old.carrying ++ carrying }
    → Adds old new [] carrying []
Adds-carrying old new carrying is = subst (λ (s : Site). Adds old s [] carrying []) (sym is) (record {
  rows_are = λ row among. inl among;
  rows_there = λ row. ⊎_elim (λ among. among)
      (⊎_elim (λ no. absurd (Contains-none row no)) (λ no. absurd (Contains-none row no)));
  carrying_is = refl;
  uses_are = sym (append-nil old.uses);
  variables_are = sym (append-nil old.variables);
})

pub Adds-variable :
    (old new : Site) (position : ℕ) (name : List ℕ)
    → new ≡ record old { variables = old.variables ++ (position, name) ∷ [] }
    → Adds old new [] [] (variable_at position name ∷ [])
Adds-variable old new position name is =
    subst (λ (s : Site). Adds old s [] [] (variable_at position name ∷ [])) (sym is) (record {
      rows_are = λ row among. inl among;
      rows_there = λ row. ⊎_elim (λ among. among)
          (⊎_elim (λ no. absurd (Contains-none row no)) (λ no. absurd (Contains-none row no)));
      carrying_is = sym (append-nil old.carrying);
      uses_are = sym (append-nil old.uses);
      variables_are = refl;
    })

pub Adds-use :
    (old new : Site) (u : TypeUse) (arguments : List Ty) → new ≡ record old { uses = old.uses ++ u ∷ [] }
    → u.arguments ≡ length arguments → u.grows ≡ some_grow arguments
    → Adds old new [] [] (use_of u.position u.name arguments u.in_tag ∷ [])
Adds-use old new u arguments is counted grows =
    let all = use_of u.position u.name arguments u.in_tag ∷ [] in
    let same : u ∷ [] ≡ filter_map as_use all = ap (λ n. record u { arguments = n } ∷ []) counted
    ∙ ap (λ b. record u { arguments = length arguments; grows = b } ∷ []) grows in
    subst (λ (s : Site). Adds old s [] [] all) (sym is) (record {
      rows_are = λ row among. inl among;
      rows_there = λ row. ⊎_elim (λ among. among)
          (⊎_elim (λ no. absurd (Contains-none row no)) (λ no. absurd (Contains-none row no)));
      carrying_is = sym (append-nil old.carrying);
      uses_are = ap (λ l. old.uses ++ l) same;
      variables_are = sym (append-nil old.variables);
    })

pub Adds-bracket :
    (old new : Site) (row : List Placed) (items : List PlacedItem)
    → new ≡ record old { rows = old.rows ++ row ∷ [] } → row ≡ filter_map written_tag items
    → Adds old new [] [] (bracket_of items ∷ [])
Adds-bracket old new row items is same =
    subst (λ (s : Site). Adds old s [] [] (bracket_of items ∷ [])) (sym is) (record {
      rows_are = λ other among. ⊎_elim (λ before. inl before)
          (λ here. inr (inr (subst (λ r. Contains (r ∷ []) other) same here))) (rows_more old row other among);
      rows_there = λ other. ⊎_elim (λ before. Contains-append_left old.rows (row ∷ []) other before)
          (⊎_elim (λ no. absurd (Contains-none other no))
          (λ here. Contains-append_right old.rows (row ∷ []) other
          (subst (λ r. Contains (r ∷ []) other) (sym same) here)));
      carrying_is = sym (append-nil old.carrying);
      uses_are = sym (append-nil old.uses);
      variables_are = sym (append-nil old.variables);
    })

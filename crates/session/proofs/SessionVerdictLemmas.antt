-- The report on a value by type numbers is the report at the type.
use Rattle.std.proofs.Common.{ℕ, ◌≡◌, ◌∙◌, Bool, List, ◌++◌, Option, Some, None, inl, inr, refl, sym, ap, subst, true, false}
use Rattle.std.specs.Prelude.{codes, option_map}
use Rattle.base_data.specs.declared.model.value.Val.{Val}
use Rattle.base_data.specs.declared.model.value.Obj.{Obj}
use Rattle.types_spec.specs.types.Equal.{Equal}
use Rattle.types_spec.specs.types.Fault.{value_at}
use Rattle.types_spec.specs.types.Names.{names_of}
use Rattle.types_spec.specs.types.Shape.{shape}
use Rattle.types_spec.specs.types.Table.{table_shapes}
use Rattle.types_spec.specs.types.Typing.{HasType}
use Rattle.types_theory.specs.table.TableDecides.{TheRootIsFirst, TablesDecide}
use Rattle.types_table.specs.type_table.Made.{types_of, table_of}
use Rattle.run_types.specs.declared.requested.Prepared.{Prepared}
use Rattle.cli_spec.specs.Outcome as outcome
use Rattle.cli_spec.specs.declared.style.Style.{Style}
use Rattle.text_print.specs.show.Laws.{RootsShowAgree, SameClass}
use Rattle.text_print.specs.show.ShownValues.{shown_text, shown_at}
use Rattle.text_print.specs.show.TableShapes.{shape_in, names_in}
use Rattle.session.specs.declared.value_output.Query.{Query}
use Rattle.session.specs.declared.value_output.Query.TheVariants as queries
use Rattle.run_types.specs.Language.{IsKnownOf, part_or_none, styled}
use Rattle.trees.specs.value_verdict.Laws.{TablesHaveTheVerdict}
use Rattle.trees.specs.value_verdict.TreeTable.{IsTableVerdict}
use Rattle.trees.specs.value_verdict.TreeVerdictText.{is_sound, verdict_text}
use Rattle.trees.specs.declared.search_trees.tree_verdict.TreeVerdict.{TreeVerdict}
use Rattle.run_types.specs.RequestedTexts.{type_over, IsReady}
use Rattle.session.specs.ValueOutput.{WritesLine, query_of}
use Rattle.run_types.proofs.RunTypesGivenLemmas.{ready_each}
use Rattle.run_types.proofs.RunTypesVerdictLemmas.{is_first, made}
use Rattle.run_types.specs.TypeVerdict.{WritesNo}

module _ (r : Prepared) (ready : IsReady r) where
  module _ (root_first : TheRootIsFirst) (graph : List Obj) (root : Val) where
    module _ (decide : TablesDecide) (has : HasType (table_shapes (table_of r.table)) graph root 0) where
      -- The report on a value that has the type is appended to another text.
      reports : (query : outcome.Query) (text : List ℕ) (ok : Bool) → IsKnownOf query (type_over r) graph root (record { text = text; ok = ok })
          → (old new : List ℕ) → new ≡ old ++ text → WritesLine query (type_over r) graph root old new ok
      reports query text ok known old new write =
          let by_type = (decide r.decls r.ty (types_of r.table) (table_of r.table) (made r ready root_first graph root) graph root 0 r.ty (is_first r ready root_first graph root)).0 has in (
            text,
            inl (record { has = by_type; each = ready_each r ready graph root by_type; known = known }),
            write,
          )

      pub writes_yes : (query : Query) → query ≡ queries.Verdict → (old new : List ℕ) → new ≡ old ++ codes "yes" → WritesLine (query_of query) (type_over r) graph root old new true
      writes_yes query is old new write =
          subst (λ s. WritesLine (query_of s) (type_over r) graph root old new true) (sym is) (reports outcome.the_verdict (codes "yes") true refl old new write)

      pub writes_trees : TablesHaveTheVerdict → (verdict : TreeVerdict) → IsTableVerdict r.table graph root verdict → (old new : List ℕ) → new ≡ old ++ verdict_text verdict
          → WritesLine outcome.the_trees (type_over r) graph root old new (is_sound verdict)
      writes_trees same verdict is old new write =
          reports outcome.the_trees (verdict_text verdict) (is_sound verdict) (verdict, (same r.decls r.ty r.table ready.made graph root verdict).0 is, refl) old new write

      module _ (agree : RootsShowAgree) where
        pub writes_text : (style : Style) (query : Query) → query ≡ queries.Text style → (old new : List ℕ) → new ≡ old ++ styled style (shown_text (shape_in r.table) (names_in r.table) graph root 0)
            → WritesLine (query_of query) (type_over r) graph root old new true
        writes_text style query is old new write =
            subst (λ s. WritesLine (query_of s) (type_over r) graph root old new true) (sym is)
            (reports (outcome.the_text style) (styled style (shown_text (shape_in r.table) (names_in r.table) graph root 0)) true
            (ap (λ text. let s : outcome.Output = record { text = styled style text; ok = true } in s) ((agree r.decls r.ty r.table ready.made).whole graph root)) old new write)

        module _ (path : List ℕ) (style : Style) where
          abbrev by_number : Option (List ℕ)
          by_number = shown_at (shape_in r.table) (names_in r.table) graph (SameClass r.table) root 0 path

          abbrev styled_part : Option (List ℕ) → outcome.Output
          styled_part part = part_or_none (option_map (styled style) part)

          abbrev known_part : outcome.Output
          known_part = styled_part (shown_at (shape r.decls) (names_of r.decls) graph (Equal r.decls) root r.ty path)

          part_is : known_part ≡ styled_part by_number
          part_is = ap styled_part (sym ((agree r.decls r.ty r.table ready.made).part graph root path))

          writes_part : (part : Option (List ℕ)) → by_number ≡ part → (old new : List ℕ) → new ≡ old ++ (styled_part part).text
              → WritesLine (outcome.the_part path style) (type_over r) graph root old new (styled_part part).ok
          writes_part None is old new write =
              reports (outcome.the_part path style) (codes "none") false (sym (part_is ∙ ap styled_part is)) old new write
          writes_part (Some text) is old new write =
              reports (outcome.the_part path style) (styled style text) true (sym (part_is ∙ ap styled_part is)) old new write

          -- The path leads to a part.
          pub writes_found : (w : Val) (i : ℕ) → Some (w, i) ≡ value_at (table_shapes (table_of r.table)) graph root 0 path → (old new : List ℕ)
              → new ≡ old ++ styled style (shown_text (shape_in r.table) (names_in r.table) graph w i) → WritesLine (outcome.the_part path style) (type_over r) graph root old new true
          writes_found w i leads old new write =
              writes_part (Some (shown_text (shape_in r.table) (names_in r.table) graph w i))
              (ap (λ (position : Option (Val × ℕ)). option_map (λ (p : Val × ℕ). shown_text (shape_in r.table) (names_in r.table) graph p.0 p.1) position) (sym leads)) old new write

          -- The path leads nowhere.
          pub writes_none : None ≡ value_at (table_shapes (table_of r.table)) graph root 0 path → (old new : List ℕ) → new ≡ old ++ codes "none"
              → WritesLine (outcome.the_part path style) (type_over r) graph root old new false
          writes_none leads old new write =
              writes_part None
              (ap (λ (position : Option (Val × ℕ)). option_map (λ (p : Val × ℕ). shown_text (shape_in r.table) (names_in r.table) graph p.0 p.1) position) (sym leads)) old new write

-- The `no` line is the output for every kind of report.
pub no_line : (query : outcome.Query) (r : Prepared) (graph : List Obj) (root : Val) (old new : List ℕ) → WritesNo (type_over r) graph root old new → WritesLine query (type_over r) graph root old new false
no_line query r graph root old new (line, why, some_not, write) = (line, inr (record { why = why; some_not = some_not; is_all_ok = refl }), write)

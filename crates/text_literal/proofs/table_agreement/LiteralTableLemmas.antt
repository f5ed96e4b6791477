-- The reading of a literal at an index of a table agrees with the literal's reading at the type
-- with this index.
use Rattle.std.proofs.Common.{ℕ, ◌≡◌, ◌∙◌, List, Option, Some, ap, sym, subst}
use Rattle.std.specs.Prelude.{slice_get, option_map, unwrap_or}
use Rattle.types_spec.specs.declared.types.decl.Decl.{Decl}
use Rattle.types_spec.specs.declared.types.names.Names.{Names}
use Rattle.types_spec.specs.declared.types.shape.ShapeOf.{ShapeOf}
use Rattle.types_spec.specs.types.Names.{no_names, names_of}
use Rattle.types_spec.specs.types.Shape.{shape}
use Rattle.types_spec.specs.types.Table.{with_parts, node_or_none}
use Rattle.types_spec.specs.types.Ty.{Ty}
use Rattle.types_theory.proofs.equality.EqualityTableLemmas.{slice_get-mapped, mapped_some}
use Rattle.types_table.specs.declared.type_table.tabled.Tabled.{Tabled}
use Rattle.types_table.specs.type_table.Made.{types_of, IsTypeTable}
use Rattle.text_literal.specs.literal_grammar.Literal.{Plain}
use Rattle.text_literal.specs.parser.LiteralAnswers.{shape_in, names_in}
use Rattle.text_literal.specs.parser.Starts.{Start, start_at}
use Rattle.text_literal.specs.table_agreement.TableAgreement.{TablesReadAgree}
use Rattle.text_literal.proofs.table_agreement.LiteralTableStartLemmas.{Mapped, to_mismatch, to_range, to_small, to_whole, to_block, start_mapped}
use Rattle.text_literal.proofs.table_agreement.LiteralTableReadingLemmas.{StartsAgree, same_mismatch, same_range, same_small, same_whole, same_block, read_agree}

module _ (decls : List Decl) (t : Ty) (table : Tabled) (is : IsTypeTable decls t table) where
  abbrev Is : ℕ → Ty → Type 0
  Is i u = slice_get (types_of table) i ≡ Some u

  abbrev type_if : ℕ → Option Ty
  type_if i = slice_get (types_of table) i

  -- The shape at an index is the shape of the type, with indices instead of types.
  shape_is : (i : ℕ) (u : Ty) → Is i u → with_parts type_if (shape_in table i) ≡ with_parts Some (shape decls u)
  shape_is i u at =
      let found = mapped_some (with_parts type_if) (slice_get table.nodes i) (with_parts Some (shape decls u))
      (sym (slice_get-mapped (with_parts type_if) table.nodes i)
      ∙ ap (λ all. slice_get all i) is.made.nodes
      ∙ slice_get-mapped (λ u. with_parts Some (shape decls u)) (types_of table) i
      ∙ ap (option_map (λ u. with_parts Some (shape decls u))) at) in
      ap (λ node. with_parts type_if (node_or_none node)) found.1 ∙ found.2

  names_are : (i : ℕ) (u : Ty) → Is i u → names_in table i ≡ names_of decls u
  names_are i u at =
      ap (λ all. unwrap_or (slice_get all i) no_names) is.named
      ∙ ap (λ found. unwrap_or found no_names) (slice_get-mapped (names_of decls) (types_of table) i)
      ∙ ap (λ found. unwrap_or (option_map (names_of decls) found) no_names) at

  begin_by : {a : Start ℕ} {b : Start Ty} {c : Start (Option Ty)} → Mapped type_if a c → Mapped Some b c → StartsAgree Is a b
  begin_by to_mismatch to_mismatch = same_mismatch
  begin_by to_range to_range = same_range
  begin_by (to_small v) (to_small w) = same_small v
  begin_by (to_whole object) (to_whole other) = same_whole object
  begin_by (to_block tag prefix types others all) (to_block tag' prefix' types' others' all') =
      same_block tag prefix types types' (λ i. all i ∙ sym (all' i))

  begin : (i : ℕ) (u : Ty) → Is i u → (p : Plain)
      → StartsAgree Is (start_at i (shape_in table i) (names_in table i) p) (start_at u (shape decls u) (names_of decls u) p)
  begin i u at p =
      begin_by
      (subst (λ (names : Names). Mapped type_if (start_at i (shape_in table i) (names_in table i) p) (start_at (Some u) (with_parts Some (shape decls u)) names p)) (names_are i u at)
      (subst (λ (s : ShapeOf (Option Ty)). Mapped type_if (start_at i (shape_in table i) (names_in table i) p) (start_at (Some u) s (names_in table i) p)) (shape_is i u at)
      (subst (λ (o : Option Ty). Mapped type_if (start_at i (shape_in table i) (names_in table i) p) (start_at o (with_parts type_if (shape_in table i)) (names_in table i) p)) at
      (start_mapped type_if i (shape_in table i) (names_in table i) p))))
      (start_mapped Some u (shape decls u) (names_of decls u) p)

pub tables_read_agree : TablesReadAgree
tables_read_agree decls t table is k v count labels i u at =
    read_agree (λ i u. slice_get (types_of table) i ≡ Some u) (shape_in table) (names_in table) (shape decls) (names_of decls)
    (begin decls t table is) k v count labels i u at

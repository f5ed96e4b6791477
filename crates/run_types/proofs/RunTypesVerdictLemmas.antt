-- What the table of a type decides about a value holds at the type.
use Rattle.std.proofs.Common.{ℕ, ◌≡◌, ◌∙◌, List, ◌++◌, Some, refl, ap, subst}
use Rattle.std.specs.Prelude.{codes, slice_get}
use Rattle.base_data.specs.declared.model.value.Val.{Val}
use Rattle.base_data.specs.declared.model.value.Obj.{Obj}
use Rattle.types_spec.specs.declared.types.fault.Fault.{Fault}
use Rattle.types_spec.specs.types.Equal.{declared_shapes}
use Rattle.types_spec.specs.types.Table.{table_shapes}
use Rattle.types_spec.specs.types.Typing.{HasType}
use Rattle.types_spec.specs.types.VerdictText.{IsFaultText, IsNoLine}
use Rattle.types_theory.specs.equality.TableLaws.{TablesHaveTheLeastFault}
use Rattle.types_theory.specs.table.TableDecides.{TheRootIsFirst, TablesDecide, IsMadeFor}
use Rattle.types_table.specs.type_table.Made.{types_of, table_of}
use Rattle.check_fault.specs.FaultText.{text_at}
use Rattle.check_fault.specs.Laws.{TextsAreOfTypes}
use Rattle.check_heap.specs.declared.check.typed_objects.Typing.{Typing}
use Rattle.check_heap.specs.declared.check.verdict.Verdict.{Verdict}
use Rattle.check_heap.specs.declared.check.verdict.Verdict.TheVariants.{Yes, No}
use Rattle.run_types.specs.declared.requested.Prepared.{Prepared}
use Rattle.run_types.specs.RequestedTexts.{type_over, IsReady}
use Rattle.types_theory.specs.type_variables.TypeVariables.{HasEachInstance}
use Rattle.run_types.specs.TypeVerdict.{IsVerdictOf, WritesNo}
use Rattle.run_types.proofs.RunTypesGivenLemmas.{ready_each, ready_some_not}

module _ (r : Prepared) (ready : IsReady r) where
  module _ (root_first : TheRootIsFirst) (graph : List Obj) (root : Val) where
    pub is_first : slice_get (types_of r.table) 0 ≡ Some r.ty
    is_first = root_first r.decls r.ty (types_of r.table) ready.made.reached

    pub made : IsMadeFor r.decls r.ty (types_of r.table) (table_of r.table)
    made = record { well = ready.ok; sound = ready.sound; reached = ready.made.reached; made = ready.made.made }

    -- If `no` and the text of the verdict's fault are appended, then `WritesNo` holds.
    pub writes_no : TablesHaveTheLeastFault → TextsAreOfTypes → (fault : Fault) → IsVerdictOf r graph root (No fault) → (text : List ℕ)
        → IsFaultText (table_shapes (table_of r.table)) (text_at r.table) graph root 0 fault text → (old new : List ℕ) → new ≡ old ++ (codes "no " ++ text)
        → WritesNo (type_over r) graph root old new
    writes_no same_faults same_texts fault least text is_text old new write =
        let by_type = (same_faults r.decls (types_of r.table) (table_of r.table) ready.made.made graph root 0 r.ty is_first fault).0 least in (
          codes "no " ++ text,
          record {
            fault = fault;
            text = text;
            least = by_type;
            is_text = same_texts r.decls r.ty r.table ready.made graph root fault text is_text;
            encoded = refl;
          },
          ready_some_not r ready graph root fault by_type.is_fault,
          write,
        )

    -- If the line of the first fault, by type numbers, is appended, then `WritesNo` holds.
    pub writes_line : TablesHaveTheLeastFault → TextsAreOfTypes → (line : List ℕ) → IsNoLine (table_shapes (table_of r.table)) (text_at r.table) graph root 0 line → (old new : List ℕ) → new ≡ old ++ line
        → WritesNo (type_over r) graph root old new
    writes_line same_faults same_texts line why old new write =
        writes_no same_faults same_texts why.fault why.least why.text why.is_text old new (write ∙ ap (λ l. old ++ l) why.encoded)

-- If the verdict is `Yes`, then the value has the type.
pub yes_typed : (r : Prepared) (graph : List Obj) (root : Val) (verdict : Verdict) → IsVerdictOf r graph root verdict → (typing : Typing) → verdict ≡ Yes typing
    → HasType (table_shapes (table_of r.table)) graph root 0
yes_typed r graph root verdict is typing same = let has : IsVerdictOf r graph root (Yes typing) = subst (IsVerdictOf r graph root) same is in has.0

-- If the verdict is `Yes`, then the value has the declared type and each closed instance of the
-- type.
pub yes_declared : (r : Prepared) (ready : IsReady r) → TheRootIsFirst → TablesDecide → (graph : List Obj) (root : Val) (verdict : Verdict) → IsVerdictOf r graph root verdict → (typing : Typing) → verdict ≡ Yes typing
    → HasType (declared_shapes r.decls) graph root r.ty × HasEachInstance r.decls graph root r.ty
yes_declared r ready root_first decide graph root verdict is typing same = (has, ready_each r ready graph root has) where
  has : HasType (declared_shapes r.decls) graph root r.ty
  has =
      (decide r.decls r.ty (types_of r.table) (table_of r.table) (record { well = ready.ok; sound = ready.sound; reached = ready.made.reached; made = ready.made.made }) graph root 0 r.ty
      (root_first r.decls r.ty (types_of r.table) ready.made.reached)).0 (yes_typed r graph root verdict is typing same)

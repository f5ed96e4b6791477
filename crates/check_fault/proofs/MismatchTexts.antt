-- The bytes that are appended for a type mismatch are the text of the mismatch.
use Rattle.std.proofs.Common.{ℕ, ◌≡◌, ◌∙◌, List, [], ◌∷◌, ◌++◌, Some, refl, ap, sym, append-nil}
use Rattle.std.specs.Prelude.{codes}
use Rattle.std.proofs.lemmas.List.{append_assoc}
use Rattle.base_data.specs.declared.model.value.Val.{Val}
use Rattle.base_data.specs.declared.model.value.Obj.{Obj}
use Rattle.base_data.specs.model.PathText.{path_text}
use Rattle.types_spec.specs.declared.types.fault.Fault.TheVariants.{Mismatch}
use Rattle.types_spec.specs.types.Fault.{value_at}
use Rattle.types_spec.specs.types.Table.{table_shapes}
use Rattle.types_spec.specs.types.VerdictText.{kind_text, mismatch_text}
use Rattle.types_table.specs.declared.type_table.tabled.Tabled.{Tabled}
use Rattle.types_table.specs.type_table.Made.{table_of}
use Rattle.check_fault.specs.FaultText.{step_text, text_at, found_text, WritesFault}
use Rattle.check_fault.proofs.ConflictTexts.{more}

-- The texts of one step and of two steps are the texts of paths.
pub one_step_text : (i : ℕ) → step_text i ≡ path_text (i ∷ [])
one_step_text i = sym (append-nil (step_text i))

pub two_steps_text : (i j : ℕ) → step_text i ++ step_text j ≡ path_text (i ∷ j ∷ [])
two_steps_text i j = ap (λ text. step_text i ++ text) (sym (append-nil (step_text j)))

module _ (table : Tabled) (graph : List Obj) (v : Val) (number : ℕ) where
  -- The path, followed by the expected type and what was found, is the text of the mismatch.
  mismatch_is : (path : List ℕ) → path_text path ++ found_text table graph v number
      ≡ mismatch_text (text_at table) graph path v number
  mismatch_is path =
      sym (append_assoc (path_text path) (codes ": expected " ++ text_at table number ++ codes ", found ") (kind_text graph v))
      ∙ ap (λ prefix. prefix ++ kind_text graph v)
      (sym (append_assoc (path_text path) (codes ": expected " ++ text_at table number) (codes ", found ")))
      ∙ ap (λ prefix. prefix ++ codes ", found " ++ kind_text graph v)
      (sym (append_assoc (path_text path) (codes ": expected ") (text_at table number)))

  pub mismatch_added :
      (path old mid new : List ℕ) → mid ≡ old ++ path_text path → new ≡ mid ++ found_text table graph v number
      → new ≡ old ++ mismatch_text (text_at table) graph path v number
  mismatch_added path old mid new one two =
      more old (path_text path) (found_text table graph v number) mid new one two
      ∙ ap (λ text. old ++ text) (mismatch_is path)

  pub mismatch_written :
      (root : Val) (path old new : List ℕ) → Some (v, number) ≡ value_at (table_shapes (table_of table)) graph root 0 path
      → new ≡ old ++ mismatch_text (text_at table) graph path v number
      → WritesFault table graph root (Mismatch path) old new
  mismatch_written root path old new there write =
      (mismatch_text (text_at table) graph path v number, (v, number, sym there, refl), write)

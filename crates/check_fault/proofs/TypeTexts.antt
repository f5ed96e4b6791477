-- The text of a fault by the type numbers of a table equals the text by types.
use Rattle.std.proofs.Common.{ℕ, ◌≡◌, ◌∙◌, List, ◌++◌, Option, Some, None, ap, subst, sym}
use Rattle.std.specs.Prelude.{codes, slice_get}
use Rattle.std.proofs.lemmas.Option.{same_Some, none-some}
use Rattle.base_data.specs.declared.model.value.Val.{Val}
use Rattle.base_data.specs.declared.model.value.Obj.{Obj}
use Rattle.base_data.specs.model.PathText.{path_text}
use Rattle.types_spec.specs.declared.types.decl.Decl.{Decl}
use Rattle.types_spec.specs.declared.types.fault.Fault.{Fault}
use Rattle.types_spec.specs.declared.types.fault.Fault.TheVariants.{Mismatch, Conflict}
use Rattle.types_spec.specs.types.Equal.{declared_shapes}
use Rattle.types_spec.specs.types.Fault.{value_at}
use Rattle.types_spec.specs.types.Table.{table_shapes}
use Rattle.types_spec.specs.types.Ty.{Ty}
use Rattle.types_spec.specs.types.TypeText.{type_text}
use Rattle.types_spec.specs.types.VerdictText.{kind_text, IsFaultText}
use Rattle.types_theory.proofs.equality.SimulationLemmas.{SamePosition, position_same}
use Rattle.types_theory.proofs.equality.EqualityTableLemmas.{table_says}
use Rattle.types_theory.proofs.table.TableDecideLemmas.{root_is_first}
use Rattle.types_table.specs.declared.type_table.tabled.Tabled.{Tabled}
use Rattle.types_table.specs.type_table.Made.{types_of, table_of, IsTypeTable}
use Rattle.check_fault.specs.FaultText.{text_or_none, text_at}

module _ (decls : List Decl) (t : Ty) (table : Tabled) (is : IsTypeTable decls t table)
    (graph : List Obj) where
  abbrev Is : ℕ → Ty → Type 0
  Is i u = slice_get (types_of table) i ≡ Some u

  abbrev Same : Option (Val × ℕ) → Option (Val × Ty) → Type 0
  Same p q = SamePosition (table_shapes (table_of table)) (declared_shapes decls) Is graph p q

  -- If a path leads to a value by type numbers, then the path leads to the value by types.
  leads : (p : Option (Val × ℕ)) (q : Option (Val × Ty)) → Same p q → (w : Val) (i : ℕ)
      → p ≡ Some (w, i) → (u : Ty) × (q ≡ Some (w, u)) × Is i u
  leads None q positions w i at = absurd (none-some (w, i) at)
  leads (Some p) None positions w i at = absurd positions
  leads (Some p) (Some q) positions w i at =
      let pair = same_Some p (w, i) at in (
        q.1,
        ap (λ v. Some (v, q.1)) (sym positions.0 ∙ ap (λ (x : Val × ℕ). x.0) pair),
        subst (λ j. Is j q.1) (ap (λ (x : Val × ℕ). x.1) pair) positions.1,
      )

  leads_at : (v : Val) (path : List ℕ) (w : Val) (i : ℕ)
      → value_at (table_shapes (table_of table)) graph v 0 path ≡ Some (w, i)
      → (u : Ty) × (value_at (declared_shapes decls) graph v t path ≡ Some (w, u)) × Is i u
  leads_at v path w i at =
      leads (value_at (table_shapes (table_of table)) graph v 0 path)
      (value_at (declared_shapes decls) graph v t path)
      (position_same (table_shapes (table_of table)) (declared_shapes decls) Is graph
      (table_says decls (types_of table) (table_of table) is.made graph) path v 0 t
      (root_is_first decls t (types_of table) is.reached)) w i at

  pub text_is_of_types :
      (v : Val) (fault : Fault) (text : List ℕ)
      → IsFaultText (table_shapes (table_of table)) (text_at table) graph v 0 fault text
      → IsFaultText (declared_shapes decls) type_text graph v t fault text
  text_is_of_types v (Mismatch path) text (w, i, at, encoded) =
      let there = leads_at v path w i at in (
        w,
        there.0,
        there.1,
        encoded
            ∙ ap (λ ty. path_text path ++ codes ": expected " ++ text_or_none ty ++ codes ", found "
            ++ kind_text graph w) there.2,
      )
  text_is_of_types v (Conflict first second) text (o, one, other, at_first, at_second, encoded) =
      let a = leads_at v first o one at_first in
      let b = leads_at v second o other at_second in (
        o,
        a.0,
        b.0,
        a.1,
        b.1,
        encoded
            ∙ ap (λ ty. path_text first ++ codes " and " ++ path_text second ++ codes ": "
            ++ text_or_none ty ++ codes " and " ++ text_at table other ++ codes " share a mutable object")
            a.2
            ∙ ap (λ ty. path_text first ++ codes " and " ++ path_text second ++ codes ": "
            ++ type_text a.0 ++ codes " and " ++ text_or_none ty ++ codes " share a mutable object")
            b.2,
      )

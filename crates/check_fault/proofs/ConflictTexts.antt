-- The bytes that are appended for an aliasing conflict are the text of the conflict.
use Rattle.std.proofs.Common.{ℕ, ◌≡◌, ◌∙◌, List, ◌++◌, Some, refl, ap, sym}
use Rattle.std.proofs.lemmas.List.{append_assoc}
use Rattle.std.proofs.lemmas.Option.{same_Some}
use Rattle.base_data.specs.declared.model.value.Val.{Val}
use Rattle.base_data.specs.declared.model.value.Obj.{Obj}
use Rattle.types_spec.specs.declared.types.fault.Fault.TheVariants.{Conflict}
use Rattle.types_spec.specs.types.Fault.{value_at, IsConflict}
use Rattle.types_spec.specs.types.Table.{table_shapes}
use Rattle.types_spec.specs.types.VerdictText.{conflict_text}
use Rattle.types_table.specs.declared.type_table.tabled.Tabled.{Tabled}
use Rattle.types_table.specs.type_table.Made.{table_of}
use Rattle.check_fault.specs.FaultText.{text_at, WritesFault}

-- If one more chunk is appended, then the appended text is the prefix followed by the chunk.
pub more : (old prefix chunk x y : List ℕ) → x ≡ old ++ prefix → y ≡ x ++ chunk → y ≡ old ++ (prefix ++ chunk)
more old prefix chunk x y one two = two ∙ ap (λ f. f ++ chunk) one ∙ append_assoc old prefix chunk

module _ (table : Tabled) (graph : List Obj) (v : Val) (first second : List ℕ)
    (conflict : IsConflict (table_shapes (table_of table)) graph v 0 first second) where
  -- If the two paths lead to the object, then the appended bytes are the text of the conflict.
  pub conflict_written :
      (p q : Val × ℕ) (old new : List ℕ)
      → Some p ≡ value_at (table_shapes (table_of table)) graph v 0 first
      → Some q ≡ value_at (table_shapes (table_of table)) graph v 0 second
      → new ≡ old ++ conflict_text (text_at table) first p.1 second q.1
      → WritesFault table graph v (Conflict first second) old new
  conflict_written p q old new one other write =
      let a = same_Some p _ (one ∙ conflict.at_first) in
      let b = same_Some q _ (other ∙ conflict.at_second) in
      let same : q.0 ≡ p.0 = ap (λ (x : Val × ℕ). x.0) b ∙ sym (ap (λ (x : Val × ℕ). x.0) a) in (
        conflict_text (text_at table) first p.1 second q.1,
        (p.0, p.1, q.1, sym one, sym other ∙ ap (λ w. Some (w, q.1)) same, refl),
        write,
      )

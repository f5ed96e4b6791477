-- The result of each step of an edit is the answer to the edit.
use Rattle.std.proofs.Common.{ℕ, ◌<◌, ◌≡◌, ◌∙◌, take, List, [], ◌∷◌, ◌++◌, length, Option, Some, None, Result, Ok, Err, refl, ap, sym, subst, arith}
use Rattle.std.specs.Prelude.{pos, IsErrAnd}
use Rattle.std.proofs.lemmas.List.{take_all, take-append-le}
use Rattle.std.proofs.lemmas.Option.{slice_get-get_or}
use Rattle.base_data.specs.declared.model.value.Val.{Val}
use Rattle.base_data.specs.declared.model.value.Val.TheVariants as vals
use Rattle.base_data.specs.declared.model.value.Obj.{Obj}
use Rattle.base_data.specs.declared.model.value.Obj.TheVariants as objects
use Rattle.base_data.specs.model.Graph.{IsValue}
use Rattle.types_lex.specs.declared.lexeme.Lexeme.{Lexeme}
use Rattle.marshal_heap.specs.heap.Heap.{object_at}
use Rattle.types_spec.specs.types.Table.{table_shapes}
use Rattle.types_table.specs.declared.type_table.tabled.Tabled.{Tabled}
use Rattle.types_spec.specs.types.LawfulShapes.{Everything}
use Rattle.types_spec.proofs.types.TypeFaultLemmas.{fault_excludes_type}
use Rattle.types_table.specs.type_table.Made.{table_of, IsLawful}
use Rattle.text_literal.specs.declared.parser.literal_fault.LiteralFault.{LiteralFault}
use Rattle.text_literal.specs.declared.parser.literal_fault.LiteralFault.TheVariants as faults
use Rattle.text_literal.specs.parser.LiteralAnswers.{shape_in, names_in, in_bytes, fault_of, IsMisread, IsAnswered}
use Rattle.text_literal.specs.parser.LiteralReading.{LiteralRefusal, mismatch_at, int_range_at, label_at}
use Rattle.text_path.specs.declared.edits.Edit.{Edit}
use Rattle.text_path.specs.declared.edits.Edit.TheVariants as edits
use Rattle.edit_values.specs.declared.spots.TypedLocation.{TypedLocation}
use Rattle.edit_values.specs.declared.edit_refusal.EditSide.{EditSide}
use Rattle.edit_values.specs.declared.edit_refusal.EditSide.TheVariants.{Left, Right}
use Rattle.edit_values.specs.declared.edit_refusal.EditRefusal.{EditRefusal}
use Rattle.edit_values.specs.declared.edit_refusal.EditRefusal.TheVariants as refusals
use Rattle.edit_values.specs.EditPositions.{position_at, on_side}
use Rattle.edit_values.specs.Reasons.{Reason, no_field, not_block, no_literal, misread, literal_reason, reason_of}
use Rattle.edit_values.specs.EditedValues.{EditAnswer, write_at, linked, copied, object_of, unshared, IsSet, IsMade}
use Rattle.edit_values.specs.TableEdits.{SameClass, IsAnswerIn, IsApplied, IsKept, IsRefusedFor, IsReason, Gives}
use Rattle.edit_values.proofs.EditMadeLemmas.{answer_once}

pub first_of : (old more new : List Obj) (count : ℕ) → count ≡ length old → new ≡ old ++ more → take count new ≡ old
first_of old more new count many is =
    ap (λ g. take count g) is ∙ ap (λ n. take n (old ++ more)) many
    ∙ take-append-le (length old) old more (omega arith) ∙ take_all (length old) old (omega arith)

-- ---- locations

abbrev pub Found : Type 0
Found = Result (TypedLocation ℕ) ℕ

pub found_is : (side : EditSide) (x : Found) (p : TypedLocation ℕ) → Ok p ≡ on_side side x → x ≡ Ok p
found_is side (Ok q) p is = sym (same q p is) where
  same : (q p : TypedLocation ℕ) → ◌≡◌ {A = Result (TypedLocation ℕ) EditRefusal} (Ok p) (Ok q) → ◌≡◌ {A = Found} (Ok p) (Ok q)
  same q p is = cc
found_is side (Err n) p is = absurd (never n p is) where
  never : (n : ℕ) (p : TypedLocation ℕ) → ◌≡◌ {A = Result (TypedLocation ℕ) EditRefusal} (Ok p) (Err (refusals.NoField side n)) → ⊥
  never n p is = cc

module _ (table : Tabled) where
  abbrev pub position_of : List Obj → Val → List ℕ → Found
  position_of graph root path = position_at (table_shapes (table_of table)) graph root 0 path

  abbrev pub IsMadeIn : Edit → List Obj → Val → EditAnswer ℕ → Type 0
  IsMadeIn edit graph root made = IsMade (shape_in table) (names_in table) (SameClass table) 0 edit graph root made

  -- If an edit has a reason, then the unchanged value with that reason is a result of a call.
  refused : (edit : Edit) (graph : List Obj) (root : Val) (refusal : EditRefusal) (reason : Reason ℕ)
      → reason_of refusal ≡ Some reason → IsAnswerIn table edit graph root (Err reason) → IsApplied table edit graph root graph root (Err refusal)
  refused edit graph root refusal reason same is = (refl, refl, subst (IsRefusedFor table edit graph root) (sym same) is)

  no_step : (edit : Edit) (graph : List Obj) (root : Val) (refusal : EditRefusal) (side : EditSide) (n : ℕ) → refusal ≡ refusals.NoField side n
      → IsMadeIn edit graph root (Err (no_field side n)) → IsApplied table edit graph root graph root (Err refusal)
  no_step edit graph root refusal side n same is = refused edit graph root refusal (no_field side n) (ap reason_of same) is

  -- ---- new parts

  pub kept_applied : (edit : Edit) (graph : List Obj) (root : Val) (made : List Obj × Val) (new : List Obj) (new_root : Val) (result : Result (Unit {0}) EditRefusal)
      → IsMadeIn edit graph root (Ok made) → IsKept table made graph root new new_root result → IsApplied table edit graph root new new_root result
  kept_applied edit graph root made new new_root (Ok unit) is kept =
      subst (λ m. IsAnswerIn table edit graph root (Ok m)) (sym kept.0) (record { made = is; typed = kept.1 })
  kept_applied edit graph root made new new_root (Err (refusals.IllTyped fault)) is kept =
      (kept.0, kept.1, record { edited = made; made = is; least = kept.2 })
  kept_applied edit graph root made new new_root (Err refusals.Memory) is kept = (kept.0, kept.1, tt)
  kept_applied edit graph root made new new_root (Err (refusals.NoField side n)) is kept = absurd kept.2
  kept_applied edit graph root made new new_root (Err refusals.NotBlock) is kept = absurd kept.2
  kept_applied edit graph root made new new_root (Err (refusals.Literal fault)) is kept = absurd kept.2

  pub link_made : (path source : List ℕ) (graph : List Obj) (root : Val) (p q : TypedLocation ℕ)
      → Ok p ≡ on_side Left (position_of graph root path) → Ok q ≡ on_side Right (position_of graph root source)
      → IsMadeIn (edits.Link path source) graph root (Ok (write_at p.spot q.value graph root))
  link_made path source graph root p q found other =
      ap (λ x. linked graph root (Ok p) x) (sym (found_is Right (position_of graph root source) q other))
      ∙ ap (λ x. linked graph root x (position_of graph root source)) (sym (found_is Left (position_of graph root path) p found))

  pub copy_made : (path : List ℕ) (graph : List Obj) (root : Val) (p : TypedLocation ℕ) (o : ℕ) → o < length graph → p.value ≡ vals.Ref o
      → Ok p ≡ on_side Left (position_of graph root path)
      → IsMadeIn (edits.Unshare path) graph root (Ok (write_at p.spot (vals.Ref (length graph)) (graph ++ object_at graph o ∷ []) root))
  copy_made path graph root p o inside at found =
      ap (copied graph root p.spot) (sym (slice_get-get_or graph o (objects.I32 (pos 0)) inside))
      ∙ ap (λ v. copied graph root p.spot (object_of graph v)) (sym at)
      ∙ ap (unshared graph root) (sym (found_is Left (position_of graph root path) p found))

  pub no_object : (graph : List Obj) (v : Val) → ((o : ℕ) → v ≡ vals.Ref o → ⊥) → object_of graph v ≡ None
  no_object graph (vals.Int z) no_reference = refl
  no_object graph (vals.Atom tag) no_reference = refl
  no_object graph (vals.Ref o) no_reference = absurd (no_reference o refl)

  pub no_copy : (path : List ℕ) (graph : List Obj) (root : Val) (p : TypedLocation ℕ) → object_of graph p.value ≡ None
      → Ok p ≡ on_side Left (position_of graph root path) → IsApplied table (edits.Unshare path) graph root graph root (Err refusals.NotBlock)
  no_copy path graph root p none found =
      refused (edits.Unshare path) graph root refusals.NotBlock not_block refl
      (ap (copied graph root p.spot) (sym none) ∙ ap (unshared graph root) (sym (found_is Left (position_of graph root path) p found)))

  -- ---- literals

  mismatch_is : (position t : ℕ) (x : LiteralRefusal ℕ) → faults.Mismatch position t ≡ fault_of x → mismatch_at position t ≡ x
  mismatch_is position t (mismatch_at k u) is = cc
  mismatch_is position t (int_range_at k) is = absurd (never k is) where
    never : (k : ℕ) → faults.Mismatch position t ≡ faults.IntRange k → ⊥
    never k is = cc
  mismatch_is position t (label_at k) is = absurd (never k is) where
    never : (k : ℕ) → faults.Mismatch position t ≡ faults.Label k → ⊥
    never k is = cc

  range_is : (position : ℕ) (x : LiteralRefusal ℕ) → faults.IntRange position ≡ fault_of x → int_range_at position ≡ x
  range_is position (int_range_at k) is = cc
  range_is position (mismatch_at k u) is = absurd (never k u is) where
    never : (k u : ℕ) → faults.IntRange position ≡ faults.Mismatch k u → ⊥
    never k u is = cc
  range_is position (label_at k) is = absurd (never k is) where
    never : (k : ℕ) → faults.IntRange position ≡ faults.Label k → ⊥
    never k is = cc

  label_is : (position : ℕ) (x : LiteralRefusal ℕ) → faults.Label position ≡ fault_of x → label_at position ≡ x
  label_is position (label_at k) is = cc
  label_is position (mismatch_at k u) is = absurd (never k u is) where
    never : (k u : ℕ) → faults.Label position ≡ faults.Mismatch k u → ⊥
    never k u is = cc
  label_is position (int_range_at k) is = absurd (never k is) where
    never : (k : ℕ) → faults.Label position ≡ faults.IntRange k → ⊥
    never k is = cc

  module _ (path : List ℕ) (lexemes : List Lexeme) (end : ℕ) (old : List Obj) (root : Val) (p : TypedLocation ℕ) (found : Ok p ≡ on_side Left (position_of old root path)) where
    set_in : (made : EditAnswer ℕ) → IsSet (shape_in table) (names_in table) old root (Ok p) lexemes end made → IsMadeIn (edits.Set path lexemes end) old root made
    set_in made is =
        subst (λ x. IsSet (shape_in table) (names_in table) old root x lexemes end made) (sym (found_is Left (position_of old root path) p found)) is

    pub value_made : (new : List Obj) (value : Val) → IsAnswered table p.ty lexemes end old new (Ok value)
        → IsMadeIn (edits.Set path lexemes end) old root (Ok (write_at p.spot value new root))
    value_made new value is =
        set_in (Ok (write_at p.spot value new root))
        (is.objects, value, (is.literal, is.encoded, is.read), ap (λ g. write_at p.spot value g root) is.behind)

    misread_in : (fault : LiteralFault) (reason : LiteralRefusal ℕ) (m : IsMisread table p.ty lexemes end (length old) fault) → reason ≡ in_bytes lexemes end m.refusal
        → IsMadeIn (edits.Set path lexemes end) old root (Err (misread reason))
    misread_in fault reason m same = set_in (Err (misread reason)) (m.literal, m.refusal, m.encoded, m.refused, same)

    pub misread_applied : (new : List Obj) (fault : LiteralFault) (refusal : EditRefusal) → IsAnswered table p.ty lexemes end old new (Err fault)
        → reason_of refusal ≡ literal_reason fault → IsApplied table (edits.Set path lexemes end) old root new root (Err refusal)
    misread_applied new faults.Memory refusal is same =
        (is, refl, subst (IsRefusedFor table (edits.Set path lexemes end) old root) (sym same) tt)
    misread_applied new (faults.Syntax position) refusal is same =
        (is.0, refl, subst (IsRefusedFor table (edits.Set path lexemes end) old root) (sym same) (set_in (Err (no_literal position)) (is.1.lexeme, is.1.syntax, is.1.is)))
    misread_applied new (faults.Mismatch position t) refusal is same = (
      is.0,
      refl,
      subst (IsRefusedFor table (edits.Set path lexemes end) old root) (sym same)
          (misread_in (faults.Mismatch position t) (mismatch_at position t) is.1 (mismatch_is position t (in_bytes lexemes end is.1.refusal) is.1.is)),
    )
    misread_applied new (faults.IntRange position) refusal is same = (
      is.0,
      refl,
      subst (IsRefusedFor table (edits.Set path lexemes end) old root) (sym same)
          (misread_in (faults.IntRange position) (int_range_at position) is.1 (range_is position (in_bytes lexemes end is.1.refusal) is.1.is)),
    )
    misread_applied new (faults.Label position) refusal is same = (
      is.0,
      refl,
      subst (IsRefusedFor table (edits.Set path lexemes end) old root) (sym same)
          (misread_in (faults.Label position) (label_at position) is.1 (label_is position (in_bytes lexemes end is.1.refusal) is.1.is)),
    )

    pub misread_result : (new : List Obj) (fault : LiteralFault) (result : Result (Unit {0}) EditRefusal) → IsAnswered table p.ty lexemes end old new (Err fault)
        → IsErrAnd result (λ refusal. reason_of refusal ≡ literal_reason fault) → IsApplied table (edits.Set path lexemes end) old root new root result
    misread_result new fault (Ok unit) is same = absurd same
    misread_result new fault (Err refusal) is same = misread_applied new fault refusal is same

    -- If the value of the literal is written, then the result is a result of the call.
    pub set_applied : (count : ℕ) (new : List Obj) (value : Val) → count ≡ length old → IsAnswered table p.ty lexemes end old new (Ok value)
        → (left : List Obj) (left_root : Val) (result : Result (Unit {0}) EditRefusal)
        → IsKept table (write_at p.spot value new root) (take count new) root left left_root result
        → IsApplied table (edits.Set path lexemes end) old root left left_root result
    set_applied count new value many is left left_root result kept =
        kept_applied (edits.Set path lexemes end) old root (write_at p.spot value new root) left left_root result (value_made new value is)
        (subst (λ before. IsKept table (write_at p.spot value new root) before root left left_root result) (first_of old is.objects new count many is.behind) kept)

  pub link_applied : (path source : List ℕ) (graph : List Obj) (root : Val) (p q : TypedLocation ℕ)
      → Ok p ≡ on_side Left (position_of graph root path) → Ok q ≡ on_side Right (position_of graph root source) → (count : ℕ) → count ≡ length graph
      → (left : List Obj) (left_root : Val) (result : Result (Unit {0}) EditRefusal)
      → IsKept table (write_at p.spot q.value graph root) (take count graph) root left left_root result
      → IsApplied table (edits.Link path source) graph root left left_root result
  link_applied path source graph root p q found other count many left left_root result kept =
      kept_applied (edits.Link path source) graph root (write_at p.spot q.value graph root) left left_root result (link_made path source graph root p q found other)
      (subst (λ before. IsKept table (write_at p.spot q.value graph root) before root left left_root result)
      (ap (λ n. take n graph) many ∙ take_all (length graph) graph (omega arith)) kept)

  pub copy_applied : (path : List ℕ) (graph : List Obj) (root : Val) (p : TypedLocation ℕ) (o : ℕ) → IsValue (length graph) p.value → p.value ≡ vals.Ref o
      → Ok p ≡ on_side Left (position_of graph root path) → (count copy : ℕ) (new : List Obj) → count ≡ length graph → copy ≡ length graph
      → new ≡ graph ++ object_at graph o ∷ []
      → (left : List Obj) (left_root : Val) (result : Result (Unit {0}) EditRefusal)
      → IsKept table (write_at p.spot (vals.Ref copy) new root) (take count new) root left left_root result
      → IsApplied table (edits.Unshare path) graph root left left_root result
  copy_applied path graph root p o valid at found count copy new many is_last grown left left_root result kept =
      let made : List Obj × Val = write_at p.spot (vals.Ref (length graph)) (graph ++ object_at graph o ∷ []) root in
      let same : write_at p.spot (vals.Ref copy) new root ≡ made =
      ap (λ k. write_at p.spot (vals.Ref k) new root) is_last ∙ ap (λ g. write_at p.spot (vals.Ref (length graph)) g root) grown in
      kept_applied (edits.Unshare path) graph root made left left_root result
      (copy_made path graph root p o (subst (IsValue (length graph)) at valid) at found)
      (subst (λ m. IsKept table m graph root left left_root result) same
      (subst (λ before. IsKept table (write_at p.spot (vals.Ref copy) new root) before root left left_root result)
      (first_of graph (object_at graph o ∷ []) new count many grown) kept))

  -- ---- the result is the only answer

  module _ (lawful : IsLawful (table_of table)) where
    pub once : (edit : Edit) (graph : List Obj) (root : Val) (answer other : EditAnswer ℕ) → IsAnswerIn table edit graph root answer
        → IsAnswerIn table edit graph root other → answer ≡ other
    once edit graph root =
        answer_once (shape_in table) (names_in table) (SameClass table) 0
        (λ g v fault. fault_excludes_type (table_shapes (table_of table)) Everything lawful.lawful g v 0 fault tt) edit graph root

    for_reason : (edit : Edit) (graph : List Obj) (root : Val) (answer : EditAnswer ℕ) → IsAnswerIn table edit graph root answer → (reason : Option (Reason ℕ))
        → IsRefusedFor table edit graph root reason → IsReason answer reason
    for_reason edit graph root answer known None is = tt
    for_reason edit graph root answer known (Some reason) is = once edit graph root answer (Err reason) known is

    pub only_given : (edit : Edit) (graph : List Obj) (root : Val) (new : List Obj) (new_root : Val) (result : Result (Unit {0}) EditRefusal)
        → IsApplied table edit graph root new new_root result → (answer : EditAnswer ℕ) → IsAnswerIn table edit graph root answer
        → Gives answer new new_root result
    only_given edit graph root new new_root (Ok unit) is answer known = once edit graph root answer (Ok (new, new_root)) known is
    only_given edit graph root new new_root (Err refusal) is answer known = for_reason edit graph root answer known (reason_of refusal) is.2

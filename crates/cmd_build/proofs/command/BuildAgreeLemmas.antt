-- The meaning of a line by a table equals the meaning at the table's type.
use Rattle.std.proofs.Common.{ℕ, ◌≡◌, List, [], Some, Ok, Err, refl, sym, ap, ◌∙◌, subst}
use Rattle.base_data.specs.declared.model.value.Val.{Val}
use Rattle.base_data.specs.declared.model.value.Val.TheVariants as vals
use Rattle.base_data.specs.declared.model.value.Obj.{Obj}
use Rattle.types_lex.specs.declared.lexeme.Lexeme.{Lexeme}
use Rattle.types_spec.specs.types.Names.{names_of}
use Rattle.types_spec.specs.types.Shape.{shape}
use Rattle.types_spec.specs.types.Ty.{Ty}
use Rattle.types_spec.specs.types.TypeText.{type_text}
use Rattle.types_theory.proofs.table.TableDecideLemmas.{root_is_first}
use Rattle.types_table.specs.declared.type_table.tabled.Tabled.{Tabled}
use Rattle.types_table.specs.type_table.Made.{types_of, IsTypeTable}
use Rattle.check_fault.specs.FaultText.{text_at}
use Rattle.text_literal.specs.declared.parser.literal_fault.LiteralFault.{LiteralFault}
use Rattle.text_literal.specs.declared.parser.literal_fault.LiteralFault.TheVariants as literals
use Rattle.text_literal.specs.parser.LiteralAnswers.{shape_in, names_in, in_bytes, fault_of, IsAnswer, IsMisread}
use Rattle.text_literal.specs.parser.LiteralReading.{LiteralRefusal, mismatch_at, int_range_at, label_at}
use Rattle.edit_values.specs.declared.spots.Location.TheVariants as spots
use Rattle.edit_values.specs.declared.spots.TypedLocation.{TypedLocation}
use Rattle.edit_values.specs.EditedValues.{EditAnswer, IsSetAt}
use Rattle.edit_values.specs.Reasons.{Reason, no_field, not_block, no_literal, misread, ill_typed, literal_text, literal_or_none, literal_reason}
use Rattle.edit_values.proofs.EditAgreeLemmas.{set_at_agree, AnswersAgree, literal_text_same}
use Rattle.run_types.specs.Language.{TypeOver}
use Rattle.cmd_build.specs.command.InputLines.{AreText}

-- An arbitrary value. The value at the root before a text is stored is never used.
abbrev pub before : Val
before = vals.Atom 0

-- The location of the root, at the type `t`.
abbrev pub at_root : {T : Type 0} → T → TypedLocation T
at_root t = record { spot = spots.Root; value = before; ty = t }

-- ---- a text is stored at the root of nothing

module _ (t : TypeOver) (lexemes : List Lexeme) (end : ℕ) where
  abbrev pub IsWritten : EditAnswer Ty → Type 0
  IsWritten answer =
      IsSetAt (shape t.decls) (names_of t.decls) [] before (at_root t.type) lexemes end answer

  pub text_of_written : (answer : EditAnswer Ty) → IsWritten answer → AreText t lexemes end answer
  text_of_written (Ok built) (objects, v, is, same) =
      subst (λ (b : List Obj × Val). AreText t lexemes end (Ok b)) (sym same) is
  text_of_written (Err (no_literal position)) h = h
  text_of_written (Err (misread refusal)) h = h
  text_of_written (Err (no_field side n)) h = absurd h
  text_of_written (Err not_block) h = absurd h
  text_of_written (Err (ill_typed fault)) h = absurd h

  pub write_of_text : (answer : EditAnswer Ty) → AreText t lexemes end answer → IsWritten answer
  write_of_text (Ok built) is = (built.0, built.1, is, refl)
  write_of_text (Err (no_literal position)) h = h
  write_of_text (Err (misread refusal)) h = h
  write_of_text (Err (no_field side n)) h = absurd h
  write_of_text (Err not_block) h = absurd h
  write_of_text (Err (ill_typed fault)) h = absurd h

-- ---- by a table

-- The error of a literal reports the reason of the refusal.
reason_is : (r : LiteralRefusal ℕ) → literal_reason (fault_of r) ≡ Some (misread r)
reason_is (mismatch_at position i) = refl
reason_is (int_range_at position) = refl
reason_is (label_at position) = refl

module _ (t : TypeOver) (table : Tabled) (made : IsTypeTable t.decls t.type table)
    (lexemes : List Lexeme) (end : ℕ) where
  abbrev IsWrittenIn : EditAnswer ℕ → Type 0
  IsWrittenIn answer =
      IsSetAt (shape_in table) (names_in table) [] before (at_root 0) lexemes end answer

  -- If a text has a result by the table, then the text has an equal result at the type, or is
  -- refused with an equal error text.
  abbrev IsWrittenToo : EditAnswer ℕ → Type 0
  IsWrittenToo answer =
      (other : EditAnswer Ty) × IsWritten t lexemes end other
      × AnswersAgree t.decls t.type table made answer other

  write_too : (answer : EditAnswer ℕ) → IsWrittenIn answer → IsWrittenToo answer
  write_too answer is =
      set_at_agree t.decls t.type table made [] before (at_root 0) (at_root t.type) lexemes end
      (refl, refl, root_is_first t.decls t.type (types_of table) made.reached) answer is

  pub value_agree :
      (built : List Obj × Val) → IsAnswer table 0 lexemes end [] (Ok built)
      → AreText t lexemes end (Ok built)
  value_agree built v = by (write_too (Ok built) write) where
    write : IsWrittenIn (Ok built)
    write = (v.objects, built.1, (v.literal, v.encoded, v.read), ap (λ o. (o, built.1)) v.behind)

    by : IsWrittenToo (Ok built) → AreText t lexemes end (Ok built)
    by (Ok other, is, same) =
        subst (λ b. AreText t lexemes end (Ok b)) (sym same) (text_of_written t lexemes end (Ok other) is)
    by (Err reason, is, same) = absurd same

  -- Some reason at the type has the text of the error `fault`.
  abbrev pub HasReason : LiteralFault → Type 0
  HasReason fault =
      (reason : Reason Ty) × AreText t lexemes end (Err reason)
      × ((known : ℕ → List ℕ) → literal_or_none (text_at table) known (literal_reason fault)
      ≡ literal_text type_text known reason)

  reason_too :
      (fault : LiteralFault) (reason : Reason ℕ) → literal_reason fault ≡ Some reason
      → IsWrittenIn (Err reason) → HasReason fault
  reason_too fault reason known is = by (write_too (Err reason) is) where
    by : IsWrittenToo (Err reason) → HasReason fault
    by (Ok other, is, same) = absurd same
    by (Err other, is, same) = (
      other,
      text_of_written t lexemes end (Err other) is,
      λ positions. ap (literal_or_none (text_at table) positions) known
          ∙ literal_text_same t.decls t.type table made positions reason other same,
    )

  misread_too : (fault : LiteralFault) → IsMisread table 0 lexemes end 0 fault → HasReason fault
  misread_too fault m =
      reason_too fault (misread (in_bytes lexemes end m.refusal))
      (ap literal_reason m.is ∙ reason_is (in_bytes lexemes end m.refusal))
      (m.literal, m.refusal, m.encoded, m.refused, refl)

  pub fault_agree :
      (fault : LiteralFault) → IsAnswer table 0 lexemes end [] (Err fault) → HasReason fault
  fault_agree (literals.Syntax position) n =
      reason_too (literals.Syntax position) (no_literal position) refl (n.lexeme, n.syntax, n.is)
  fault_agree (literals.Mismatch position i) m = misread_too (literals.Mismatch position i) m
  fault_agree (literals.IntRange position) m = misread_too (literals.IntRange position) m
  fault_agree (literals.Label position) m = misread_too (literals.Label position) m
  fault_agree literals.Memory m = absurd m

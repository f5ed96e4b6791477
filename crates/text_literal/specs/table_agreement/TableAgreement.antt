-- Readings of literals that agree. Two readings agree if both give the same values and objects, or
-- if both are refused at corresponding types.
use Rattle.std.specs.Prelude.{ℕ, ◌≡◌, Result, Ok, Err, List, slice_get, Some}
use Rattle.types_spec.specs.declared.types.decl.Decl.{Decl}
use Rattle.types_spec.specs.types.Names.{names_of}
use Rattle.types_spec.specs.types.Shape.{shape}
use Rattle.types_spec.specs.types.Ty.{Ty}
use Rattle.types_table.specs.declared.type_table.tabled.Tabled.{Tabled}
use Rattle.types_table.specs.type_table.Made.{types_of, IsTypeTable}
use Rattle.text_literal.specs.literal_grammar.Literal.{Literal}
use Rattle.text_literal.specs.parser.LiteralAnswers.{shape_in, names_in}
use Rattle.text_literal.specs.parser.LiteralReading.{LiteralReading, LiteralRefusal, mismatch_at}
use Rattle.text_literal.specs.parser.LiteralReading.{int_range_at, label_at}
use Rattle.text_literal.specs.parser.LiteralReading.{literal_read}

module _ {T U : Type 0} (Of : T → U → Type 0) where
  abbrev pub RefusalsAgree : LiteralRefusal T → LiteralRefusal U → Type 0
  RefusalsAgree (mismatch_at k t) (mismatch_at j u) = (k ≡ j) × Of t u
  RefusalsAgree (int_range_at k) (int_range_at j) = k ≡ j
  RefusalsAgree (label_at k) (label_at j) = k ≡ j
  RefusalsAgree one other = ⊥

  abbrev pub ReadAgree : Result LiteralReading (LiteralRefusal T)
      → Result LiteralReading (LiteralRefusal U) → Type 0
  ReadAgree (Ok r) (Ok s) = r ≡ s
  ReadAgree (Err r) (Err s) = RefusalsAgree r s
  ReadAgree one other = ⊥

-- The reading of a literal at an index of a table agrees with the literal's reading at the type
-- with this index.
abbrev pub TablesReadAgree : Type 0
TablesReadAgree =
    (decls : List Decl) (t : Ty) (table : Tabled) → IsTypeTable decls t table
    → (k : ℕ) (v : Literal) (count : ℕ) (labels : List ℕ) (i : ℕ) (u : Ty)
    → slice_get (types_of table) i ≡ Some u
    → ReadAgree (λ i u. slice_get (types_of table) i ≡ Some u)
    (literal_read (shape_in table) (names_in table) k v count labels i)
    (literal_read (shape decls) (names_of decls) k v count labels u)

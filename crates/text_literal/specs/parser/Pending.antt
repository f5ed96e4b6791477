-- Open blocks, innermost first, with the parts still to be read, and the result of reading these
-- parts. The parts are read in order, and each value is stored into the next field of its block.
use Rattle.std.specs.Prelude.{ℕ, suc, ◌+◌, Result, Ok, Err, List, [], ◌∷◌, ◌++◌, length}
use Rattle.base_data.specs.declared.model.value.Val.{Val}
use Rattle.base_data.specs.declared.model.value.Obj.{Obj}
use Rattle.types_lex.specs.declared.lexeme.Symbol.{Symbol}
use Rattle.types_lex.specs.declared.lexeme.Symbol.TheVariants as symbols
use Rattle.types_spec.specs.declared.types.names.Names.{Names}
use Rattle.types_spec.specs.declared.types.shape.ShapeOf.{ShapeOf}
use Rattle.marshal_heap.specs.heap.Heap.{set_field}
use Rattle.types_parse.specs.grammar.Grammar.{mark}
use Rattle.text_literal.specs.literal_grammar.Literal.{Literal, Plain, applied, fields, tuple}
use Rattle.text_literal.specs.literal_grammar.Literal.{array, Parts}
use Rattle.text_literal.specs.literal_grammar.Literal.{no_parts, more_parts, FieldRows, no_rows}
use Rattle.text_literal.specs.literal_grammar.Literal.{more_rows}
use Rattle.text_literal.specs.literal_grammar.Literal.{head_kinds, owner_kinds, row_start}
use Rattle.text_literal.specs.literal_grammar.Literal.{literal_kinds}
use Rattle.text_literal.specs.literal_grammar.Literal.{parts_kinds, rows_kinds}
use Rattle.text_literal.specs.parser.LiteralReading.{LiteralReading, LiteralRefusal, reading, added}
use Rattle.text_literal.specs.parser.LiteralReading.{literal_read}

-- ---- the parts of a plain literal, each with the index of its first lexeme

abbrev pub listed_parts : Symbol → ℕ → Parts → List (ℕ × Literal)
listed_parts separator k no_parts = []
listed_parts separator k (more_parts ps v) =
    listed_parts separator k ps ++ (k + length (parts_kinds separator ps), v) ∷ []

abbrev pub listed_rows : ℕ → FieldRows → List (ℕ × Literal)
listed_rows k no_rows = []
listed_rows k (more_rows rs x v) =
    listed_rows k rs ++ (k + length (rows_kinds rs ++ row_start x), v) ∷ []

abbrev pub parts_of : ℕ → Plain → List (ℕ × Literal)
parts_of k (applied h ps v) =
    listed_parts symbols.Comma (k + length (head_kinds h ++ mark symbols.OpenParen)) ps
    ++ (k + length (head_kinds h ++ mark symbols.OpenParen ++ parts_kinds symbols.Comma ps), v) ∷ []
parts_of k (fields o rs x v) =
    listed_rows (k + length (owner_kinds o ++ mark symbols.OpenBrace)) rs
    ++ (k + length (owner_kinds o ++ mark symbols.OpenBrace ++ rows_kinds rs ++ row_start x), v)
    ∷ []
parts_of k (tuple ps u v) =
    (listed_parts symbols.Comma (k + 1) ps ++ (k + 1 + length (parts_kinds symbols.Comma ps), u)
    ∷ [])
    ++ (k + 1 + length (parts_kinds symbols.Comma ps ++ literal_kinds u ++ mark symbols.Comma), v)
    ∷ []
parts_of k (array ps v) =
    listed_parts symbols.Semicolon (k + 1) ps
    ++ (k + 1 + length (parts_kinds symbols.Semicolon ps), v) ∷ []
parts_of k p = []

-- ---- storing values into fields

abbrev pub fill : List Obj → ℕ → ℕ → List Val → List Obj
fill graph o i [] = graph
fill graph o i (v ∷ vs) = fill (set_field graph o i v) o (suc i) vs

-- An open block: its number, its next field, the index of its next part, the parts' types, and the
-- parts still to be read.
pub record Open (T : Type 0) : Type 0 where
  pub block : ℕ
  pub field : ℕ
  pub part : ℕ
  pub types : ℕ → T
  pub parts : List (ℕ × Literal)

abbrev pub then_row : {T : Type 0} → ℕ → Result LiteralReading (LiteralRefusal T)
    → (ℕ → List ℕ → Result LiteralReading (LiteralRefusal T))
    → Result LiteralReading (LiteralRefusal T)
then_row c (Err refusal) next = Err refusal
then_row c (Ok one) next = added one (next (c + length one.objects) one.labels)

abbrev pub open_at : {T : Type 0} → ℕ → ℕ → ℕ → (ℕ → T) → List (ℕ × Literal) → Open T
open_at block field part types parts =
    record { block = block; field = field; part = part; types = types; parts = parts }

-- Stores the values of a reading into the fields of a block, and continues with `rest`. If the
-- reading is refused, the result is the refusal.
abbrev pub write : {T : Type 0} → (List Obj → List ℕ → Result (List Obj) (LiteralRefusal T))
    → List Obj → ℕ
    → ℕ → Result LiteralReading (LiteralRefusal T) → Result (List Obj) (LiteralRefusal T)
write rest graph block field (Err refusal) = Err refusal
write rest graph block field (Ok r) = rest (fill graph block field r.values ++ r.objects) r.labels

module _ {T : Type 0} (shape : T → ShapeOf T) (names : T → Names) where
  -- Reads parts in order. The first part of the list has index i in its block.
  abbrev pub row_read : List (ℕ × Literal) → ℕ → List ℕ → ℕ → (ℕ → T)
      → Result LiteralReading (LiteralRefusal T)
  row_read [] c labels i types = Ok (reading [] [] labels)
  row_read (p ∷ parts) c labels i types =
      then_row c (literal_read shape names p.0 p.1 c labels (types i))
      (λ next more. row_read parts next more (suc i) types)

  -- The graph after all open blocks are finished, or the first refusal.
  abbrev pub finished : List (Open T) → List Obj → List ℕ → Result (List Obj) (LiteralRefusal T)
  finished [] graph labels = Ok graph
  finished (o ∷ opens) graph labels =
      write (finished opens) graph o.block o.field
      (row_read o.parts (length graph) labels o.part o.types)

-- The reading of a literal at a type, for any shapes and names. The result is the value with the
-- objects that the literal makes, or the first fault of the literal. Objects and faults are in the
-- order of their first lexemes. Positions are lexeme indices.
use Rattle.std.specs.Prelude.{ℕ, suc, ◌+◌, ◌==◌, ◌≡◌, Bool, true, if◌then◌else◌, Option, Some, None}
use Rattle.std.specs.Prelude.{Result, Ok, Err, List, [], ◌∷◌, ◌++◌, length, slice_get}
use Rattle.base_data.specs.declared.model.value.Val.{Val}
use Rattle.base_data.specs.declared.model.value.Val.TheVariants as vals
use Rattle.base_data.specs.declared.model.value.Obj.{Obj}
use Rattle.base_data.specs.declared.model.value.Obj.TheVariants as objects
use Rattle.types_lex.specs.declared.lexeme.Symbol.{Symbol}
use Rattle.types_lex.specs.declared.lexeme.Symbol.TheVariants as symbols
use Rattle.types_spec.specs.declared.types.names.Names.{Names}
use Rattle.types_spec.specs.declared.types.shape.ShapeOf.{ShapeOf}
use Rattle.types_parse.specs.grammar.Grammar.{mark}
use Rattle.text_literal.specs.literal_grammar.Literal.{Literal, labelled, again, Plain, applied}
use Rattle.text_literal.specs.literal_grammar.Literal.{fields}
use Rattle.text_literal.specs.literal_grammar.Literal.{tuple, array, Parts, no_parts, more_parts}
use Rattle.text_literal.specs.literal_grammar.Literal.{FieldRows}
use Rattle.text_literal.specs.literal_grammar.Literal.{no_rows, more_rows, label_kinds, head_kinds}
use Rattle.text_literal.specs.literal_grammar.Literal.{owner_kinds, row_start, literal_kinds}
use Rattle.text_literal.specs.literal_grammar.Literal.{parts_kinds}
use Rattle.text_literal.specs.literal_grammar.Literal.{rows_kinds}
use Rattle.text_literal.specs.parser.Starts.{Start, mismatch, out_of_range, small, whole, block}
use Rattle.text_literal.specs.parser.Starts.{start_at}

-- A list of values, the objects that the values make, and the object of each label so far. The list
-- of labels is indexed by label number.
pub record LiteralReading : Type 0 where
  pub values : List Val
  pub objects : List Obj
  pub labels : List ℕ

-- The reason why a literal has no value: a type mismatch, an integer out of range, or a `#` with an
-- invalid label. Each reason has a position.
pub data LiteralRefusal (T : Type 0) : Type 0 where
  mismatch_at : ℕ → T → LiteralRefusal T
  int_range_at : ℕ → LiteralRefusal T
  label_at : ℕ → LiteralRefusal T

abbrev pub reading : List Val → List Obj → List ℕ → LiteralReading
reading values objects labels = record { values = values; objects = objects; labels = labels }

-- ---- labels

-- The label is absent, or its number is the next number. Labels are numbered from 0.
abbrev pub is_next : List ℕ → Option ℕ → Bool
is_next labels None = true
is_next labels (Some n) = n == length labels

abbrev pub with_label : List ℕ → Option ℕ → ℕ → List ℕ
with_label labels None o = labels
with_label labels (Some n) o = labels ++ o ∷ []

module _ {T : Type 0} where
  -- The reading of a reference to a label. The value refers to the object of the label, and the
  -- reading makes no new object.
  abbrev pub again_read : ℕ → List ℕ → Option ℕ → Result LiteralReading (LiteralRefusal T)
  again_read k labels None = Err (label_at k)
  again_read k labels (Some o) = Ok (reading (vals.Ref o ∷ []) [] labels)

  -- The reading of an integer or an atom, which cannot have a label.
  abbrev pub small_read : ℕ → List ℕ → Val → Option ℕ → Result LiteralReading (LiteralRefusal T)
  small_read k labels v None = Ok (reading (v ∷ []) [] labels)
  small_read k labels v (Some n) = Err (label_at k)

  -- ---- lists of parts

  abbrev pub added : LiteralReading → Result LiteralReading (LiteralRefusal T)
      → Result LiteralReading (LiteralRefusal T)
  added one (Err refusal) = Err refusal
  added one (Ok other) =
      Ok (reading (one.values ++ other.values) (one.objects ++ other.objects) other.labels)

  -- Reads one more part after the parts that are already read. Object indices begin at c.
  abbrev pub and_next : ℕ → (ℕ → T) → Result LiteralReading (LiteralRefusal T)
      → (ℕ → List ℕ → T → Result LiteralReading (LiteralRefusal T))
      → Result LiteralReading (LiteralRefusal T)
  and_next c types (Err refusal) next = Err refusal
  and_next c types (Ok one) next =
      added one (next (c + length one.objects) one.labels (types (length one.values)))

  -- The reading of a block, given the reading of its parts. The block precedes the objects of its
  -- parts.
  abbrev pub block_read : ℕ → ℕ → List Val → Result LiteralReading (LiteralRefusal T)
      → Result LiteralReading (LiteralRefusal T)
  block_read c tag prefix (Err refusal) = Err refusal
  block_read c tag prefix (Ok parts) =
      Ok
      (reading (vals.Ref c ∷ []) (objects.Block tag (prefix ++ parts.values) ∷ parts.objects)
      parts.labels)

  -- Reads a part from the part's start at its type. The part's first lexeme is k, the first lexeme
  -- after the part's label is p, and the part's first object has index c.
  abbrev pub begun : ℕ → ℕ → ℕ → List ℕ → Option ℕ → T
      → (List ℕ → (ℕ → T) → Result LiteralReading (LiteralRefusal T)) → Start T
      → Result LiteralReading (LiteralRefusal T)
  begun k p c labels l t inside mismatch = Err (mismatch_at p t)
  begun k p c labels l t inside out_of_range = Err (int_range_at p)
  begun k p c labels l t inside (small v) = small_read k labels v l
  begun k p c labels l t inside (whole object) =
      Ok (reading (vals.Ref c ∷ []) (object ∷ []) (with_label labels l c))
  begun k p c labels l t inside (block tag prefix types) =
      block_read c tag prefix (inside (with_label labels l c) types)

module _ {T : Type 0} (shape : T → ShapeOf T) (names : T → Names) where
  abbrev mutual
    -- Reads a literal with first lexeme k at the type t. Before the literal, there are c objects
    -- and the labels `labels`.
    pub literal_read : ℕ → Literal → ℕ → List ℕ → T → Result LiteralReading (LiteralRefusal T)
    literal_read k (again n) c labels t = again_read k labels (slice_get labels n)
    literal_read k (labelled l p) c labels t =
        if is_next labels l
        then begun k (k + length (label_kinds l)) c labels l t
        (inside (k + length (label_kinds l)) p (suc c)) (start_at t (shape t) (names t) p)
        else Err (label_at k)

    -- Reads the parts of a plain literal.
    pub inside : ℕ → Plain → ℕ → List ℕ → (ℕ → T) → Result LiteralReading (LiteralRefusal T)
    inside k (applied h ps v) c labels types =
        and_next c types
        (parts_read symbols.Comma (k + length (head_kinds h ++ mark symbols.OpenParen)) ps c
        labels types)
        (literal_read
        (k + length (head_kinds h ++ mark symbols.OpenParen ++ parts_kinds symbols.Comma ps)) v)
    inside k (fields o rs x v) c labels types =
        and_next c types
        (rows_read (k + length (owner_kinds o ++ mark symbols.OpenBrace)) rs c labels types)
        (literal_read
        (k + length (owner_kinds o ++ mark symbols.OpenBrace ++ rows_kinds rs ++ row_start x))
        v)
    inside k (tuple ps u v) c labels types =
        and_next c types
        (and_next c types (parts_read symbols.Comma (k + 1) ps c labels types)
        (literal_read (k + 1 + length (parts_kinds symbols.Comma ps)) u))
        (literal_read
        (k + 1 + length (parts_kinds symbols.Comma ps ++ literal_kinds u ++ mark symbols.Comma))
        v)
    inside k (array ps v) c labels types =
        and_next c types (parts_read symbols.Semicolon (k + 1) ps c labels types)
        (literal_read (k + 1 + length (parts_kinds symbols.Semicolon ps)) v)
    inside k p c labels types = Ok (reading [] [] labels)

    pub parts_read : Symbol → ℕ → Parts → ℕ → List ℕ → (ℕ → T)
        → Result LiteralReading (LiteralRefusal T)
    parts_read separator k no_parts c labels types = Ok (reading [] [] labels)
    parts_read separator k (more_parts ps v) c labels types =
        and_next c types (parts_read separator k ps c labels types)
        (literal_read (k + length (parts_kinds separator ps)) v)

    pub rows_read : ℕ → FieldRows → ℕ → List ℕ → (ℕ → T) → Result LiteralReading (LiteralRefusal T)
    rows_read k no_rows c labels types = Ok (reading [] [] labels)
    rows_read k (more_rows rs x v) c labels types =
        and_next c types (rows_read k rs c labels types)
        (literal_read (k + length (rows_kinds rs ++ row_start x)) v)

  -- The literal has the value `value` at the type. The new objects follow c old objects.
  pub record IsRead (v : Literal) (t : T) (c : ℕ) (value : Val) (objects : List Obj) : Type 0 where
    pub labels : List ℕ
    pub read : literal_read 0 v c [] t ≡ Ok (reading (value ∷ []) objects labels)

  -- The literal has no value at the type, and the refusal is the first reason.
  abbrev pub IsRefused : Literal → T → ℕ → LiteralRefusal T → Type 0
  IsRefused v t c refusal = literal_read 0 v c [] t ≡ Err refusal

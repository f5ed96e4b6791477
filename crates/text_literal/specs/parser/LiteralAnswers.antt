-- The answer for lexemes at a type of a table. Positions in answers are byte offsets.
use Rattle.std.specs.Prelude.{ℕ, ◌≡◌, option_map, unwrap_or, Result, Ok, Err, List, ◌++◌, length}
use Rattle.std.specs.Prelude.{slice_get, ⊤}
use Rattle.base_data.specs.declared.model.value.Val.{Val}
use Rattle.base_data.specs.declared.model.value.Obj.{Obj}
use Rattle.types_lex.specs.declared.lexeme.Lexeme.{Lexeme}
use Rattle.text_literal.specs.declared.parser.literal_fault.LiteralFault.{LiteralFault}
use Rattle.text_literal.specs.declared.parser.literal_fault.LiteralFault.TheVariants as faults
use Rattle.types_spec.specs.declared.types.names.Names.{Names}
use Rattle.types_spec.specs.declared.types.shape.ShapeOf.{ShapeOf}
use Rattle.types_spec.specs.types.Names.{no_names}
use Rattle.types_spec.specs.types.Table.{node_or_none}
use Rattle.types_table.specs.declared.type_table.tabled.Tabled.{Tabled}
use Rattle.types_parse.specs.grammar.Refusals.{IsSyntax}
use Rattle.text_literal.specs.literal_grammar.Literal.{Literal, literal_kinds}
use Rattle.types_parse.specs.grammar.LexemeKinds.{kinds_of}
use Rattle.text_literal.specs.parser.LiteralReading.{LiteralRefusal, mismatch_at, int_range_at}
use Rattle.text_literal.specs.parser.LiteralReading.{label_at, IsRead}
use Rattle.text_literal.specs.parser.LiteralReading.{IsRefused}

-- The byte offset at which lexeme `k` begins, or `end` if there is no lexeme `k`.
abbrev pub byte_of : List Lexeme → ℕ → ℕ → ℕ
byte_of lexemes end k =
    unwrap_or (option_map (λ (lexeme : Lexeme). lexeme.span.first) (slice_get lexemes k)) end

-- The refusal with byte offsets in place of lexeme indices.
abbrev pub in_bytes : {T : Type 0} → List Lexeme → ℕ → LiteralRefusal T → LiteralRefusal T
in_bytes lexemes end (mismatch_at k t) = mismatch_at (byte_of lexemes end k) t
in_bytes lexemes end (int_range_at k) = int_range_at (byte_of lexemes end k)
in_bytes lexemes end (label_at k) = label_at (byte_of lexemes end k)

abbrev pub fault_of : LiteralRefusal ℕ → LiteralFault
fault_of (mismatch_at position t) = faults.Mismatch position t
fault_of (int_range_at position) = faults.IntRange position
fault_of (label_at position) = faults.Label position

-- ---- shapes and names of a table, by index

abbrev pub shape_in : Tabled → ℕ → ShapeOf ℕ
shape_in table i = node_or_none (slice_get table.nodes i)

abbrev pub names_in : Tabled → ℕ → Names
names_in table i = unwrap_or (slice_get table.names i) no_names

-- ---- answers

-- The lexemes are a literal whose value at the type is `value`. The new objects follow the old
-- objects.
pub record IsValue (table : Tabled) (at : ℕ) (lexemes : List Lexeme) (old new : List Obj)
    (value : Val) : Type 0 where
  pub literal : Literal
  pub objects : List Obj
  pub encoded : literal_kinds literal ≡ kinds_of lexemes
  pub read : IsRead (shape_in table) (names_in table) literal at (length old) value objects
  pub behind : new ≡ old ++ objects

-- The lexemes are a literal whose reading at the type gives this fault.
pub record IsMisread (table : Tabled) (at : ℕ) (lexemes : List Lexeme) (end : ℕ) (count : ℕ)
    (fault : LiteralFault) : Type 0 where
  pub literal : Literal
  pub refusal : LiteralRefusal ℕ
  pub encoded : literal_kinds literal ≡ kinds_of lexemes
  pub refused : IsRefused (shape_in table) (names_in table) literal at count refusal
  pub is : fault ≡ fault_of (in_bytes lexemes end refusal)

-- The lexemes are not a literal, and the syntax error is at the byte offset `position`.
pub record IsNoLiteral (lexemes : List Lexeme) (end position : ℕ) : Type 0 where
  pub lexeme : ℕ
  pub syntax : IsSyntax literal_kinds (kinds_of lexemes) lexeme
  pub is : position ≡ byte_of lexemes end lexeme

-- The answer for lexemes at a type and a heap: the objects of the heap with a value, or a fault. An
-- answer is never an out-of-memory error.
abbrev pub IsAnswer : Tabled → ℕ → List Lexeme → ℕ → List Obj
    → Result (List Obj × Val) LiteralFault → Type 0
IsAnswer table at lexemes end old (Ok answer) = IsValue table at lexemes old answer.0 answer.1
IsAnswer table at lexemes end old (Err (faults.Syntax position)) = IsNoLiteral lexemes end position
IsAnswer table at lexemes end old (Err (faults.Mismatch position t)) =
    IsMisread table at lexemes end (length old) (faults.Mismatch position t)
IsAnswer table at lexemes end old (Err (faults.IntRange position)) =
    IsMisread table at lexemes end (length old) (faults.IntRange position)
IsAnswer table at lexemes end old (Err (faults.Label position)) =
    IsMisread table at lexemes end (length old) (faults.Label position)
IsAnswer table at lexemes end old (Err faults.Memory) = ⊥

-- ---- results of a call

-- The result is an answer, and `new` is the heap after the call. After a fault, or if memory runs
-- out, the heap is unchanged.
abbrev pub IsAnswered : Tabled → ℕ → List Lexeme → ℕ → List Obj → List Obj
    → Result Val LiteralFault → Type 0
IsAnswered table at lexemes end old new (Ok value) =
    IsAnswer table at lexemes end old (Ok (new, value))
IsAnswered table at lexemes end old new (Err faults.Memory) = new ≡ old
IsAnswered table at lexemes end old new (Err fault) =
    (new ≡ old) × IsAnswer table at lexemes end old (Err fault)

-- A call returns the given answer, unless memory runs out.
abbrev pub Gives : Result (List Obj × Val) LiteralFault → List Obj → Result Val LiteralFault
    → Type 0
Gives answer new (Ok value) = answer ≡ Ok (new, value)
Gives answer new (Err faults.Memory) = ⊤
Gives answer new (Err fault) = answer ≡ Err fault

-- The lexemes have exactly one answer at the type and the heap.
abbrev pub HasOneAnswer : Tabled → ℕ → List Lexeme → ℕ → List Obj → Type 0
HasOneAnswer table at lexemes end old =
    (answer : Result (List Obj × Val) LiteralFault) × IsAnswer table at lexemes end old answer
    × ((other : Result (List Obj × Val) LiteralFault) → IsAnswer table at lexemes end old other
    → other ≡ answer)

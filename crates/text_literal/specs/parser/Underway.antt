-- The invariants that hold while the parts of a literal are read.
use Rattle.std.specs.Prelude.{ℕ, pos, ◌+◌, ◌^◌, ◌≡◌, ◌<◌, ◌≤◌, suc, nat_lt, if◌then◌else◌, true}
use Rattle.std.specs.Prelude.{Option, Some, None, Result, Ok, Err, List, [], ◌∷◌, ◌++◌, length}
use Rattle.std.specs.Prelude.{take, drop, replicate, All, ⊤}
use Rattle.base_data.specs.declared.model.value.Val.{Val}
use Rattle.base_data.specs.declared.model.value.Val.TheVariants as vals
use Rattle.base_data.specs.declared.model.value.Obj.{Obj}
use Rattle.base_data.specs.declared.model.value.Obj.TheVariants as objects
use Rattle.base_data.specs.model.Graph.{IsValue}
use Rattle.types_lex.specs.declared.lexeme.Lexeme.{Lexeme}
use Rattle.marshal_heap.specs.heap.Heap.{object_at, fields_of}
use Rattle.types_table.specs.declared.type_table.tabled.Tabled.{Tabled}
use Rattle.types_parse.specs.grammar.Grammar.{Kinds}
use Rattle.text_literal.specs.literal_grammar.Literal.{Literal, labelled, Plain, literal_kinds}
use Rattle.types_parse.specs.grammar.LexemeKinds.{kinds_of}
use Rattle.text_literal.specs.literal_grammar.LiteralNodes.{literal_nodes}
use Rattle.text_literal.specs.declared.parser.literal_fault.LiteralFault.{LiteralFault}
use Rattle.text_literal.specs.declared.parser.literal_fault.LiteralFault.TheVariants as faults
use Rattle.text_literal.specs.declared.parser.block_stack.Opened.{Opened}
use Rattle.text_literal.specs.declared.parser.literal_text.LiteralText.{LiteralText}
use Rattle.text_literal.specs.declared.parser.part.PartStart.{PartStart}
use Rattle.text_literal.specs.declared.parser.part.MadeLiteral.{MadeLiteral}
use Rattle.text_literal.specs.declared.parser.part.MadeLiteral.TheVariants as made
use Rattle.text_literal.specs.parser.Starts as starts
use Rattle.text_literal.specs.parser.Starts.{Start, mismatch, out_of_range, small, whole, start_at}
use Rattle.text_literal.specs.parser.LiteralReading.{LiteralReading, LiteralRefusal, reading}
use Rattle.text_literal.specs.parser.LiteralReading.{is_next, with_label}
use Rattle.text_literal.specs.parser.LiteralReading.{literal_read}
use Rattle.text_literal.specs.parser.LiteralAnswers.{in_bytes, fault_of, shape_in, names_in}
use Rattle.text_literal.specs.parser.LiteralAnswers.{IsAnswer}
use Rattle.text_literal.specs.parser.Pending.{Open, open_at, finished}
use Rattle.text_literal.specs.parser.NodesOf.{nodes_to_come}
use Rattle.text_literal.specs.parser.Openings.{types_in}
use Rattle.text_literal.specs.parser.Standing.{Stands, AreEncoded, inner_parts}
use Rattle.text_literal.specs.parser.SubtreeEnds.{AreEnds}

abbrev pub Popped : List Opened → List Opened → Option Opened → Type 0
Popped old new None = (old ≡ []) × (new ≡ [])
Popped old new (Some block) = old ≡ block ∷ new

-- `new` is the block `old` after its next part has begun.
pub record IsAdvanced (old new : Opened) : Type 0 where
  pub block_is : new.block ≡ old.block
  pub field_is : new.field ≡ suc old.field
  pub part_is : new.part ≡ suc old.part
  pub left_is : suc new.left ≡ old.left
  pub types_are : new.types ≡ old.types
  pub at_is : new.at ≡ old.at

-- The open blocks with `block` on top if parts of `block` are still to be read, and without `block`
-- if not.
abbrev pub if_open : Opened → List Opened → List Opened
if_open block stack = if nat_lt 0 block.left then block ∷ stack else stack

-- The invariant of the input from which the parts of a literal are read.
pub record IsText (text : LiteralText) : Type 0 where
  pub many : length text.ends.now ≡ length text.nodes.now
  pub ends : AreEnds text.nodes.now text.ends.now
  pub few : length text.lexemes.now < 2 ^ 63

-- ---- parts that have begun

-- The reading gives no value, and the fault is the reading's refusal with its byte offset.
pub record IsRefusedAs {A : Type 0} (lexemes : List Lexeme) (end : ℕ)
    (r : Result A (LiteralRefusal ℕ))
    (fault : LiteralFault) : Type 0 where
  pub refusal : LiteralRefusal ℕ
  pub is : r ≡ Err refusal
  pub position : fault ≡ fault_of (in_bytes lexemes end refusal)

abbrev pub MayRefuse : {A : Type 0} → List Lexeme → ℕ → Result A (LiteralRefusal ℕ) → LiteralFault
    → Type 0
MayRefuse lexemes end r faults.Memory = ⊤
MayRefuse lexemes end r fault = IsRefusedAs lexemes end r fault

-- The reading is complete: it has one value, new objects after those of `graph`, and the labels
-- `more`.
pub record IsWhole (r : Result LiteralReading (LiteralRefusal ℕ)) (graph new : List Obj)
    (more : List ℕ)
    (value : Val) : Type 0 where
  pub objects : List Obj
  pub read : r ≡ Ok (reading (value ∷ []) objects more)
  pub behind : new ≡ graph ++ objects

-- The part is a block whose own parts are still to be read.
pub record IsInner (table : Tabled) (k : ℕ) (v : Literal) (t : ℕ) (graph new : List Obj)
    (labels more : List ℕ) (value : Val) (opened : Opened) : Type 0 where
  pub label : Option ℕ
  pub plain : Plain
  pub tag : ℕ
  pub prefix : List Val
  pub literal : v ≡ labelled label plain
  pub numbered : is_next labels label ≡ true
  pub start : start_at t (shape_in table t) (names_in table t) plain
      ≡ starts.block tag prefix (types_in opened.at opened.types)
  pub value_is : value ≡ vals.Ref (length graph)
  pub behind : new
      ≡ graph
      ++ objects.Block tag (prefix ++ replicate (length (inner_parts k v)) (vals.Int (pos 0)))
      ∷ []
  pub labels_are : more ≡ with_label labels label (length graph)
  pub block_is : opened.block ≡ length graph
  pub field_is : opened.field ≡ length prefix
  pub part_is : opened.part ≡ 0
  pub left_is : opened.left ≡ length (inner_parts k v)
  pub some : 0 < opened.left
  pub few : opened.field + opened.left < 2 ^ 54

-- A literal of the text begins at node j.
abbrev pub HasPart : LiteralText → ℕ → Type 0
HasPart text j = (k : ℕ) × (v : Literal) × Stands text.nodes.now text.lexemes.now j k v

abbrev pub IsBegun : Tabled → ℕ → Literal → ℕ → List Obj → List Obj → List ℕ → List ℕ → Val
    → Option Opened → Type 0
IsBegun table k v t graph new labels more value None =
    IsWhole (literal_read (shape_in table) (names_in table) k v (length graph) labels t) graph new
    more value
IsBegun table k v t graph new labels more value (Some opened) =
    IsInner table k v t graph new labels more value opened

pub record IsGiven (table : Tabled) (k : ℕ) (v : Literal) (t : ℕ) (graph new : List Obj)
    (labels more : List ℕ) (begun : PartStart) : Type 0 where
  pub begun_is : IsBegun table k v t graph new labels more begun.value begun.inner
  pub valid : IsValue (length new) begun.value
  pub labels_in : All (λ o. o < length new) more

abbrev pub Begins : LiteralText → ℕ → Literal → ℕ → List Obj → List Obj → List ℕ → List ℕ
    → Result PartStart LiteralFault → Type 0
Begins text k v t graph new labels more (Ok begun) =
    IsGiven text.table.now k v t graph new labels more begun
Begins text k v t graph new labels more (Err fault) =
    MayRefuse text.lexemes.now text.end
    (literal_read (shape_in text.table.now) (names_in text.table.now) k v (length graph) labels
    t)
    fault

-- ---- what is made from a start, for a literal with a given number of parts

pub record IsMadeBlock (parts : ℕ) (start : Start ℕ) (graph new : List Obj) (opened : Opened)
    : Type 0 where
  pub tag : ℕ
  pub prefix : List Val
  pub start_is : start ≡ starts.block tag prefix (types_in opened.at opened.types)
  pub behind : new ≡ graph ++ objects.Block tag (prefix ++ replicate parts (vals.Int (pos 0))) ∷ []
  pub block_is : opened.block ≡ length graph
  pub field_is : opened.field ≡ length prefix
  pub part_is : opened.part ≡ 0
  pub left_is : opened.left ≡ parts
  pub some : 0 < parts
  pub few : opened.field + parts < 2 ^ 54

abbrev pub IsMade : ℕ → Start ℕ → List Obj → List Obj → MadeLiteral → Type 0
IsMade parts start graph new made.Mismatch = start ≡ mismatch
IsMade parts start graph new made.OutOfRange = start ≡ out_of_range
IsMade parts start graph new (made.Small v) = (start ≡ small v) × (new ≡ graph) × IsValue 0 v
IsMade parts start graph new (made.Whole o) =
    (object : Obj) × (start ≡ whole object) × (o ≡ length graph) × (new ≡ graph ++ object ∷ [])
IsMade parts start graph new (made.Block opened) = IsMadeBlock parts start graph new opened

abbrev pub Grows : List Obj → List Obj → Type 0
Grows old new = (objects : List Obj) × (new ≡ old ++ objects)

-- ---- open blocks

abbrev pub PartList : Type 0
PartList = List (ℕ × Literal)

-- The open blocks, each with the list of its parts still to be read.
abbrev pub opens_with : List Opened → List PartList → List (Open ℕ)
opens_with (o ∷ os) (parts ∷ all) =
    open_at o.block o.field o.part (types_in o.at o.types) parts ∷ opens_with os all
opens_with os all = []

-- The open block is one of the new objects, and the block's parts still to be read fill the block
-- exactly.
pub record IsOpen (old graph : List Obj) (all : Kinds) (o : Opened) (parts : PartList)
    : Type 0 where
  pub behind : length old ≤ o.block
  pub inside : o.block < length graph
  pub room : o.field + length parts ≡ length (fields_of (object_at graph o.block))
  pub within : o.part ≤ o.field
  pub left : o.left ≡ length parts
  pub few : o.field + o.left < 2 ^ 54
  pub some : 0 < length parts
  pub encoded : AreEncoded all parts

abbrev pub AreOpen : List Obj → List Obj → Kinds → List Opened → List PartList → Type 0
AreOpen old graph all [] [] = Unit {0}
AreOpen old graph all (o ∷ os) (parts ∷ rest) =
    IsOpen old graph all o parts × AreOpen old graph all os rest
AreOpen old graph all os rest = ⊥

-- Finishing the open blocks with the nodes from j on gives the outcome.
pub record IsUnderway (text : LiteralText) (old : List Obj)
    (outcome : Result (List Obj) (LiteralRefusal ℕ))
    (stack : List Opened) (j : ℕ) (graph : List Obj) (labels : List ℕ) : Type 0 where
  pub parts : List PartList
  pub open_blocks : AreOpen old graph (kinds_of text.lexemes.now) stack parts
  pub come : nodes_to_come (opens_with stack parts) ≡ drop j text.nodes.now
  pub same : finished (shape_in text.table.now) (names_in text.table.now) (opens_with stack parts)
      graph labels
      ≡ outcome
  pub labels_in : All (λ o. o < length graph) labels
  pub kept : take (length old) graph ≡ old

abbrev pub CanGoOn : LiteralText → List Opened → ℕ → List Obj → List ℕ → Type 0
CanGoOn text stack j graph labels =
    (old : List Obj) × (outcome : Result (List Obj) (LiteralRefusal ℕ))
    × IsUnderway text old outcome stack j graph labels

-- If the call succeeds, the outcome is the graph after the call. If the call fails, the fault is
-- the outcome's refusal, or memory ran out.
abbrev pub Finishes : LiteralText → List Obj → Result (List Obj) (LiteralRefusal ℕ) → List Obj
    → Result ⊤ LiteralFault → Type 0
Finishes text old outcome new (Ok done) = outcome ≡ Ok new
Finishes text old outcome new (Err fault) =
    (take (length old) new ≡ old) × MayRefuse text.lexemes.now text.end outcome fault

-- ---- whole literals

-- The result is the value of the tree of the text's nodes at a type, or the tree's refusal. The old
-- objects are unchanged.
abbrev pub ReadsTree : LiteralText → ℕ → List Obj → List Obj → Result Val LiteralFault → Type 0
ReadsTree text at old new (Ok value) =
    ((v : Literal) → literal_kinds v ≡ kinds_of text.lexemes.now
    → text.nodes.now ≡ literal_nodes 0 v
    → (labels : List ℕ)
    × IsWhole
    (literal_read (shape_in text.table.now) (names_in text.table.now) 0 v (length old) [] at)
    old new labels value)
    × IsValue (length new) value
ReadsTree text at old new (Err fault) =
    ((v : Literal) → literal_kinds v ≡ kinds_of text.lexemes.now
    → text.nodes.now ≡ literal_nodes 0 v
    → MayRefuse text.lexemes.now text.end
    (literal_read (shape_in text.table.now) (names_in text.table.now) 0 v (length old) [] at) fault)
    × (take (length old) new ≡ old)

-- The result is the answer for the lexemes at the type. The old objects are unchanged.
abbrev pub Reads : Tabled → ℕ → List Lexeme → ℕ → List Obj → List Obj → Result Val LiteralFault
    → Type 0
Reads table at lexemes end old new (Ok value) =
    IsAnswer table at lexemes end old (Ok (new, value)) × IsValue (length new) value
Reads table at lexemes end old new (Err faults.Memory) = take (length old) new ≡ old
Reads table at lexemes end old new (Err fault) =
    (take (length old) new ≡ old) × IsAnswer table at lexemes end old (Err fault)

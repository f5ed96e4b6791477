-- The answer for a line at type 0 of a table: the line is blank, is a value, or has a fault.
use Rattle.std.specs.Prelude.{ℕ, ◌≡◌, ◌≢◌, Option, Some, None, Result, Ok, Err, List, [], length, ⊤}
use Rattle.base_data.specs.declared.model.value.Val.{Val}
use Rattle.base_data.specs.declared.model.value.Obj.{Obj}
use Rattle.base_data.specs.model.Graph.{IsValue}
use Rattle.types_lex.specs.declared.lexeme.Lexeme.{Lexeme}
use Rattle.types_lex.specs.LexText.{Lexes, Faults}
use Rattle.marshal_spec.specs.format.Tree.{Tree, root, objects_of}
use Rattle.types_table.specs.declared.type_table.tabled.Tabled.{Tabled}
use Rattle.text_literal.specs.declared.parser.literal_fault.LiteralFault.{LiteralFault}
use Rattle.text_literal.specs.declared.parser.literal_fault.LiteralFault.TheVariants as literal
use Rattle.text_literal.specs.parser.LiteralAnswers.{IsAnswer}
use Rattle.text_roundtrip.specs.text_lines.Laws.{ReadsAgain}
use Rattle.text_roundtrip.specs.declared.text_lines.text_reader.TextFault.{TextFault}
use Rattle.text_roundtrip.specs.declared.text_lines.text_reader.TextFault.TheVariants as faults

-- The answer for a line: nothing for a blank line, objects with a value, or a fault.
abbrev pub TextAnswer : Type 0
TextAnswer = Result (Option (List Obj × Val)) TextFault

-- A line without lexemes is blank. If a line has lexemes, the lexemes are a literal with a value
-- and its objects, or have a fault. A literal has no old objects, and ends at the end of the line.
abbrev pub IsTextAnswer : Tabled → List ℕ → TextAnswer → Type 0
IsTextAnswer table line (Ok None) = Lexes line []
IsTextAnswer table line (Ok (Some built)) =
    (lexemes : List Lexeme) × Lexes line lexemes × (lexemes ≢ [])
    × IsAnswer table 0 lexemes (length line) [] (Ok built)
IsTextAnswer table line (Err (faults.Lex fault)) = Faults line fault
IsTextAnswer table line (Err (faults.Literal fault)) =
    (lexemes : List Lexeme) × Lexes line lexemes × (lexemes ≢ [])
    × IsAnswer table 0 lexemes (length line) [] (Err fault)
IsTextAnswer table line (Err faults.Memory) = ⊥

-- Converts the fault of a literal to the fault of a line.
abbrev pub text_fault : LiteralFault → TextFault
text_fault literal.Memory = faults.Memory
text_fault fault = faults.Literal fault

-- A line has exactly one answer.
abbrev pub HasOneTextAnswer : Tabled → List ℕ → Type 0
HasOneTextAnswer table line =
    (answer : TextAnswer) × IsTextAnswer table line answer
    × ((other : TextAnswer) → IsTextAnswer table line other → other ≡ answer)

-- ---- results of a call, with the heap afterwards

-- If the result is a value, the objects of the heap are the value's objects. If the result is not a
-- value, the heap is empty.
abbrev pub ReadsText : Tabled → List ℕ → List Obj → Result (Option Val) TextFault → Type 0
ReadsText table line new (Ok None) = (new ≡ []) × IsTextAnswer table line (Ok None)
ReadsText table line new (Ok (Some value)) =
    IsValue (length new) value × IsTextAnswer table line (Ok (Some (new, value)))
ReadsText table line new (Err faults.Memory) = new ≡ []
ReadsText table line new (Err fault) = (new ≡ []) × IsTextAnswer table line (Err fault)

-- If memory does not run out, the result is the answer `answer`.
abbrev pub Gives : TextAnswer → List Obj → Result (Option Val) TextFault → Type 0
Gives answer new (Ok None) = answer ≡ Ok None
Gives answer new (Ok (Some value)) = answer ≡ Ok (Some (new, value))
Gives answer new (Err faults.Memory) = ⊤
Gives answer new (Err fault) = answer ≡ Err fault

-- If memory does not run out, the result is the answer for the line.
abbrev pub GivesAnswer : Tabled → List ℕ → List Obj → Result (Option Val) TextFault → Type 0
GivesAnswer table line new result =
    (answer : TextAnswer) → IsTextAnswer table line answer → Gives answer new result

-- If memory does not run out, the result is the value of the tree, with its objects in order.
abbrev pub GivesTree : Tree → List Obj → Result (Option Val) TextFault → Type 0
GivesTree tree new (Ok (Some value)) = (new ≡ objects_of tree 0) × (value ≡ root tree 0)
GivesTree tree new (Ok None) = ⊥
GivesTree tree new (Err faults.Memory) = ⊤
GivesTree tree new (Err fault) = ⊥

-- If the line is the text of the value of a tree, then the result is the value of the tree.
abbrev pub GivesBack : Tabled → List ℕ → List Obj → Result (Option Val) TextFault → Type 0
GivesBack table line new result =
    (tree : Tree) → ReadsAgain table tree line → GivesTree tree new result

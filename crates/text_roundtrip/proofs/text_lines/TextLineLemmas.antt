-- A line has exactly one answer. If the line is the text of the value of a tree, then the answer is
-- the value.
use Rattle.std.proofs.Common.{◌≡◌, ◌≢◌, ℕ, List, [], ◌∷◌, length, Option, Some, None, Result, Ok, Err, refl, sym, ap, subst, ◌∙◌, arith}
use Rattle.std.specs.Prelude.{map}
use Rattle.base_data.specs.declared.model.value.Val.{Val}
use Rattle.base_data.specs.declared.model.value.Obj.{Obj}
use Rattle.types_lex.specs.declared.lexeme.Lexeme.{Lexeme}
use Rattle.types_lex.specs.declared.lexeme.LexFault.{LexFault}
use Rattle.types_lex.specs.LexText.{Lexes, Faults, Outcome}
use Rattle.types_lex.proofs.PartLaws.{has_one_outcome, one_fault}
use Rattle.text_literal.specs.parser.LiteralAnswers.{IsAnswer, IsAnswered}
use Rattle.text_literal.specs.declared.parser.literal_fault.LiteralFault.{LiteralFault}
use Rattle.text_literal.specs.declared.parser.literal_fault.LiteralFault.TheVariants as literal
use Rattle.text_literal.specs.declared.literal_grammar.literal_node.LiteralNode.{LiteralNode}
use Rattle.text_literal.specs.literal_grammar.LiteralNodes.{IsTreeOf}
use Rattle.text_literal.proofs.parser.LiteralParserAnswerLemmas.{one_answer}
use Rattle.std.proofs.Common.{true, false, ◌++◌, length-append}
use Rattle.types_parse.specs.grammar.Grammar.{mark}
use Rattle.types_lex.specs.declared.lexeme.Symbol.TheVariants as symbols
use Rattle.text_literal.specs.literal_grammar.Literal.{LiteralHead, upper_head, tag_head, cons_head, empty_head, ref_head, Literal, labelled, again, Plain, integer, character, string, double, truth, unit, constant, applied, fields, tuple, empty_array, array, head_kinds, owner_kinds, plain_kinds, literal_kinds, parts_kinds, rows_kinds, row_start}
use Rattle.types_table.specs.declared.type_table.tabled.Tabled.{Tabled}
use Rattle.marshal_spec.specs.format.Tree.{Tree, root, objects_of}
use Rattle.text_roundtrip.specs.text_lines.Laws.{ReadsAgain}
use Rattle.text_roundtrip.specs.text_lines.TextAnswers.{HasOneTextAnswer, Gives, TextAnswer, IsTextAnswer, ReadsText, GivesTree, text_fault}
use Rattle.text_roundtrip.specs.declared.text_lines.text_reader.TextFault.{TextFault}
use Rattle.text_roundtrip.specs.declared.text_lines.text_reader.TextFault.TheVariants as faults

lexed_same : (line : List ℕ) (l m : List Lexeme) → Lexes line l → Lexes line m → l ≡ m
lexed_same line l m one other = let o = has_one_outcome line in let e = o.2 (Ok l) one in let f = o.2 (Ok m) other in let g : Ok l ≡ Ok m = e ∙ sym f in cc

lexed_or_fault : {A : Type 0} (line : List ℕ) (l : List Lexeme) (f : LexFault) → Lexes line l → Faults line f → A
lexed_or_fault line l f one other = let o = has_one_outcome line in let g : Ok l ≡ Err f = o.2 (Ok l) one ∙ sym (o.2 (Err f) other) in absurd cc

-- Two answers for the lexemes of one line are equal.
literals_same : (table : Tabled) (line : List ℕ) (l m : List Lexeme) (x y : Result (List Obj × Val) LiteralFault) → Lexes line l → Lexes line m
    → IsAnswer table 0 l (length line) [] x → IsAnswer table 0 m (length line) [] y → x ≡ y
literals_same table line l m x y one other at_x at_y =
    let o = one_answer table 0 l (length line) [] in
    o.2 x at_x ∙ sym (o.2 y (subst (λ k. IsAnswer table 0 k (length line) [] y) (sym (lexed_same line l m one other)) at_y))

same_answer : (table : Tabled) (line : List ℕ) (a b : TextAnswer) → IsTextAnswer table line a → IsTextAnswer table line b → a ≡ b
same_answer table line (Ok None) (Ok None) one other = refl
same_answer table line (Ok None) (Ok (Some b)) one other = absurd (other.2 (lexed_same line other.0 [] other.1 one))
same_answer table line (Ok None) (Err (faults.Lex f)) one other = lexed_or_fault line [] f one other
same_answer table line (Ok None) (Err (faults.Literal f)) one other = absurd (other.2 (lexed_same line other.0 [] other.1 one))
same_answer table line (Ok None) (Err faults.Memory) one other = absurd other
same_answer table line (Ok (Some a)) (Ok None) one other = absurd (one.2 (lexed_same line one.0 [] one.1 other))
same_answer table line (Ok (Some a)) (Ok (Some b)) one other =
    let e : Ok a ≡ Ok b = literals_same table line one.0 other.0 (Ok a) (Ok b) one.1 other.1 one.3 other.3 in let f : a ≡ b = cc in ap (λ x. Ok (Some x)) f
same_answer table line (Ok (Some a)) (Err (faults.Lex f)) one other = lexed_or_fault line one.0 f one.1 other
same_answer table line (Ok (Some a)) (Err (faults.Literal f)) one other =
    let e : Ok a ≡ Err f = literals_same table line one.0 other.0 (Ok a) (Err f) one.1 other.1 one.3 other.3 in absurd cc
same_answer table line (Ok (Some a)) (Err faults.Memory) one other = absurd other
same_answer table line (Err (faults.Lex f)) (Ok None) one other = lexed_or_fault line [] f other one
same_answer table line (Err (faults.Lex f)) (Ok (Some b)) one other = lexed_or_fault line other.0 f other.1 one
same_answer table line (Err (faults.Lex f)) (Err (faults.Lex g)) one other = ap (λ h. Err (faults.Lex h)) (one_fault line f g one other)
same_answer table line (Err (faults.Lex f)) (Err (faults.Literal g)) one other = lexed_or_fault line other.0 f other.1 one
same_answer table line (Err (faults.Lex f)) (Err faults.Memory) one other = absurd other
same_answer table line (Err (faults.Literal f)) (Ok None) one other = absurd (one.2 (lexed_same line one.0 [] one.1 other))
same_answer table line (Err (faults.Literal f)) (Ok (Some b)) one other =
    let e : Err f ≡ Ok b = literals_same table line one.0 other.0 (Err f) (Ok b) one.1 other.1 one.3 other.3 in absurd cc
same_answer table line (Err (faults.Literal f)) (Err (faults.Lex g)) one other = lexed_or_fault line one.0 g one.1 other
same_answer table line (Err (faults.Literal f)) (Err (faults.Literal g)) one other =
    let e : Err f ≡ Err g = literals_same table line one.0 other.0 (Err f) (Err g) one.1 other.1 one.3 other.3 in let h : f ≡ g = cc in ap (λ x. Err (faults.Literal x)) h
same_answer table line (Err (faults.Literal f)) (Err faults.Memory) one other = absurd other
same_answer table line (Err faults.Memory) other one both = absurd one

-- If a line has lexemes, then the result for the lexemes gives an answer for the line.
answer_of_literal : (table : Tabled) (line : List ℕ) (l : Lexeme) (ls : List Lexeme) → Lexes line (l ∷ ls)
    → (r : Result (List Obj × Val) LiteralFault) → IsAnswer table 0 (l ∷ ls) (length line) [] r → (answer : TextAnswer) × IsTextAnswer table line answer
answer_of_literal table line l ls lexes (Ok built) is = (Ok (Some built), (l ∷ ls, lexes, (λ e. absurd cc), is))
answer_of_literal table line l ls lexes (Err fault) is = (Err (faults.Literal fault), (l ∷ ls, lexes, (λ e. absurd cc), is))

answer_of : (table : Tabled) (line : List ℕ) (o : Result (List Lexeme) LexFault) → Outcome line o → (answer : TextAnswer) × IsTextAnswer table line answer
answer_of table line (Ok []) is = (Ok None, is)
answer_of table line (Ok (l ∷ ls)) is = let o = one_answer table 0 (l ∷ ls) (length line) [] in answer_of_literal table line l ls is o.0 o.1
answer_of table line (Err fault) is = (Err (faults.Lex fault), is)

pub one_text_answer : (table : Tabled) (line : List ℕ) → HasOneTextAnswer table line
one_text_answer table line =
    let o = has_one_outcome line in
    let a = answer_of table line o.0 o.1 in
    (a.0, a.1, λ other is. same_answer table line other a.0 is a.1)

-- A literal has at least one lexeme.
head_some : (h : LiteralHead) → head_kinds h ≡ [] → ⊥
head_some (upper_head x) e = absurd cc
head_some (tag_head x) e = absurd cc
head_some cons_head e = absurd cc
head_some empty_head e = absurd cc
head_some ref_head e = absurd cc

plain_some : (p : Plain) → plain_kinds p ≢ []
plain_some (integer i) e = absurd cc
plain_some (character c) e = absurd cc
plain_some (string s) e = absurd cc
plain_some (double d) e = absurd cc
plain_some (truth true) e = absurd cc
plain_some (truth false) e = absurd cc
plain_some unit e = absurd cc
plain_some (constant h) e = head_some h e
plain_some (applied h ps v) e = absurd (omega (arith, ap length e, length-append (head_kinds h ++ mark symbols.OpenParen ++ parts_kinds symbols.Comma ps ++ literal_kinds v) (mark symbols.CloseParen)))
plain_some (fields o rs x v) e = absurd (omega (arith, ap length e, length-append (owner_kinds o ++ mark symbols.OpenBrace ++ rows_kinds rs ++ row_start x ++ literal_kinds v) (mark symbols.CloseBrace)))
plain_some (tuple ps u v) e = absurd (omega (arith, ap length e, length-append (mark symbols.OpenParen ++ (parts_kinds symbols.Comma ps ++ literal_kinds u ++ mark symbols.Comma) ++ literal_kinds v) (mark symbols.CloseParen)))
plain_some empty_array e = absurd cc
plain_some (array ps v) e = absurd (omega (arith, ap length e, length-append (mark symbols.OpenArray ++ parts_kinds symbols.Semicolon ps ++ literal_kinds v) (mark symbols.CloseArray)))

encoded_some : (v : Literal) → literal_kinds v ≡ [] → ⊥
encoded_some (again k) e = absurd cc
encoded_some (labelled None p) e = plain_some p e
encoded_some (labelled (Some k) p) e = absurd cc

-- If the answer for lexemes is a value, then there is at least one lexeme.
some_lexemes : (table : Tabled) (line : List ℕ) (lexemes : List Lexeme) (answer : List Obj × Val) → IsAnswer table 0 lexemes (length line) [] (Ok answer) → lexemes ≢ []
some_lexemes table line lexemes answer is none = encoded_some is.literal (is.encoded ∙ ap (λ (ls : List Lexeme). map (λ (l : Lexeme). l.kind) ls) none)

tree_some : (lexemes : List Lexeme) (nodes : List LiteralNode) → IsTreeOf lexemes nodes → lexemes ≢ []
tree_some lexemes nodes is none = encoded_some is.0 (is.1 ∙ ap (λ (ls : List Lexeme). map (λ (l : Lexeme). l.kind) ls) none)

-- If there are no old objects, then a value or a fault of the lexemes is the answer of the line.
module _ (table : Tabled) (line : List ℕ) (lexemes : List Lexeme) (nodes : List LiteralNode) (old new : List Obj) (empty : old ≡ []) (lexes : Lexes line lexemes) (tree : IsTreeOf lexemes nodes) where
  refused : (fault : LiteralFault) → IsAnswer table 0 lexemes (length line) old (Err fault)
      → (xs : List Lexeme) × Lexes line xs × (xs ≢ []) × IsAnswer table 0 xs (length line) [] (Err fault)
  refused fault is = (lexemes, lexes, tree_some lexemes nodes tree, subst (λ (os : List Obj). IsAnswer table 0 lexemes (length line) os (Err fault)) empty is)

  pub placed_fault : (fault : LiteralFault) → IsAnswered table 0 lexemes (length line) old new (Err fault) → ReadsText table line new (Err (text_fault fault))
  placed_fault literal.Memory is = is ∙ empty
  placed_fault (literal.Syntax position) is = (is.0 ∙ empty, refused (literal.Syntax position) is.1)
  placed_fault (literal.Mismatch position t) is = (is.0 ∙ empty, refused (literal.Mismatch position t) is.1)
  placed_fault (literal.IntRange position) is = (is.0 ∙ empty, refused (literal.IntRange position) is.1)
  placed_fault (literal.Label position) is = (is.0 ∙ empty, refused (literal.Label position) is.1)

read_back_answer : (table : Tabled) (tree : Tree) (line : List ℕ) → ReadsAgain table tree line → IsTextAnswer table line (Ok (Some (objects_of tree 0, root tree 0)))
read_back_answer table tree line r = (r.lexemes, r.lexes, some_lexemes table line r.lexemes (objects_of tree 0, root tree 0) (r.answer (length line)), r.answer (length line))

-- If the line is the text of the value of a tree, then the answer for the line is the value.
is_back : (table : Tabled) (tree : Tree) (line : List ℕ) (a : TextAnswer) → ReadsAgain table tree line → IsTextAnswer table line a → a ≡ Ok (Some (objects_of tree 0, root tree 0))
is_back table tree line a back is = same_answer table line a (Ok (Some (objects_of tree 0, root tree 0))) is (read_back_answer table tree line back)

-- ---- results of a call

-- If memory does not run out, the result of a call is the only answer for the line.
pub gives_answer : (table : Tabled) (line : List ℕ) (new : List Obj) (r : Result (Option Val) TextFault) → ReadsText table line new r
    → (answer : TextAnswer) → IsTextAnswer table line answer → Gives answer new r
gives_answer table line new (Ok None) reads answer is = same_answer table line answer (Ok None) is reads.1
gives_answer table line new (Ok (Some value)) reads answer is = same_answer table line answer (Ok (Some (new, value))) is reads.1
gives_answer table line new (Err (faults.Lex f)) reads answer is = same_answer table line answer (Err (faults.Lex f)) is reads.1
gives_answer table line new (Err (faults.Literal f)) reads answer is = same_answer table line answer (Err (faults.Literal f)) is reads.1
gives_answer table line new (Err faults.Memory) reads answer is = tt

pair_parts : (new graph : List Obj) (value v : Val) → ◌≡◌ {A = TextAnswer} (Ok (Some (new, value))) (Ok (Some (graph, v))) → (new ≡ graph) × (value ≡ v)
pair_parts new graph value v e = let f : (new, value) ≡ (graph, v) = cc in (ap (λ (p : List Obj × Val). p.0) f, ap (λ (p : List Obj × Val). p.1) f)

none_back : {A : Type 0} (graph : List Obj) (v : Val) → ◌≡◌ {A = TextAnswer} (Ok None) (Ok (Some (graph, v))) → A
none_back graph v e = absurd cc

fault_back : {A : Type 0} (fault : TextFault) (graph : List Obj) (v : Val) → ◌≡◌ {A = TextAnswer} (Err fault) (Ok (Some (graph, v))) → A
fault_back fault graph v e = absurd cc

-- If the line is the text of the value of a tree, then the result of a call is the value.
pub gives_back : (table : Tabled) (line : List ℕ) (new : List Obj) (r : Result (Option Val) TextFault) → ReadsText table line new r
    → (tree : Tree) → ReadsAgain table tree line → GivesTree tree new r
gives_back table line new (Ok None) reads tree back = none_back (objects_of tree 0) (root tree 0) (is_back table tree line (Ok None) back reads.1)
gives_back table line new (Ok (Some value)) reads tree back = pair_parts new (objects_of tree 0) value (root tree 0) (is_back table tree line (Ok (Some (new, value))) back reads.1)
gives_back table line new (Err (faults.Lex f)) reads tree back = fault_back (faults.Lex f) (objects_of tree 0) (root tree 0) (is_back table tree line (Err (faults.Lex f)) back reads.1)
gives_back table line new (Err (faults.Literal f)) reads tree back = fault_back (faults.Literal f) (objects_of tree 0) (root tree 0) (is_back table tree line (Err (faults.Literal f)) back reads.1)
gives_back table line new (Err faults.Memory) reads tree back = tt

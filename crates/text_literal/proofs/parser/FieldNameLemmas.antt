-- The names found before the values of a literal's fields are the names of the fields.
use Rattle.std.proofs.Common.{arith, refl, sym, ap, ◌∙◌, get_or, cond, length-append, append_assoc}
use Rattle.std.specs.Prelude.{ℕ, suc, ◌+◌, ◌-◌, ◌<◌, ◌≡◌, Option, Some, List, [], ◌∷◌, ◌++◌, length, map, slice_get}
use Rattle.std.proofs.lemmas.Bool.{lt-ltb}
use Rattle.std.proofs.lemmas.List.{map-append}
use Rattle.std.proofs.lemmas.Option.{slice_get-get_or}
use Rattle.types_lex.specs.declared.lexeme.Lexeme.{Lexeme}
use Rattle.types_lex.specs.declared.lexeme.LexemeKind.TheVariants as kinds
use Rattle.types_lex.specs.declared.lexeme.Symbol.TheVariants as symbols
use Rattle.types_lex.specs.Lexemes.{lower_name}
use Rattle.types_parse.specs.grammar.Grammar.{Kinds, Name, mark}
use Rattle.text_literal.specs.declared.literal_grammar.literal_node.LiteralNode.{LiteralNode}
use Rattle.text_literal.specs.literal_grammar.Literal.{LiteralHead, Literal, labelled, fields, FieldRows, no_rows, more_rows, label_kinds, owner_kinds, row_start, literal_kinds, plain_kinds, rows_kinds}
use Rattle.types_parse.specs.grammar.LexemeKinds.{kinds_of}
use Rattle.text_literal.specs.parser.Starts.{names_of_rows}
use Rattle.text_literal.specs.parser.Pending.{listed_rows}
use Rattle.text_literal.specs.parser.NodesOf.{part_nodes, nodes_of_parts}
use Rattle.text_literal.specs.parser.Standing.{IsAt, Stands, own_node, inner_parts}
use Rattle.text_literal.specs.parser.SubtreeEnds.{AreEnds, sibling}
use Rattle.text_literal.specs.parser.FieldNames.{name_before, name_of_node, names_from}
use Rattle.text_literal.proofs.parser.StandingLemmas.{at_prefix, at_back, at_same, first_found, own_and_parts, own_first}
use Rattle.text_literal.proofs.parser.EndsLemmas.{sibling_next, position_in, own_parts}

-- ---- one step

names_found :
    (nodes : List LiteralNode) (ends : List ℕ) (all : Kinds) (position n : ℕ) (node : LiteralNode) → position < length nodes → slice_get nodes position ≡ Some node
    → names_from nodes ends all position (suc n) ≡ name_before all node.first ∷ names_from nodes ends all (sibling ends position 1) n
names_found nodes ends all position n node h e =
    ap (λ b. cond b (name_of_node all (slice_get nodes position) ∷ names_from nodes ends all (sibling ends position 1) n) []) (lt-ltb position (length nodes) h)
    ∙ ap (λ found. name_of_node all found ∷ names_from nodes ends all (sibling ends position 1) n) e

pub names_next :
    (nodes : List LiteralNode) (ends : List ℕ) (all : Kinds) (position n m : ℕ) (d : LiteralNode) → n ≡ suc m → position < length nodes
    → names_from nodes ends all position n ≡ name_before all (get_or nodes position d).first ∷ names_from nodes ends all (sibling ends position 1) m
names_next nodes ends all position n m d e h =
    ap (λ i. names_from nodes ends all position i) e
    ∙ names_found nodes ends all position m (get_or nodes position d) h (slice_get-get_or nodes position d h)

-- If the name of the next field is collected, then the collected names grow by this name.
pub names_step :
    (nodes : List LiteralNode) (ends : List ℕ) (all : Kinds) (position n m next : ℕ) (d : LiteralNode) (before after names : List Name) (x : Name)
    → n ≡ suc m → position < length nodes → after ≡ before ++ x ∷ [] → x ≡ name_before all (get_or nodes position d).first → next ≡ sibling ends position 1
    → before ++ names_from nodes ends all position n ≡ names → after ++ names_from nodes ends all next m ≡ names
names_step nodes ends all position n m next d before after names x e inside more is there so_far =
    ap (λ (own : List Name). own ++ names_from nodes ends all next m) more
    ∙ append_assoc before (x ∷ []) (names_from nodes ends all next m)
    ∙ ap (λ (name : Name). before ++ (name ∷ names_from nodes ends all next m)) is
    ∙ ap (λ i. before ++ (name_before all (get_or nodes position d).first ∷ names_from nodes ends all i m)) there
    ∙ ap (λ (own : List Name). before ++ own) (sym (names_next nodes ends all position n m d e inside))
    ∙ so_far

-- ---- parts in a list

abbrev names_of : Kinds → List (ℕ × Literal) → List Name
names_of all parts = map (λ (part : ℕ × Literal). name_before all part.0) parts

module _ (nodes : List LiteralNode) (ends : List ℕ) (all : Kinds) (len : length ends ≡ length nodes) (known : AreEnds nodes ends) where
  names_of_parts : (parts : List (ℕ × Literal)) (position : ℕ) → IsAt nodes position (nodes_of_parts parts) → names_from nodes ends all position (length parts) ≡ names_of all parts
  names_of_parts [] position at = refl
  names_of_parts (p ∷ parts) position at =
      let here = at_prefix nodes position (part_nodes p) (nodes_of_parts parts) at in
      let there = at_back nodes position (part_nodes p) (nodes_of_parts parts) at in
      let inside = position_in nodes position p.0 p.1 here in
      let next : sibling ends position 1 ≡ position + length (part_nodes p) = sibling_next ends position 1 0 refl (omega (arith, inside, len)) ∙ known position p.0 p.1 here in
      names_found nodes ends all position (length parts) (own_node p.0 p.1) inside (first_found nodes position _ _ (at_same nodes position _ _ (own_and_parts p.0 p.1) here))
      ∙ ap (λ k. name_before all k ∷ names_from nodes ends all (sibling ends position 1) (length parts)) (own_first p.0 p.1)
      ∙ ap (λ i. name_before all p.0 ∷ names_from nodes ends all i (length parts)) next
      ∙ ap (λ names. name_before all p.0 ∷ names) (names_of_parts parts (position + length (part_nodes p)) there)

-- ---- fields

name_is : (all : Kinds) (k : ℕ) (prefix : Kinds) (x : Name) → IsAt all k (prefix ++ row_start x) → name_before all (k + length (prefix ++ row_start x)) ≡ x
name_is all k prefix x h =
    let back : k + length (prefix ++ row_start x) - 2 ≡ k + length prefix = omega (arith, length-append prefix (row_start x)) in
    ap (λ i. lower_name (slice_get all i)) back
    ∙ ap lower_name (first_found all (k + length prefix) (kinds.Lower x) (mark symbols.Equals) (at_back all k prefix (row_start x) h))

and_name :
    (all : Kinds) (parts : List (ℕ × Literal)) (k : ℕ) (v : Literal) (names : List Name) (x : Name)
    → names_of all parts ≡ names → name_before all k ≡ x → names_of all (parts ++ (k, v) ∷ []) ≡ names ++ x ∷ []
and_name all parts k v names x e f =
    map-append (λ (part : ℕ × Literal). name_before all part.0) parts ((k, v) ∷ [])
    ∙ ap (λ before. before ++ name_before all k ∷ []) e
    ∙ ap (λ name. names ++ name ∷ []) f

names_of_listed : (all : Kinds) (k : ℕ) (rs : FieldRows) → IsAt all k (rows_kinds rs) → names_of all (listed_rows k rs) ≡ names_of_rows rs
names_of_listed all k no_rows h = refl
names_of_listed all k (more_rows rs x v) h =
    let prefix = at_prefix all k (rows_kinds rs ++ row_start x) (literal_kinds v) (at_prefix all k (rows_kinds rs ++ row_start x ++ literal_kinds v) (mark symbols.Semicolon) h) in
    and_name all (listed_rows k rs) (k + length (rows_kinds rs ++ row_start x)) v (names_of_rows rs) x
    (names_of_listed all k rs (at_prefix all k (rows_kinds rs) (row_start x) prefix))
    (name_is all k (rows_kinds rs) x prefix)

names_of_fields :
    (all : Kinds) (k : ℕ) (l : Option ℕ) (o : Option LiteralHead) (rs : FieldRows) (x : Name) (v : Literal) → IsAt all k (literal_kinds (labelled l (fields o rs x v)))
    → names_of all (inner_parts k (labelled l (fields o rs x v))) ≡ names_of_rows rs ++ x ∷ []
names_of_fields all k l o rs x v h =
    let own = k + length (label_kinds l) in
    let start = owner_kinds o ++ mark symbols.OpenBrace in
    let plain = at_back all k (label_kinds l) (plain_kinds (fields o rs x v)) h in
    let prefix = at_prefix all own (start ++ rows_kinds rs ++ row_start x) (literal_kinds v) (at_prefix all own (start ++ rows_kinds rs ++ row_start x ++ literal_kinds v) (mark symbols.CloseBrace) plain) in
    and_name all (listed_rows (own + length start) rs) (own + length (start ++ rows_kinds rs ++ row_start x)) v (names_of_rows rs) x
    (names_of_listed all (own + length start) rs (at_back all own start (rows_kinds rs) (at_prefix all own (start ++ rows_kinds rs) (row_start x) prefix)))
    (name_is all own (start ++ rows_kinds rs) x prefix)

pub field_names_are :
    (nodes : List LiteralNode) (ends : List ℕ) (lexemes : List Lexeme) (at k : ℕ) (l : Option ℕ) (o : Option LiteralHead) (rs : FieldRows) (x : Name) (v : Literal) (d : LiteralNode)
    → length ends ≡ length nodes → AreEnds nodes ends → Stands nodes lexemes at k (labelled l (fields o rs x v))
    → names_from nodes ends (kinds_of lexemes) (at + 1) (get_or nodes at d).parts ≡ names_of_rows rs ++ x ∷ []
field_names_are nodes ends lexemes at k l o rs x v d len known h =
    let w = labelled l (fields o rs x v) in
    let there = at_back nodes at (own_node k w ∷ []) (nodes_of_parts (inner_parts k w)) (at_same nodes at _ _ (own_and_parts k w) h.nodes_at) in
    ap (λ many. names_from nodes ends (kinds_of lexemes) (at + 1) many) (own_parts nodes at k w d h.nodes_at)
    ∙ names_of_parts nodes ends (kinds_of lexemes) len known (inner_parts k w) (at + 1) there
    ∙ names_of_fields (kinds_of lexemes) k l o rs x v h.kinds_at

-- The doubles of consecutive nodes equal the doubles of the parts that have these nodes.
use Rattle.std.proofs.Common.{refl, sym, ap, ◌∙◌, arith, get_or, take, drop, min, subst, inl, inr, ⊎_elim}
use Rattle.std.specs.Prelude.{ℕ, zero, suc, ◌+◌, ◌-◌, ◌<◌, ◌≤◌, ◌≡◌, ◌⊎◌, Option, Some, None, List, [], ◌∷◌, ◌++◌, length, slice_get}
use Rattle.std.proofs.lemmas.List.{take_min, length-drop}
use Rattle.std.proofs.lemmas.Option.{get_or_from_slice_get}
use Rattle.std.proofs.lemmas.List.Sums.{fold-append}
use Rattle.types_lex.specs.declared.lexeme.Lexeme.{Lexeme}
use Rattle.types_lex.specs.declared.lexeme.LexemeKind.TheVariants as kinds
use Rattle.types_lex.specs.declared.lexeme.Symbol.{Symbol}
use Rattle.types_lex.specs.declared.lexeme.Symbol.TheVariants as symbols
use Rattle.types_parse.specs.grammar.Grammar.{Kinds, Name, mark}
use Rattle.text_literal.specs.declared.literal_grammar.literal_node.LiteralNode.{LiteralNode}
use Rattle.text_literal.specs.literal_grammar.Literal.{LiteralHead, Literal, labelled, again, integer, character, string, double, truth, unit, constant, applied, fields, tuple, empty_array, array, Parts, no_parts, more_parts, FieldRows, no_rows, more_rows, label_kinds, owner_kinds, literal_kinds}
use Rattle.types_parse.specs.grammar.LexemeKinds.{kinds_of}
use Rattle.text_literal.specs.literal_grammar.LiteralNodes.{literal_nodes}
use Rattle.text_literal.specs.parser.Starts.{bits_of, and_bits, bits_of_parts, bits_of_rows}
use Rattle.text_literal.specs.parser.Pending.{listed_parts, listed_rows}
use Rattle.text_literal.specs.parser.NodesOf.{nodes_of_parts}
use Rattle.text_literal.specs.parser.Standing.{IsAt, Stands, AreEncoded, own_node, inner_parts}
use Rattle.text_literal.specs.parser.Bits.{double_in, bits_of_node, bits_of_nodes, bits_of_listed}
use Rattle.text_literal.proofs.parser.StandingLemmas.{at_same, at_back, first_found, own_and_parts, literal_encoded}
use Rattle.text_literal.proofs.parser.EndsLemmas.{own_parts}

-- ---- a part that is not a double

pub and_none : (bits : Option (List ℕ)) → and_bits bits None ≡ None
and_none None = refl
and_none (Some all) = refl

pub none_of_nodes : (all : Kinds) (nodes : List LiteralNode) → bits_of_nodes all None nodes ≡ None
none_of_nodes all [] = refl
none_of_nodes all (n ∷ nodes) = none_of_nodes all nodes

pub none_of_listed : (parts : List (ℕ × Literal)) → bits_of_listed None parts ≡ None
none_of_listed [] = refl
none_of_listed (p ∷ parts) = none_of_listed parts

-- ---- several nodes in order

found_first : (nodes : List LiteralNode) (i : ℕ) (n : LiteralNode) → slice_get nodes i ≡ Some n → drop i nodes ≡ n ∷ drop (suc i) nodes
found_first [] zero n e = absurd cc
found_first [] (suc i) n e = absurd cc
found_first (m ∷ nodes) zero n e = let same : m ≡ n = cc in ap (λ own. own ∷ nodes) same
found_first (m ∷ nodes) (suc i) n e = found_first nodes i n e

-- The bits of the remaining nodes are the bits of the next node and of the nodes after the next
-- node.
pub next_bits :
    (all : Kinds) (nodes : List LiteralNode) (from many k : ℕ) (n : LiteralNode) (before : Option (List ℕ)) → k < many → slice_get nodes (from + k) ≡ Some n
    → bits_of_nodes all before (take (many - k) (drop (from + k) nodes))
    ≡ bits_of_nodes all (and_bits before (bits_of_node all n)) (take (many - (k + 1)) (drop (from + (k + 1)) nodes))
next_bits all nodes from many k n before inside found =
    let one : many - k ≡ suc (many - (k + 1)) = omega (arith, inside) in
    let on : suc (from + k) ≡ from + (k + 1) = omega arith in
    ap (λ m. bits_of_nodes all before (take m (drop (from + k) nodes))) one
    ∙ ap (λ (rest : List LiteralNode). bits_of_nodes all before (take (suc (many - (k + 1))) rest)) (found_first nodes (from + k) n found)
    ∙ ap (λ i. bits_of_nodes all (and_bits before (bits_of_node all n)) (take (many - (k + 1)) (drop i nodes))) on

-- If the next node is not a double, then the nodes have no bits.
pub none_here :
    (all : Kinds) (nodes : List LiteralNode) (from many k : ℕ) (n : LiteralNode) (before : List ℕ) (bits : Option (List ℕ)) → k < many → slice_get nodes (from + k) ≡ Some n
    → bits_of_node all n ≡ None → bits_of_nodes all (Some before) (take (many - k) (drop (from + k) nodes)) ≡ bits → None ≡ bits
none_here all nodes from many k n before bits inside found e so_far =
    sym (next_bits all nodes from many k n (Some before) inside found
    ∙ ap (λ bit. bits_of_nodes all (and_bits (Some before) bit) (take (many - (k + 1)) (drop (from + (k + 1)) nodes))) e
    ∙ none_of_nodes all (take (many - (k + 1)) (drop (from + (k + 1)) nodes)))
    ∙ so_far

-- If the next node is a double, then the bits grow by the bits of this double.
pub one_here :
    (all : Kinds) (nodes : List LiteralNode) (from many k d : ℕ) (n : LiteralNode) (before after : List ℕ) (bits : Option (List ℕ)) → k < many → slice_get nodes (from + k) ≡ Some n
    → bits_of_node all n ≡ Some d → after ≡ before ++ d ∷ [] → bits_of_nodes all (Some before) (take (many - k) (drop (from + k) nodes)) ≡ bits
    → bits_of_nodes all (Some after) (take (many - (k + 1)) (drop (from + (k + 1)) nodes)) ≡ bits
one_here all nodes from many k d n before after bits inside found e is so_far =
    ap (λ (own : List ℕ). bits_of_nodes all (Some own) (take (many - (k + 1)) (drop (from + (k + 1)) nodes))) is
    ∙ sym (next_bits all nodes from many k n (Some before) inside found
    ∙ ap (λ bit. bits_of_nodes all (and_bits (Some before) bit) (take (many - (k + 1)) (drop (from + (k + 1)) nodes))) e)
    ∙ so_far

pub none_left :
    (all : Kinds) (nodes : List LiteralNode) (from many k : ℕ) (own : List ℕ) (bits : Option (List ℕ)) → many ≤ k
    → bits_of_nodes all (Some own) (take (many - k) (drop (from + k) nodes)) ≡ bits → Some own ≡ bits
none_left all nodes from many k own bits done so_far =
    let none : many - k ≡ 0 = omega (arith, done) in
    sym (ap (λ m. bits_of_nodes all (Some own) (take m (drop (from + k) nodes))) none) ∙ so_far

-- ---- one node

-- The literal is a double without a label.
abbrev IsDouble : Literal → Type 0
IsDouble v = (d : ℕ) × (v ≡ labelled None (double d))

abbrev HasNoBits : Kinds → ℕ → Literal → Type 0
HasNoBits all k v = (bits_of v ≡ None) × (bits_of_node all (own_node k v) ≡ None)

double_or_not : (all : Kinds) (k : ℕ) (v : Literal) → IsDouble v ⊎ HasNoBits all k v
double_or_not all k (again n) = inr (refl, refl)
double_or_not all k (labelled (Some n) p) = inr (refl, refl)
double_or_not all k (labelled None (double d)) = inl (d, refl)
double_or_not all k (labelled None (integer i)) = inr (refl, refl)
double_or_not all k (labelled None (character c)) = inr (refl, refl)
double_or_not all k (labelled None (string s)) = inr (refl, refl)
double_or_not all k (labelled None (truth b)) = inr (refl, refl)
double_or_not all k (labelled None unit) = inr (refl, refl)
double_or_not all k (labelled None (constant h)) = inr (refl, refl)
double_or_not all k (labelled None (applied h ps v)) = inr (refl, refl)
double_or_not all k (labelled None (fields o rs x v)) = inr (refl, refl)
double_or_not all k (labelled None (tuple ps u v)) = inr (refl, refl)
double_or_not all k (labelled None empty_array) = inr (refl, refl)
double_or_not all k (labelled None (array ps v)) = inr (refl, refl)

module _ (all : Kinds) (k : ℕ) (parts : List (ℕ × Literal)) (rest : List LiteralNode) (before : Option (List ℕ)) where
  -- The bits of the nodes from the first part on.
  abbrev of_nodes : Literal → Option (List ℕ)
  of_nodes v = bits_of_nodes all before (take (suc (length parts)) (literal_nodes k v ++ nodes_of_parts parts ++ rest))

  abbrev of_parts : Literal → Option (List ℕ)
  of_parts v = bits_of_listed (and_bits before (bits_of v)) parts

  at_double :
      (d : ℕ) → IsAt all k (literal_kinds (labelled None (double d)))
      → (bits_of_nodes all (and_bits before (Some d)) (take (length parts) (nodes_of_parts parts ++ rest)) ≡ bits_of_listed (and_bits before (Some d)) parts)
      → of_nodes (labelled None (double d)) ≡ of_parts (labelled None (double d))
  at_double d here more =
      ap (λ kind. bits_of_nodes all (and_bits before (double_in kind)) (take (length parts) (nodes_of_parts parts ++ rest))) (first_found all k (kinds.Double d) [] here)
      ∙ more

  at_other : (v : Literal) → HasNoBits all k v → of_nodes v ≡ of_parts v
  at_other v none =
      ap (λ (own : List LiteralNode). bits_of_nodes all before (take (suc (length parts)) (own ++ nodes_of_parts parts ++ rest))) (own_and_parts k v)
      ∙ ap (λ bit. bits_of_nodes all (and_bits before bit) (take (length parts) (nodes_of_parts (inner_parts k v) ++ nodes_of_parts parts ++ rest))) none.1
      ∙ ap (λ bits. bits_of_nodes all bits (take (length parts) (nodes_of_parts (inner_parts k v) ++ nodes_of_parts parts ++ rest))) (and_none before)
      ∙ none_of_nodes all (take (length parts) (nodes_of_parts (inner_parts k v) ++ nodes_of_parts parts ++ rest))
      ∙ sym (ap (λ bit. bits_of_listed (and_bits before bit) parts) none.0 ∙ ap (λ bits. bits_of_listed bits parts) (and_none before) ∙ none_of_listed parts)

  at_any :
      (v : Literal) → IsAt all k (literal_kinds v)
      → ((d : ℕ) → bits_of_nodes all (and_bits before (Some d)) (take (length parts) (nodes_of_parts parts ++ rest)) ≡ bits_of_listed (and_bits before (Some d)) parts)
      → of_nodes v ≡ of_parts v
  at_any v here more =
      ⊎_elim
      (λ (is : IsDouble v).
      let P : Literal → Type 0 = λ w. IsAt all k (literal_kinds w) → of_nodes w ≡ of_parts w in
      subst P (sym is.1) (λ (there : IsAt all k (literal_kinds (labelled None (double is.0)))). at_double is.0 there (more is.0)) here)
      (λ (none : HasNoBits all k v). at_other v none)
      (double_or_not all k v)

pub bits_same :
    (all : Kinds) (parts : List (ℕ × Literal)) (rest : List LiteralNode) (before : Option (List ℕ)) → AreEncoded all parts
    → bits_of_nodes all before (take (length parts) (nodes_of_parts parts ++ rest)) ≡ bits_of_listed before parts
bits_same all [] rest before encoded = refl
bits_same all (p ∷ parts) rest before encoded =
    at_any all p.0 parts rest before p.1 encoded.0 (λ d. bits_same all parts rest (and_bits before (Some d)) encoded.1)

-- ---- the parts of a literal

pub parts_bits :
    (nodes : List LiteralNode) (lexemes : List Lexeme) (at k : ℕ) (v : Literal) (n : LiteralNode) (many : ℕ) → Stands nodes lexemes at k v
    → slice_get nodes at ≡ Some n → many ≡ min n.parts (length nodes - (at + 1))
    → bits_of_nodes (kinds_of lexemes) (Some []) (take many (drop (at + 1) nodes)) ≡ bits_of_listed (Some []) (inner_parts k v)
parts_bits nodes lexemes at k v n many h found e =
    let there = at_back nodes at (own_node k v ∷ []) (nodes_of_parts (inner_parts k v)) (at_same nodes at _ _ (own_and_parts k v) h.nodes_at) in
    let own : get_or nodes at n ≡ n = get_or_from_slice_get nodes at n n found in
    ap (λ m. bits_of_nodes (kinds_of lexemes) (Some []) (take m (drop (at + 1) nodes))) (e ∙ ap (λ m. min n.parts m) (sym (length-drop (at + 1) nodes)))
    ∙ ap (λ (ns : List LiteralNode). bits_of_nodes (kinds_of lexemes) (Some []) ns) (take_min n.parts (drop (at + 1) nodes))
    ∙ ap (λ (own : LiteralNode). bits_of_nodes (kinds_of lexemes) (Some []) (take own.parts (drop (at + 1) nodes))) (sym own)
    ∙ ap (λ many. bits_of_nodes (kinds_of lexemes) (Some []) (take many (drop (at + 1) nodes))) (own_parts nodes at k v n h.nodes_at)
    ∙ ap (λ (ns : List LiteralNode). bits_of_nodes (kinds_of lexemes) (Some []) (take (length (inner_parts k v)) ns)) there.is
    ∙ bits_same (kinds_of lexemes) (inner_parts k v) there.rest (Some []) (literal_encoded (kinds_of lexemes) k v h.kinds_at)

one_more : (xs : List (ℕ × Literal)) (k : ℕ) (v : Literal) (bits : Option (List ℕ)) → bits_of_listed (Some []) xs ≡ bits → bits_of_listed (Some []) (xs ++ (k, v) ∷ []) ≡ and_bits bits (bits_of v)
one_more xs k v bits e =
    fold-append (λ all (part : ℕ × Literal). and_bits all (bits_of part.1)) (Some []) xs ((k, v) ∷ [])
    ∙ ap (λ all. and_bits all (bits_of v)) e

listed_bits : (separator : Symbol) (k : ℕ) (ps : Parts) → bits_of_listed (Some []) (listed_parts separator k ps) ≡ bits_of_parts ps
listed_bits separator k no_parts = refl
listed_bits separator k (more_parts ps v) = one_more (listed_parts separator k ps) _ v (bits_of_parts ps) (listed_bits separator k ps)

listed_row_bits : (k : ℕ) (rs : FieldRows) → bits_of_listed (Some []) (listed_rows k rs) ≡ bits_of_rows rs
listed_row_bits k no_rows = refl
listed_row_bits k (more_rows rs x v) = one_more (listed_rows k rs) _ v (bits_of_rows rs) (listed_row_bits k rs)

pub array_bits : (k : ℕ) (l : Option ℕ) (ps : Parts) (v : Literal) → bits_of_listed (Some []) (inner_parts k (labelled l (array ps v))) ≡ and_bits (bits_of_parts ps) (bits_of v)
array_bits k l ps v = one_more (listed_parts symbols.Semicolon (k + length (label_kinds l) + 1) ps) _ v (bits_of_parts ps) (listed_bits symbols.Semicolon _ ps)

pub record_bits :
    (k : ℕ) (l : Option ℕ) (o : Option LiteralHead) (rs : FieldRows) (x : Name) (v : Literal)
    → bits_of_listed (Some []) (inner_parts k (labelled l (fields o rs x v))) ≡ and_bits (bits_of_rows rs) (bits_of v)
record_bits k l o rs x v =
    one_more (listed_rows (k + length (label_kinds l) + length (owner_kinds o ++ mark symbols.OpenBrace)) rs) _ v (bits_of_rows rs) (listed_row_bits _ rs)

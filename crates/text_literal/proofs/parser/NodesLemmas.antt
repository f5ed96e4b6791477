-- The nodes of a plain literal are the literal's own node and the nodes of the literal's parts.
use Rattle.std.proofs.Common.{arith, refl, sym, ap, ◌∙◌}
use Rattle.std.specs.Prelude.{ℕ, suc, ◌+◌, ◌≡◌, Option, List, [], ◌∷◌, ◌++◌, length}
use Rattle.std.proofs.lemmas.List.{append_assoc, append-nil, length-append}
use Rattle.types_lex.specs.declared.lexeme.Symbol.{Symbol}
use Rattle.types_lex.specs.declared.lexeme.Symbol.TheVariants as symbols
use Rattle.types_parse.specs.grammar.Grammar.{Kinds, mark}
use Rattle.text_literal.specs.declared.literal_grammar.literal_node.NodeForm.{NodeForm}
use Rattle.text_literal.specs.declared.literal_grammar.literal_node.NodeForm.TheVariants as forms
use Rattle.text_literal.specs.declared.literal_grammar.literal_node.LiteralNode.{LiteralNode}
use Rattle.text_literal.specs.literal_grammar.Literal.{Literal, Plain, integer, character, string, double, truth, unit, constant, applied, fields, tuple, empty_array, array, Parts, no_parts, more_parts, FieldRows, no_rows, more_rows, label_kinds, head_kinds, owner_kinds, row_start, literal_kinds, parts_kinds, rows_kinds}
use Rattle.text_literal.specs.literal_grammar.LiteralNodes.{node, count, rows_count, literal_nodes, plain_nodes, parts_nodes, rows_nodes}
use Rattle.text_literal.specs.parser.Pending.{listed_parts, listed_rows, parts_of}
use Rattle.text_literal.specs.parser.NodesOf.{form_of, part_nodes, nodes_of_parts}

-- ---- lists of parts

nodes_append : (xs ys : List (ℕ × Literal)) → nodes_of_parts (xs ++ ys) ≡ nodes_of_parts xs ++ nodes_of_parts ys
nodes_append [] ys = refl
nodes_append (x ∷ xs) ys = ap (λ all. part_nodes x ++ all) (nodes_append xs ys) ∙ sym (append_assoc (part_nodes x) (nodes_of_parts xs) (nodes_of_parts ys))

-- If a part is appended to a list of parts, then the part's nodes are appended to the list's nodes.
and_last : (xs : List (ℕ × Literal)) (k j : ℕ) (v : Literal) → k ≡ j → nodes_of_parts (xs ++ (k, v) ∷ []) ≡ nodes_of_parts xs ++ literal_nodes j v
and_last xs k j v same = nodes_append xs ((k, v) ∷ []) ∙ ap (λ all. nodes_of_parts xs ++ all) (append-nil (literal_nodes k v)) ∙ ap (λ n. nodes_of_parts xs ++ literal_nodes n v) same

parts_listed : (separator : Symbol) (k : ℕ) (ps : Parts) → nodes_of_parts (listed_parts separator k ps) ≡ parts_nodes separator k ps
parts_listed separator k no_parts = refl
parts_listed separator k (more_parts ps v) =
    and_last (listed_parts separator k ps) (k + length (parts_kinds separator ps)) _ v refl
    ∙ ap (λ all. all ++ literal_nodes (k + length (parts_kinds separator ps)) v) (parts_listed separator k ps)

rows_listed : (k : ℕ) (rs : FieldRows) → nodes_of_parts (listed_rows k rs) ≡ rows_nodes k rs
rows_listed k no_rows = refl
rows_listed k (more_rows rs x v) =
    and_last (listed_rows k rs) (k + length (rows_kinds rs ++ row_start x)) _ v refl
    ∙ ap (λ all. all ++ literal_nodes (k + length (rows_kinds rs ++ row_start x)) v) (rows_listed k rs)

pub count_parts : (separator : Symbol) (k : ℕ) (ps : Parts) → length (listed_parts separator k ps) ≡ count ps
count_parts separator k no_parts = refl
count_parts separator k (more_parts ps v) =
    omega (arith, length-append (listed_parts separator k ps) ((k + length (parts_kinds separator ps), v) ∷ []), count_parts separator k ps)

pub count_rows : (k : ℕ) (rs : FieldRows) → length (listed_rows k rs) ≡ rows_count rs
count_rows k no_rows = refl
count_rows k (more_rows rs x v) =
    omega (arith, length-append (listed_rows k rs) ((k + length (rows_kinds rs ++ row_start x), v) ∷ []), count_rows k rs)

-- The index of a lexeme after two lists of lexemes is the index after the concatenation of the
-- lists.
moved : (k : ℕ) (prefix rest : Kinds) → k + length prefix + length rest ≡ k + length (prefix ++ rest)
moved k prefix rest = omega (arith, length-append prefix rest)

-- The index of a lexeme after a prefix, a parenthesis and a list is the index after their
-- concatenation.
tuple_last : (k : ℕ) (prefix rest : Kinds) → k + length prefix + 1 + length rest ≡ k + length (prefix ++ (mark symbols.OpenParen ++ rest))
tuple_last k prefix rest = omega (arith, length-append prefix (mark symbols.OpenParen ++ rest), length-append (mark symbols.OpenParen) rest)

array_last : (k : ℕ) (prefix rest : Kinds) → k + length prefix + 1 + length rest ≡ k + length (prefix ++ (mark symbols.OpenArray ++ rest))
array_last k prefix rest = omega (arith, length-append prefix (mark symbols.OpenArray ++ rest), length-append (mark symbols.OpenArray) rest)

-- ---- a plain literal

listed_last :
    (separator : Symbol) (j k : ℕ) (ps : Parts) (m n : ℕ) (v : Literal) → j ≡ k → m ≡ n
    → nodes_of_parts (listed_parts separator j ps ++ (m, v) ∷ []) ≡ parts_nodes separator k ps ++ literal_nodes n v
listed_last separator j k ps m n v same last =
    and_last (listed_parts separator j ps) m n v last
    ∙ ap (λ all. all ++ literal_nodes n v) (parts_listed separator j ps)
    ∙ ap (λ i. parts_nodes separator i ps ++ literal_nodes n v) same

rows_last : (j k : ℕ) (rs : FieldRows) (m n : ℕ) (v : Literal) → j ≡ k → m ≡ n → nodes_of_parts (listed_rows j rs ++ (m, v) ∷ []) ≡ rows_nodes k rs ++ literal_nodes n v
rows_last j k rs m n v same last =
    and_last (listed_rows j rs) m n v last
    ∙ ap (λ all. all ++ literal_nodes n v) (rows_listed j rs)
    ∙ ap (λ i. rows_nodes i rs ++ literal_nodes n v) same

one_more : (xs : List (ℕ × Literal)) (n : ℕ) (x : ℕ × Literal) → length xs ≡ n → suc n ≡ length (xs ++ x ∷ [])
one_more xs n x e = omega (arith, length-append xs (x ∷ []), e)

row_of : (form : NodeForm) (l : Option ℕ) (k n m : ℕ) (xs ys : List LiteralNode) → n ≡ m → ys ≡ xs → node form l k n ∷ xs ≡ node form l k m ∷ ys
row_of form l k n m xs ys e f = ap (λ i. node form l k i ∷ xs) e ∙ ap (λ all. node form l k m ∷ all) (sym f)

pub parts_of_plain : (k : ℕ) (l : Option ℕ) (p : Plain)
    → plain_nodes k l p ≡ node (form_of p) l k (length (parts_of (k + length (label_kinds l)) p)) ∷ nodes_of_parts (parts_of (k + length (label_kinds l)) p)
parts_of_plain k l (integer i) = refl
parts_of_plain k l (character c) = refl
parts_of_plain k l (string s) = refl
parts_of_plain k l (double d) = refl
parts_of_plain k l (truth b) = refl
parts_of_plain k l unit = refl
parts_of_plain k l (constant h) = refl
parts_of_plain k l empty_array = refl
parts_of_plain k l (applied h ps v) =
    row_of forms.Named l k _ _ _ _ (one_more (listed_parts symbols.Comma _ ps) (count ps) (_, v) (count_parts symbols.Comma _ ps))
    (listed_last symbols.Comma _ _ ps _ _ v (moved k (label_kinds l) (head_kinds h ++ mark symbols.OpenParen)) (moved k (label_kinds l) (head_kinds h ++ mark symbols.OpenParen ++ parts_kinds symbols.Comma ps)))
parts_of_plain k l (fields o rs x v) =
    row_of forms.Fields l k _ _ _ _ (one_more (listed_rows _ rs) (rows_count rs) (_, v) (count_rows _ rs))
    (rows_last _ _ rs _ _ v (moved k (label_kinds l) (owner_kinds o ++ mark symbols.OpenBrace)) (moved k (label_kinds l) (owner_kinds o ++ mark symbols.OpenBrace ++ rows_kinds rs ++ row_start x)))
parts_of_plain k l (tuple ps u v) =
    row_of forms.Tuple l k _ _ _ _
    (one_more (listed_parts symbols.Comma _ ps ++ (_, u) ∷ []) (suc (count ps)) (_, v) (sym (one_more (listed_parts symbols.Comma _ ps) (count ps) (_, u) (count_parts symbols.Comma _ ps))))
    (and_last (listed_parts symbols.Comma _ ps ++ (_, u) ∷ []) _ _ v (tuple_last k (label_kinds l) (parts_kinds symbols.Comma ps ++ literal_kinds u ++ mark symbols.Comma))
    ∙ ap (λ all. all ++ literal_nodes (k + length (label_kinds l ++ (mark symbols.OpenParen ++ (parts_kinds symbols.Comma ps ++ literal_kinds u ++ mark symbols.Comma)))) v)
    (listed_last symbols.Comma _ _ ps _ _ u (moved k (label_kinds l) (mark symbols.OpenParen)) (ap (λ n. n + length (parts_kinds symbols.Comma ps)) (moved k (label_kinds l) (mark symbols.OpenParen)))))
parts_of_plain k l (array ps v) =
    row_of forms.Array l k _ _ _ _ (one_more (listed_parts symbols.Semicolon _ ps) (count ps) (_, v) (count_parts symbols.Semicolon _ ps))
    (listed_last symbols.Semicolon _ _ ps _ _ v (moved k (label_kinds l) (mark symbols.OpenArray)) (array_last k (label_kinds l) (parts_kinds symbols.Semicolon ps)))

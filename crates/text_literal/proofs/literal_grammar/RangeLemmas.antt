-- The first lexeme of each node of a literal is one of the literal's own lexemes.
use Rattle.std.proofs.Common.{ℕ, ◌+◌, ◌≤◌, ◌<◌, List, [], ◌∷◌, ◌++◌, length, Option, arith, length-append}
use Rattle.types_lex.specs.declared.lexeme.Symbol.{Symbol}
use Rattle.types_lex.specs.declared.lexeme.Symbol.TheVariants as symbols
use Rattle.types_parse.specs.grammar.Grammar.{Kinds, mark}
use Rattle.text_literal.specs.declared.literal_grammar.literal_node.LiteralNode.{LiteralNode}
use Rattle.text_literal.specs.literal_grammar.Literal.{LiteralHead, upper_head, tag_head, cons_head, empty_head, ref_head, Literal, labelled, again, Plain, integer, character, string, double, truth, unit, constant, applied, fields, tuple, empty_array, array, Parts, no_parts, more_parts, FieldRows, no_rows, more_rows, label_kinds, head_kinds, owner_kinds, row_start, literal_kinds, plain_kinds, parts_kinds, rows_kinds}
use Rattle.text_literal.specs.literal_grammar.LiteralNodes.{FirstsBelow, literal_nodes, plain_nodes, parts_nodes, rows_nodes}

both : (m : ℕ) (xs ys : List LiteralNode) → FirstsBelow m xs → FirstsBelow m ys → FirstsBelow m (xs ++ ys)
both m [] ys h k = k
both m (x ∷ xs) ys h k = (h.0, both m xs ys h.1 k)

head_long : (h : LiteralHead) → 0 < length (head_kinds h)
head_long (upper_head x) = omega arith
head_long (tag_head x) = omega arith
head_long cons_head = omega arith
head_long empty_head = omega arith
head_long ref_head = omega arith

module _ (k m : ℕ) (L A R V C : Kinds) (fits : k + length L + length (A ++ R ++ V ++ C) ≤ m) where
  row_fits : k + length (L ++ A) + length R ≤ m
  row_fits = omega (arith, fits, length-append L A, length-append A R, length-append (A ++ R) V, length-append (A ++ R ++ V) C)

  last_fits : k + length (L ++ (A ++ R)) + length V ≤ m
  last_fits = omega (arith, fits, length-append L (A ++ R), length-append A R, length-append (A ++ R) V, length-append (A ++ R ++ V) C)

  own_fits : 0 < length C → k < m
  own_fits h = omega (arith, fits, length-append (A ++ R ++ V) C)

module _ (k m : ℕ) (R V C : Kinds) (fits : k + length (R ++ V ++ C) ≤ m) where
  before_fits : k + length R ≤ m
  before_fits = omega (arith, fits, length-append R V, length-append (R ++ V) C)

  after_fits : k + length R + length V ≤ m
  after_fits = omega (arith, fits, length-append R V, length-append (R ++ V) C)

shorter : (k m : ℕ) (R S : Kinds) → k + length (R ++ S) ≤ m → k + length R ≤ m
shorter k m R S h = omega (arith, h, length-append R S)

rows_fit : (k m : ℕ) (L A R S : Kinds) → k + length (L ++ (A ++ R)) + length S ≤ m → k + length (L ++ A) + length R ≤ m
rows_fit k m L A R S h = omega (arith, h, length-append L (A ++ R), length-append A R, length-append L A)

split : (k m : ℕ) (L P : Kinds) → k + length (L ++ P) ≤ m → k + length L + length P ≤ m
split k m L P h = omega (arith, h, length-append L P)

mutual
  literal_in : (v : Literal) (k m : ℕ) → k + length (literal_kinds v) ≤ m → FirstsBelow m (literal_nodes k v)
  literal_in (again n) k m h = (omega (arith, h), tt)
  literal_in (labelled l p) k m h = plain_in p l k m (split k m (label_kinds l) (plain_kinds p) h)

  plain_in : (p : Plain) (l : Option ℕ) (k m : ℕ) → k + length (label_kinds l) + length (plain_kinds p) ≤ m → FirstsBelow m (plain_nodes k l p)
  plain_in (integer i) l k m h = (omega (arith, h), tt)
  plain_in (character c) l k m h = (omega (arith, h), tt)
  plain_in (string s) l k m h = (omega (arith, h), tt)
  plain_in (double d) l k m h = (omega (arith, h), tt)
  plain_in (truth b) l k m h = (omega (arith, h), tt)
  plain_in unit l k m h = (omega (arith, h), tt)
  plain_in (constant c) l k m h = (omega (arith, h, head_long c), tt)
  plain_in (applied c ps v) l k m h = (
    own_fits k m (label_kinds l) (head_kinds c ++ mark symbols.OpenParen) (parts_kinds symbols.Comma ps) (literal_kinds v) (mark symbols.CloseParen) h (omega arith),
    both m _ _
        (parts_in ps symbols.Comma _ m (row_fits k m (label_kinds l) (head_kinds c ++ mark symbols.OpenParen) (parts_kinds symbols.Comma ps) (literal_kinds v) (mark symbols.CloseParen) h))
        (literal_in v _ m (last_fits k m (label_kinds l) (head_kinds c ++ mark symbols.OpenParen) (parts_kinds symbols.Comma ps) (literal_kinds v) (mark symbols.CloseParen) h)),
  )
  plain_in (fields o rs x v) l k m h = (
    own_fits k m (label_kinds l) (owner_kinds o ++ mark symbols.OpenBrace ++ rows_kinds rs) (row_start x) (literal_kinds v) (mark symbols.CloseBrace) h (omega arith),
    both m _ _
        (rows_in rs _ m (rows_fit k m (label_kinds l) (owner_kinds o ++ mark symbols.OpenBrace) (rows_kinds rs) (row_start x)
        (row_fits k m (label_kinds l) (owner_kinds o ++ mark symbols.OpenBrace ++ rows_kinds rs) (row_start x) (literal_kinds v) (mark symbols.CloseBrace) h)))
        (literal_in v _ m (last_fits k m (label_kinds l) (owner_kinds o ++ mark symbols.OpenBrace ++ rows_kinds rs) (row_start x) (literal_kinds v) (mark symbols.CloseBrace) h)),
  )
  plain_in (tuple ps u v) l k m h = (
    own_fits k m (label_kinds l) (mark symbols.OpenParen) (parts_kinds symbols.Comma ps ++ literal_kinds u ++ mark symbols.Comma) (literal_kinds v) (mark symbols.CloseParen) h (omega arith),
    both m _ _
        (both m _ _
        (parts_in ps symbols.Comma _ m (before_fits _ m (parts_kinds symbols.Comma ps) (literal_kinds u) (mark symbols.Comma)
        (row_fits k m (label_kinds l) (mark symbols.OpenParen) (parts_kinds symbols.Comma ps ++ literal_kinds u ++ mark symbols.Comma) (literal_kinds v) (mark symbols.CloseParen) h)))
        (literal_in u _ m (after_fits _ m (parts_kinds symbols.Comma ps) (literal_kinds u) (mark symbols.Comma)
        (row_fits k m (label_kinds l) (mark symbols.OpenParen) (parts_kinds symbols.Comma ps ++ literal_kinds u ++ mark symbols.Comma) (literal_kinds v) (mark symbols.CloseParen) h))))
        (literal_in v _ m (last_fits k m (label_kinds l) (mark symbols.OpenParen) (parts_kinds symbols.Comma ps ++ literal_kinds u ++ mark symbols.Comma) (literal_kinds v) (mark symbols.CloseParen) h)),
  )
  plain_in empty_array l k m h = (omega (arith, h), tt)
  plain_in (array ps v) l k m h = (
    own_fits k m (label_kinds l) (mark symbols.OpenArray) (parts_kinds symbols.Semicolon ps) (literal_kinds v) (mark symbols.CloseArray) h (omega arith),
    both m _ _
        (parts_in ps symbols.Semicolon _ m (row_fits k m (label_kinds l) (mark symbols.OpenArray) (parts_kinds symbols.Semicolon ps) (literal_kinds v) (mark symbols.CloseArray) h))
        (literal_in v _ m (last_fits k m (label_kinds l) (mark symbols.OpenArray) (parts_kinds symbols.Semicolon ps) (literal_kinds v) (mark symbols.CloseArray) h)),
  )

  parts_in : (ps : Parts) (separator : Symbol) (k m : ℕ) → k + length (parts_kinds separator ps) ≤ m → FirstsBelow m (parts_nodes separator k ps)
  parts_in no_parts separator k m h = tt
  parts_in (more_parts ps v) separator k m h =
      both m _ _ (parts_in ps separator k m (before_fits k m (parts_kinds separator ps) (literal_kinds v) (mark separator) h))
      (literal_in v _ m (after_fits k m (parts_kinds separator ps) (literal_kinds v) (mark separator) h))

  rows_in : (rs : FieldRows) (k m : ℕ) → k + length (rows_kinds rs) ≤ m → FirstsBelow m (rows_nodes k rs)
  rows_in no_rows k m h = tt
  rows_in (more_rows rs x v) k m h =
      both m _ _ (rows_in rs k m (shorter k m (rows_kinds rs) (row_start x) (before_fits k m (rows_kinds rs ++ row_start x) (literal_kinds v) (mark symbols.Semicolon) h)))
      (literal_in v _ m (after_fits k m (rows_kinds rs ++ row_start x) (literal_kinds v) (mark symbols.Semicolon) h))

pub firsts_in : (v : Literal) → FirstsBelow (length (literal_kinds v)) (literal_nodes 0 v)
firsts_in v = literal_in v 0 (length (literal_kinds v)) (omega arith)

-- The lexemes of a literal lead the parsing table to a state that has read the literal.
use Rattle.std.proofs.Common.{ℕ, ◌≡◌, true, false, List, [], ◌∷◌, ◌++◌, Option, Some, None, refl}
use Rattle.types_lex.specs.declared.lexeme.LexemeKind.{LexemeKind}
use Rattle.types_lex.specs.declared.lexeme.LexemeKind.TheVariants as kinds
use Rattle.types_lex.specs.declared.lexeme.Symbol.{Symbol}
use Rattle.types_lex.specs.declared.lexeme.Symbol.TheVariants as symbols
use Rattle.types_parse.specs.grammar.Grammar.{Name, Kinds, mark}
use Rattle.text_literal.specs.literal_grammar.Literal.{LiteralHead, upper_head, tag_head, cons_head, empty_head, ref_head, Literal, labelled, again, Plain, integer, character, string, double, truth, unit, constant, applied, fields, tuple, empty_array, array, Parts, no_parts, more_parts, FieldRows, no_rows, more_rows, label_kinds, head_kinds, owner_kinds, row_start, literal_kinds, plain_kinds, parts_kinds, rows_kinds}
use Rattle.text_literal.specs.literal_grammar.LiteralMachine.{LiteralFrame, in_arguments, in_parens, in_array, in_fields, due, number_read, plain_due, head_read, field_due, whole, LiteralState, at, begin_plain, close, after_number, after_head, step}

-- Reading the lexemes leads the parsing table from the first state to the second state.
pub data Goes : LiteralState → Kinds → LiteralState → Type 0 where
  stay : {s : LiteralState} → Goes s [] s
  go_on : {s next t : LiteralState} {kind : LexemeKind} {rest : Kinds} → step s kind ≡ Some next → Goes next rest t → Goes s (kind ∷ rest) t

onward : {s m t : LiteralState} {xs ys : Kinds} → Goes s xs m → Goes m ys t → Goes s (xs ++ ys) t
onward stay q = q
onward (go_on h p) q = go_on h (onward p q)

one_more : {s t : LiteralState} {kind : LexemeKind} → step s kind ≡ Some t → Goes s (kind ∷ []) t
one_more h = go_on h stay

-- ---- the states before and after a literal

abbrev start_plain : Option ℕ → List LiteralFrame → LiteralState
start_plain None fs = at fs due
start_plain (Some k) fs = at fs (plain_due k)

abbrev pub read_in : List LiteralFrame → Literal → LiteralState
read_in fs (again k) = at fs (number_read k)
read_in fs (labelled l (constant h)) = at fs (head_read l h)
read_in fs (labelled l p) = at fs (whole (labelled l p))

first_step : (l : Option ℕ) (fs : List LiteralFrame) (kind : LexemeKind) (n : LiteralState) → begin_plain fs l kind ≡ Some n → step (start_plain l fs) kind ≡ Some n
first_step (Some k) fs kind n h = h
first_step None fs (kinds.Symbol symbols.Hash) n h = absurd (cc)
first_step None fs (kinds.Symbol symbols.CloseParen) n h = absurd (cc)
first_step None fs (kinds.Symbol symbols.CloseArray) n h = absurd (cc)
first_step None fs kind n h = h

begins : (l : Option ℕ) (fs : List LiteralFrame) (kind : LexemeKind) (n : LiteralState) → begin_plain fs l kind ≡ Some n → Goes (start_plain l fs) (kind ∷ []) n
begins l fs kind n h = one_more (first_step l fs kind n h)

-- If a lexeme does not continue a literal, then the lexeme closes the literal.
closing : (v : Literal) (fs : List LiteralFrame) (kind : LexemeKind) → ((k : ℕ) → after_number fs k kind ≡ close fs (again k) kind)
    → ((l : Option ℕ) (h : LiteralHead) → after_head fs l h kind ≡ close fs (labelled l (constant h)) kind) → step (read_in fs v) kind ≡ close fs v kind
closing (again k) fs kind a b = a k
closing (labelled l (constant h)) fs kind a b = b l h
closing (labelled l p) fs kind a b = refl

comma_next : (v : Literal) (fs : List LiteralFrame) → step (read_in fs v) (kinds.Symbol symbols.Comma) ≡ close fs v (kinds.Symbol symbols.Comma)
comma_next v fs = closing v fs (kinds.Symbol symbols.Comma) (λ k. refl) (λ l h. refl)

paren_next : (v : Literal) (fs : List LiteralFrame) → step (read_in fs v) (kinds.Symbol symbols.CloseParen) ≡ close fs v (kinds.Symbol symbols.CloseParen)
paren_next v fs = closing v fs (kinds.Symbol symbols.CloseParen) (λ k. refl) (λ l h. refl)

semicolon_next : (v : Literal) (fs : List LiteralFrame) → step (read_in fs v) (kinds.Symbol symbols.Semicolon) ≡ close fs v (kinds.Symbol symbols.Semicolon)
semicolon_next v fs = closing v fs (kinds.Symbol symbols.Semicolon) (λ k. refl) (λ l h. refl)

array_next : (v : Literal) (fs : List LiteralFrame) → step (read_in fs v) (kinds.Symbol symbols.CloseArray) ≡ close fs v (kinds.Symbol symbols.CloseArray)
array_next v fs = closing v fs (kinds.Symbol symbols.CloseArray) (λ k. refl) (λ l h. refl)

brace_next : (v : Literal) (fs : List LiteralFrame) → step (read_in fs v) (kinds.Symbol symbols.CloseBrace) ≡ close fs v (kinds.Symbol symbols.CloseBrace)
brace_next v fs = closing v fs (kinds.Symbol symbols.CloseBrace) (λ k. refl) (λ l h. refl)

-- ---- the beginning of a literal

label_goes : (l : Option ℕ) (fs : List LiteralFrame) → Goes (at fs due) (label_kinds l) (start_plain l fs)
label_goes None fs = stay
label_goes (Some k) fs = go_on refl (go_on refl (one_more refl))

head_goes : (h : LiteralHead) (l : Option ℕ) (fs : List LiteralFrame) → Goes (start_plain l fs) (head_kinds h) (at fs (head_read l h))
head_goes (upper_head x) l fs = begins l fs _ _ refl
head_goes (tag_head x) l fs = begins l fs _ _ refl
head_goes cons_head l fs = begins l fs _ _ refl
head_goes empty_head l fs = onward (begins l fs _ _ refl) (one_more refl)
head_goes ref_head l fs = begins l fs _ _ refl

owner_goes : (o : Option LiteralHead) (l : Option ℕ) (fs : List LiteralFrame) → Goes (start_plain l fs) (owner_kinds o ++ mark symbols.OpenBrace) (at fs (field_due l o no_rows))
owner_goes None l fs = begins l fs _ _ refl
owner_goes (Some h) l fs = onward (head_goes h l fs) (one_more refl)

row_goes : (l : Option ℕ) (o : Option LiteralHead) (rs : FieldRows) (x : Name) (fs : List LiteralFrame) → Goes (at fs (field_due l o rs)) (row_start x) (at (in_fields l o rs x ∷ fs) due)
row_goes l o rs x fs = go_on refl (one_more refl)

-- ---- literals

mutual
  pub literal_goes : (v : Literal) (fs : List LiteralFrame) → Goes (at fs due) (literal_kinds v) (read_in fs v)
  literal_goes (again k) fs = go_on refl (one_more refl)
  literal_goes (labelled l p) fs = onward (label_goes l fs) (plain_goes p l fs)

  plain_goes : (p : Plain) (l : Option ℕ) (fs : List LiteralFrame) → Goes (start_plain l fs) (plain_kinds p) (read_in fs (labelled l p))
  plain_goes (integer i) l fs = begins l fs _ _ refl
  plain_goes (character c) l fs = begins l fs _ _ refl
  plain_goes (string s) l fs = begins l fs _ _ refl
  plain_goes (double d) l fs = begins l fs _ _ refl
  plain_goes (truth true) l fs = begins l fs _ _ refl
  plain_goes (truth false) l fs = begins l fs _ _ refl
  plain_goes unit l fs = onward (begins l fs _ _ refl) (one_more refl)
  plain_goes (constant h) l fs = head_goes h l fs
  plain_goes (applied h ps v) l fs =
      onward (onward (onward (onward (head_goes h l fs) (one_more refl))
      (parts_go ps symbols.Comma fs (in_arguments l h) (λ qs u. comma_next u (in_arguments l h qs ∷ fs))))
      (literal_goes v (in_arguments l h ps ∷ fs))) (one_more (paren_next v (in_arguments l h ps ∷ fs)))
  plain_goes (fields o rs x v) l fs =
      onward (onward (onward (onward (owner_goes o l fs) (rows_go rs l o fs)) (row_goes l o rs x fs))
      (literal_goes v (in_fields l o rs x ∷ fs))) (one_more (brace_next v (in_fields l o rs x ∷ fs)))
  plain_goes (tuple ps u v) l fs =
      onward (onward (onward (begins l fs _ _ refl)
      (onward (onward (parts_go ps symbols.Comma fs (in_parens l) (λ qs w. comma_next w (in_parens l qs ∷ fs)))
      (literal_goes u (in_parens l ps ∷ fs))) (one_more (comma_next u (in_parens l ps ∷ fs)))))
      (literal_goes v (in_parens l (more_parts ps u) ∷ fs))) (one_more (paren_next v (in_parens l (more_parts ps u) ∷ fs)))
  plain_goes empty_array l fs = onward (begins l fs _ _ refl) (one_more refl)
  plain_goes (array ps v) l fs =
      onward (onward (onward (begins l fs _ _ refl)
      (parts_go ps symbols.Semicolon fs (in_array l) (λ qs w. semicolon_next w (in_array l qs ∷ fs))))
      (literal_goes v (in_array l ps ∷ fs))) (one_more (array_next v (in_array l ps ∷ fs)))

  parts_go : (ps : Parts) (separator : Symbol) (fs : List LiteralFrame) (frame : Parts → LiteralFrame)
      → ((qs : Parts) (v : Literal) → step (read_in (frame qs ∷ fs) v) (kinds.Symbol separator) ≡ Some (at (frame (more_parts qs v) ∷ fs) due))
      → Goes (at (frame no_parts ∷ fs) due) (parts_kinds separator ps) (at (frame ps ∷ fs) due)
  parts_go no_parts separator fs frame next = stay
  parts_go (more_parts ps v) separator fs frame next =
      onward (onward (parts_go ps separator fs frame next) (literal_goes v (frame ps ∷ fs))) (one_more (next ps v))

  rows_go : (rs : FieldRows) (l : Option ℕ) (o : Option LiteralHead) (fs : List LiteralFrame) → Goes (at fs (field_due l o no_rows)) (rows_kinds rs) (at fs (field_due l o rs))
  rows_go no_rows l o fs = stay
  rows_go (more_rows rs x v) l o fs =
      onward (onward (onward (rows_go rs l o fs) (row_goes l o rs x fs)) (literal_goes v (in_fields l o rs x ∷ fs)))
      (one_more (semicolon_next v (in_fields l o rs x ∷ fs)))

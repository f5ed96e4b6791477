-- If a literal stands at a location, then the literal's parts and its first lexeme stand at the
-- locations that follow.
use Rattle.std.proofs.Common.{arith, refl, sym, ap, ◌∙◌, length-append, append_assoc, get_or}
use Rattle.std.specs.Prelude.{ℕ, ◌+◌, ◌<◌, ◌≡◌, Option, Some, None, List, [], ◌∷◌, ◌++◌, length, drop, slice_get, option_map}
use Rattle.std.proofs.lemmas.List.{drop-drop, drop_at, length-drop, append-nil, get_or-drop, length-map}
use Rattle.std.proofs.lemmas.Option.{slice_get-get_or, slice_get-map}
use Rattle.types_lex.specs.declared.lexeme.Lexeme.{Lexeme}
use Rattle.types_lex.specs.declared.lexeme.LexemeKind.{LexemeKind}
use Rattle.types_lex.specs.declared.lexeme.Symbol.{Symbol}
use Rattle.types_lex.specs.declared.lexeme.Symbol.TheVariants as symbols
use Rattle.types_parse.specs.grammar.Grammar.{Kinds, mark}
use Rattle.text_literal.specs.literal_grammar.Literal.{LiteralHead, upper_head, tag_head, cons_head, empty_head, ref_head, Literal, labelled, again, Plain, integer, character, string, double, truth, unit, constant, applied, fields, tuple, empty_array, array, Parts, no_parts, more_parts, FieldRows, no_rows, more_rows, label_kinds, head_kinds, owner_kinds, row_start, literal_kinds, plain_kinds, parts_kinds, rows_kinds}
use Rattle.types_parse.specs.grammar.LexemeKinds.{kinds_of}
use Rattle.text_literal.specs.literal_grammar.LiteralNodes.{literal_nodes}
use Rattle.text_literal.specs.parser.LiteralLeaves.{lead_of}
use Rattle.text_literal.specs.parser.Pending.{listed_parts, listed_rows, parts_of}
use Rattle.text_literal.specs.parser.NodesOf.{nodes_of_parts}
use Rattle.text_literal.specs.parser.Standing.{IsAt, own_node, inner_parts, AreEncoded, lead_of_owner, lead_of_plain}
use Rattle.text_literal.proofs.parser.NodesLemmas.{parts_of_plain}

-- ---- lists in a list

module _ {T : Type 0} where
  pub at_prefix : (all : List T) (i : ℕ) (xs ys : List T) → IsAt all i (xs ++ ys) → IsAt all i xs
  at_prefix all i xs ys h = record { rest = ys ++ h.rest; is = h.is ∙ append_assoc xs ys h.rest }

  pub at_back : (all : List T) (i : ℕ) (xs ys : List T) → IsAt all i (xs ++ ys) → IsAt all (i + length xs) ys
  at_back all i xs ys h = record {
    rest = h.rest;
    is = sym (drop-drop (length xs) i all) ∙ ap (λ rest. drop (length xs) rest) (h.is ∙ append_assoc xs ys h.rest) ∙ drop_at xs (ys ++ h.rest) (length xs) refl;
  }

  pub at_same : (all : List T) (i : ℕ) (xs ys : List T) → xs ≡ ys → IsAt all i xs → IsAt all i ys
  at_same all i xs ys e h = record { rest = h.rest; is = h.is ∙ ap (λ own. own ++ h.rest) e }

  pub at_position : (all : List T) (i j : ℕ) (xs : List T) → i ≡ j → IsAt all i xs → IsAt all j xs
  at_position all i j xs e h = record { rest = h.rest; is = ap (λ n. drop n all) (sym e) ∙ h.is }

  pub first_in : (all : List T) (i : ℕ) (x : T) (xs : List T) → IsAt all i (x ∷ xs) → i < length all
  first_in all i x xs h = omega (arith, length-drop i all, ap (λ (rest : List T). length rest) h.is)

  pub first_is : (all : List T) (i : ℕ) (x : T) (xs : List T) (d : T) → IsAt all i (x ∷ xs) → get_or all i d ≡ x
  first_is all i x xs d h =
      let e : i ≡ i + 0 = omega arith in
      ap (λ n. get_or all n d) e ∙ sym (get_or-drop i all 0 d) ∙ ap (λ (rest : List T). get_or rest 0 d) h.is

  pub first_found : (all : List T) (i : ℕ) (x : T) (xs : List T) → IsAt all i (x ∷ xs) → slice_get all i ≡ Some x
  first_found all i x xs h = slice_get-get_or all i x (first_in all i x xs h) ∙ ap (λ (y : T). Some y) (first_is all i x xs x h)

-- ---- the nodes of a literal

pub own_and_parts : (k : ℕ) (v : Literal) → literal_nodes k v ≡ own_node k v ∷ nodes_of_parts (inner_parts k v)
own_and_parts k (labelled l p) = parts_of_plain k l p
own_and_parts k (again n) = refl

pub parts_counted : (k : ℕ) (v : Literal) → (own_node k v).parts ≡ length (inner_parts k v)
parts_counted k (labelled l p) = refl
parts_counted k (again n) = refl

pub own_first : (k : ℕ) (v : Literal) → (own_node k v).first ≡ k
own_first k (labelled l p) = refl
own_first k (again n) = refl

-- ---- the lexemes of parts

encoded_both : (all : Kinds) (ps qs : List (ℕ × Literal)) → AreEncoded all ps → AreEncoded all qs → AreEncoded all (ps ++ qs)
encoded_both all [] qs h g = g
encoded_both all (p ∷ ps) qs h g = (h.0, encoded_both all ps qs h.1 g)

parts_encoded : (all : Kinds) (separator : Symbol) (k : ℕ) (ps : Parts) → IsAt all k (parts_kinds separator ps) → AreEncoded all (listed_parts separator k ps)
parts_encoded all separator k no_parts h = tt
parts_encoded all separator k (more_parts ps v) h =
    let both = at_prefix all k (parts_kinds separator ps ++ literal_kinds v) (mark separator) h in
    encoded_both all (listed_parts separator k ps) ((k + length (parts_kinds separator ps), v) ∷ [])
    (parts_encoded all separator k ps (at_prefix all k (parts_kinds separator ps) (literal_kinds v) both))
    (at_back all k (parts_kinds separator ps) (literal_kinds v) both, tt)

rows_encoded : (all : Kinds) (k : ℕ) (rs : FieldRows) → IsAt all k (rows_kinds rs) → AreEncoded all (listed_rows k rs)
rows_encoded all k no_rows h = tt
rows_encoded all k (more_rows rs x v) h =
    let both = at_prefix all k (rows_kinds rs ++ row_start x ++ literal_kinds v) (mark symbols.Semicolon) h in
    encoded_both all (listed_rows k rs) ((k + length (rows_kinds rs ++ row_start x), v) ∷ [])
    (rows_encoded all k rs (at_prefix all k (rows_kinds rs) (row_start x) (at_prefix all k (rows_kinds rs ++ row_start x) (literal_kinds v) both)))
    (at_back all k (rows_kinds rs ++ row_start x) (literal_kinds v) both, tt)

-- The lexemes of the last part stand between the lexemes before the part and the closing bracket.
last_encoded : (all : Kinds) (k : ℕ) (prefix : Kinds) (v : Literal) (end : Kinds) → IsAt all k (prefix ++ literal_kinds v ++ end) → IsAt all (k + length prefix) (literal_kinds v)
last_encoded all k prefix v end h = at_back all k prefix (literal_kinds v) (at_prefix all k (prefix ++ literal_kinds v) end h)

prefix_encoded : (all : Kinds) (k : ℕ) (prefix : Kinds) (v : Literal) (end : Kinds) → IsAt all k (prefix ++ literal_kinds v ++ end) → IsAt all k prefix
prefix_encoded all k prefix v end h = at_prefix all k prefix (literal_kinds v) (at_prefix all k (prefix ++ literal_kinds v) end h)

plain_encoded : (all : Kinds) (k : ℕ) (p : Plain) → IsAt all k (plain_kinds p) → AreEncoded all (parts_of k p)
plain_encoded all k (integer i) h = tt
plain_encoded all k (character c) h = tt
plain_encoded all k (string s) h = tt
plain_encoded all k (double d) h = tt
plain_encoded all k (truth b) h = tt
plain_encoded all k unit h = tt
plain_encoded all k (constant c) h = tt
plain_encoded all k empty_array h = tt
plain_encoded all k (applied c ps v) h =
    let start = head_kinds c ++ mark symbols.OpenParen in
    let prefix = prefix_encoded all k (start ++ parts_kinds symbols.Comma ps) v (mark symbols.CloseParen) h in
    encoded_both all (listed_parts symbols.Comma (k + length start) ps) ((k + length (start ++ parts_kinds symbols.Comma ps), v) ∷ [])
    (parts_encoded all symbols.Comma (k + length start) ps (at_back all k start (parts_kinds symbols.Comma ps) prefix))
    (last_encoded all k (start ++ parts_kinds symbols.Comma ps) v (mark symbols.CloseParen) h, tt)
plain_encoded all k (fields o rs x v) h =
    let start = owner_kinds o ++ mark symbols.OpenBrace in
    let prefix = prefix_encoded all k (start ++ rows_kinds rs ++ row_start x) v (mark symbols.CloseBrace) h in
    encoded_both all (listed_rows (k + length start) rs) ((k + length (start ++ rows_kinds rs ++ row_start x), v) ∷ [])
    (rows_encoded all (k + length start) rs (at_back all k start (rows_kinds rs) (at_prefix all k (start ++ rows_kinds rs) (row_start x) prefix)))
    (last_encoded all k (start ++ rows_kinds rs ++ row_start x) v (mark symbols.CloseBrace) h, tt)
plain_encoded all k (tuple ps u v) h =
    let parts = parts_kinds symbols.Comma ps in
    let start = mark symbols.OpenParen ++ (parts ++ literal_kinds u ++ mark symbols.Comma) in
    let prefix = prefix_encoded all k start v (mark symbols.CloseParen) h in
    let inside = at_back all k (mark symbols.OpenParen) (parts ++ literal_kinds u ++ mark symbols.Comma) prefix in
    let both = at_prefix all (k + 1) (parts ++ literal_kinds u) (mark symbols.Comma) inside in
    encoded_both all (listed_parts symbols.Comma (k + 1) ps ++ (k + 1 + length parts, u) ∷ []) ((k + 1 + length (parts ++ literal_kinds u ++ mark symbols.Comma), v) ∷ [])
    (encoded_both all (listed_parts symbols.Comma (k + 1) ps) ((k + 1 + length parts, u) ∷ [])
    (parts_encoded all symbols.Comma (k + 1) ps (at_prefix all (k + 1) parts (literal_kinds u) both))
    (at_back all (k + 1) parts (literal_kinds u) both, tt)) (
      at_position all _ _ (literal_kinds v) (omega (arith, length-append (mark symbols.OpenParen) (parts ++ literal_kinds u ++ mark symbols.Comma)))
          (last_encoded all k start v (mark symbols.CloseParen) h),
      tt,
    )
plain_encoded all k (array ps v) h =
    let parts = parts_kinds symbols.Semicolon ps in
    let start = mark symbols.OpenArray ++ parts in
    encoded_both all (listed_parts symbols.Semicolon (k + 1) ps) ((k + 1 + length parts, v) ∷ [])
    (parts_encoded all symbols.Semicolon (k + 1) ps (at_back all k (mark symbols.OpenArray) parts (prefix_encoded all k start v (mark symbols.CloseArray) h)))
    (at_position all _ _ (literal_kinds v) (omega (arith, length-append (mark symbols.OpenArray) parts)) (last_encoded all k start v (mark symbols.CloseArray) h), tt)

-- The lexemes of each part of a literal begin at the index of the part.
pub literal_encoded : (all : Kinds) (k : ℕ) (v : Literal) → IsAt all k (literal_kinds v) → AreEncoded all (inner_parts k v)
literal_encoded all k (labelled l p) h = plain_encoded all (k + length (label_kinds l)) p (at_back all k (label_kinds l) (plain_kinds p) h)
literal_encoded all k (again n) h = tt

-- ---- the first lexeme of a plain literal

abbrev BeginsWith : Kinds → LexemeKind → Type 0
BeginsWith own kind = (more : Kinds) × (own ≡ kind ∷ more)

head_led : (h : LiteralHead) (more : Kinds) → BeginsWith (head_kinds h ++ more) (lead_of h)
head_led (upper_head x) more = (_, refl)
head_led (tag_head x) more = (_, refl)
head_led cons_head more = (_, refl)
head_led empty_head more = (_, refl)
head_led ref_head more = (_, refl)

-- If lexemes are appended to a list that begins with a lexeme, then the list still begins with this
-- lexeme.
led_more : (own more : Kinds) (kind : LexemeKind) → BeginsWith own kind → BeginsWith (own ++ more) kind
led_more own more kind h = (h.0 ++ more, ap (λ all. all ++ more) h.1)

owner_led : (o : Option LiteralHead) → BeginsWith (owner_kinds o ++ mark symbols.OpenBrace) (lead_of_owner o)
owner_led None = (_, refl)
owner_led (Some h) = head_led h (mark symbols.OpenBrace)

head_alone : (h : LiteralHead) → BeginsWith (head_kinds h) (lead_of h)
head_alone h = (((head_led h []).0), sym (append-nil (head_kinds h)) ∙ (head_led h []).1)

plain_led : (p : Plain) → BeginsWith (plain_kinds p) (lead_of_plain p)
plain_led (integer i) = (_, refl)
plain_led (character c) = (_, refl)
plain_led (string s) = (_, refl)
plain_led (double d) = (_, refl)
plain_led (truth b) = (_, refl)
plain_led unit = (_, refl)
plain_led (constant h) = head_alone h
plain_led (applied h ps v) =
    led_more (head_kinds h ++ mark symbols.OpenParen ++ parts_kinds symbols.Comma ps ++ literal_kinds v) (mark symbols.CloseParen) _
    (led_more (head_kinds h ++ mark symbols.OpenParen ++ parts_kinds symbols.Comma ps) (literal_kinds v) _
    (led_more (head_kinds h ++ mark symbols.OpenParen) (parts_kinds symbols.Comma ps) _ (head_led h (mark symbols.OpenParen))))
plain_led (fields o rs x v) =
    led_more (owner_kinds o ++ mark symbols.OpenBrace ++ rows_kinds rs ++ row_start x ++ literal_kinds v) (mark symbols.CloseBrace) _
    (led_more (owner_kinds o ++ mark symbols.OpenBrace ++ rows_kinds rs ++ row_start x) (literal_kinds v) _
    (led_more (owner_kinds o ++ mark symbols.OpenBrace ++ rows_kinds rs) (row_start x) _
    (led_more (owner_kinds o ++ mark symbols.OpenBrace) (rows_kinds rs) _ (owner_led o))))
plain_led (tuple ps u v) = (_, refl)
plain_led empty_array = (_, refl)
plain_led (array ps v) = (_, refl)

module _ (lexemes : List Lexeme) (k : ℕ) (l : Option ℕ) (p : Plain) (h : IsAt (kinds_of lexemes) k (literal_kinds (labelled l p))) where
  own : IsAt (kinds_of lexemes) (k + length (label_kinds l)) (lead_of_plain p ∷ (plain_led p).0)
  own = at_same _ _ _ _ (plain_led p).1 (at_back _ k (label_kinds l) (plain_kinds p) h)

  -- A plain literal has a lexeme of its own after its label.
  pub lead_in : k + length (label_kinds l) < length lexemes
  lead_in = omega (arith, first_in _ _ _ _ own, length-map lexemes (λ (lexeme : Lexeme). lexeme.kind))

  -- The lexeme after the label of a plain literal is the lead of the literal.
  pub lead_is : (kind : LexemeKind) → Some kind ≡ option_map (λ (lexeme : Lexeme). lexeme.kind) (slice_get lexemes (k + length (label_kinds l))) → kind ≡ lead_of_plain p
  lead_is kind e =
      let found : Some kind ≡ Some (lead_of_plain p) =
      e ∙ sym (slice_get-map (λ (lexeme : Lexeme). lexeme.kind) lexemes (k + length (label_kinds l))) ∙ first_found _ _ _ _ own in
      cc

-- Let the text after a part be replaced by another text. If the new text begins with the old first
-- byte, or with a number after a blank, `(`, `=` or `|`, then the part stays a part.
use Rattle.std.proofs.Common.{◌≡◌, ◌≢◌, ◌⊎◌, ◌∙◌, ℕ, Bool, true, false, true≢false, ◌||◌, eqb, List, [], ◌∷◌, ◌++◌, Some, None, refl, sym, ap, subst, arith, inl, inr, append-nil, ne_eqb}
use Rattle.std.specs.List.{list_all, take_while, flat_map}
use Rattle.std.specs.Char.{is_ascii_digit, is_ascii_hexdigit}
use Rattle.std.proofs.lemmas.Bool.{false≢true, and_parts, and_from, or_left, or_right, cases_Bool}
use Rattle.std.proofs.lemmas.List.{append_cancel_left}
use Rattle.types_lex.specs.declared.lexeme.Keyword.TheVariants as keywords
use Rattle.types_lex.specs.declared.lexeme.Suffix.{Suffix}
use Rattle.types_lex.specs.declared.lexeme.Suffix.TheVariants as suffixes
use Rattle.types_lex.specs.declared.lexeme.Symbol.{Symbol}
use Rattle.types_lex.specs.declared.lexeme.Symbol.TheVariants as symbols
use Rattle.types_lex.specs.Lexeme.{starts_name, is_name_byte, minus_text, symbol_text, LexemeForm, Reserved, Lower, Upper, Tag, Variable, Character, Number, Quoted, Double, Mark, form_bytes, form_kind, IsForm}
use Rattle.types_lex.specs.LexText.{Cut, Opens, Closes, Other, cut_bytes, begins_bracket, IsCut, TextPart, Separator, Comment, Word, part_bytes, IsPart}
use Rattle.types_lex.specs.Lexer.{tag_form, word_form, pair_symbol, pair_at, single_symbol, or_symbol, symbol_form, form_at}
use Rattle.types_lex.proofs.CharLaws.{some_is}
use Rattle.types_lex.proofs.NameLaws.{apart, take_while-more, form_bytes-word}
use Rattle.types_lex.proofs.PrefixLaws.{form_at-word}
use Rattle.types_lex.proofs.TakenLaws.{found-taken}
use Rattle.text_roundtrip.specs.lexed.Lexed.{Ends, NoStar}
use Rattle.text_roundtrip.proofs.lexed.LexedLemmas.{by_next}
use Rattle.text_roundtrip.proofs.lexed.LexedTakenLemmas.{ends_run, found_part, paren_part, tag_found, number_found, double_found, quoted_found, character_found}
use Rattle.text_decimal.specs.texts.Laws.{IsApart}

-- ---- first and last bytes

-- The first byte of a text, or a blank if the text is empty.
abbrev pub first_of : List ℕ → ℕ
first_of [] = 32
first_of (b ∷ bs) = b

-- The byte is a blank, `(`, `=` or `|`, after which a decimal may begin.
abbrev pub opens : ℕ → Bool
opens b = eqb b 32 || eqb b 40 || eqb b 61 || eqb b 124

-- The last byte of the text is a blank, `(`, `=` or `|`, or the text is empty.
abbrev pub ends_open : List ℕ → Bool
ends_open [] = true
ends_open (b ∷ []) = opens b
ends_open (b ∷ c ∷ bs) = ends_open (c ∷ bs)

pub ends_append : (x : List ℕ) (b : ℕ) (bs : List ℕ) → ends_open (x ++ b ∷ bs) ≡ ends_open (b ∷ bs)
ends_append [] b bs = refl
ends_append (a ∷ []) b bs = refl
ends_append (a ∷ c ∷ x) b bs = ends_append (c ∷ x) b bs

-- None of the bytes blank, `(`, `=` and `|` passes the test `p`.
abbrev Closes4 : (ℕ → Bool) → Type 0
Closes4 p = (p 32 ≡ false) × (p 40 ≡ false) × (p 61 ≡ false) × (p 124 ≡ false)

closed : (p : ℕ → Bool) → Closes4 p → (b : ℕ) (bs : List ℕ) → list_all p (b ∷ bs) ≡ true → ends_open (b ∷ bs) ≡ false
closed p none b [] all =
    let passes = (and_parts (p b) true all).0 in
    rw (apart p 32 b none.0 passes, apart p 40 b none.1 passes, apart p 61 b none.2 passes, apart p 124 b none.3 passes)
closed p none b (c ∷ bs) all = closed p none c bs (and_parts (p b) (list_all p (c ∷ bs)) all).1

abbrev pub IsStart : ℕ → Type 0
IsStart b = (is_ascii_digit b ≡ true) ⊎ (b ≡ 45)

-- The texts `r` and `s` have one first byte, or `s` begins with a number after an opening byte.
abbrev pub Agree : Bool → List ℕ → List ℕ → Type 0
Agree opened r s = (first_of s ≡ first_of r) ⊎ ((opened ≡ true) × IsStart (first_of s))

pub agree_closed : (opened : Bool) (r s : List ℕ) → opened ≡ false → Agree opened r s → first_of s ≡ first_of r
agree_closed opened r s shut (inl same) = same
agree_closed opened r s shut (inr (is, start)) = absurd (true≢false (sym is ∙ shut))

ends_first : (r : List ℕ) → Ends r → is_name_byte (first_of r) ≡ false
ends_first [] e = refl
ends_first (b ∷ bs) e = e

first_ends : (r : List ℕ) → is_name_byte (first_of r) ≡ false → Ends r
first_ends [] e = tt
first_ends (b ∷ bs) e = e

ends_agree : (opened : Bool) (r s : List ℕ) → opened ≡ false → Agree opened r s → Ends r → Ends s
ends_agree opened r s shut like ends = first_ends s (ap is_name_byte (agree_closed opened r s shut like) ∙ ends_first r ends)

-- ---- comments

bracket_same : (b : ℕ) (cuts : List Cut) (r s : List ℕ) → begins_bracket (b ∷ (flat_map cut_bytes cuts ++ 42 ∷ 41 ∷ r)) ≡ false → begins_bracket (b ∷ (flat_map cut_bytes cuts ++ 42 ∷ 41 ∷ s)) ≡ false
bracket_same b [] r s is = is
bracket_same b (Opens ∷ cuts) r s is = is
bracket_same b (Closes ∷ cuts) r s is = is
bracket_same b (Other c ∷ cuts) r s is = is

cuts_same : (cuts : List Cut) (r s : List ℕ) → IsCut cuts (42 ∷ 41 ∷ r) → IsCut cuts (42 ∷ 41 ∷ s)
cuts_same [] r s is = tt
cuts_same (Opens ∷ cuts) r s is = cuts_same cuts r s is
cuts_same (Closes ∷ cuts) r s is = cuts_same cuts r s is
cuts_same (Other b ∷ cuts) r s is = (bracket_same b cuts r s is.0, cuts_same cuts r s is.1)

-- ---- words

run_ends : (r : List ℕ) → take_while is_name_byte r ≡ [] → Ends r
run_ends [] e = tt
run_ends (b ∷ bs) e = elim (cases_Bool (is_name_byte b)) [
  | inr fails ↦ fails
  | inl is ↦ absurd (let more : b ∷ take_while is_name_byte bs ≡ [] = sym (take_while-more is_name_byte (b ∷ []) bs (and_from (is_name_byte b) true is refl)) ∙ e in cc)
]

name_ends : (b : ℕ) (bs r : List ℕ) → list_all is_name_byte (b ∷ bs) ≡ true → take_while is_name_byte (b ∷ bs ++ r) ≡ b ∷ bs → Ends r
name_ends b bs r name whole =
    run_ends r (append_cancel_left (b ∷ bs) (take_while is_name_byte r) [] (sym (take_while-more is_name_byte (b ∷ bs) r name) ∙ whole ∙ sym (append-nil (b ∷ bs))))

run_is : (b : ℕ) (bs r : List ℕ) → list_all is_name_byte (b ∷ bs) ≡ true → Ends r → take_while is_name_byte (b ∷ bs ++ r) ≡ b ∷ bs
run_is b bs r name ends = take_while-more is_name_byte (b ∷ bs) r name ∙ ap (λ t. b ∷ bs ++ t) (ends_run r ends) ∙ append-nil (b ∷ bs)

closed_name : (b : ℕ) (bs : List ℕ) → list_all is_name_byte (b ∷ bs) ≡ true → ends_open (b ∷ bs) ≡ false
closed_name b bs name = closed is_name_byte (refl, refl, refl, refl) b bs name

-- Let `r` and `s` satisfy `Agree`. If a word is found before the text `r`, then the word is found
-- before the text `s`.
word_found : (form : LexemeForm) (b : ℕ) (bs r s : List ℕ) → form_bytes form ≡ b ∷ bs → starts_name b ≡ true → list_all is_name_byte (b ∷ bs) ≡ true
    → form_at (b ∷ bs ++ r) ≡ Some form → Agree (ends_open (b ∷ bs)) r s → form_at (b ∷ bs ++ s) ≡ Some form
word_found form b bs r s bytes first name found like =
    let here : word_form (take_while is_name_byte (b ∷ bs ++ r)) ≡ form = some_is (sym (form_at-word b (bs ++ r) first) ∙ found) in
    let whole : take_while is_name_byte (b ∷ bs ++ r) ≡ b ∷ bs = sym (form_bytes-word (take_while is_name_byte (b ∷ bs ++ r))) ∙ ap form_bytes here ∙ bytes in
    let ends = ends_agree (ends_open (b ∷ bs)) r s (closed_name b bs name) like (name_ends b bs r name whole) in
    form_at-word b (bs ++ s) first ∙ ap (λ t. Some (word_form t)) (run_is b bs s name ends ∙ sym whole) ∙ ap (λ f. Some f) here

word_part : (form : LexemeForm) (b : ℕ) (bs r s : List ℕ) → form_bytes form ≡ b ∷ bs → starts_name b ≡ true → list_all is_name_byte (b ∷ bs) ≡ true → (form ≢ Mark symbols.OpenParen)
    → IsPart (Word form) r → Agree (ends_open (form_bytes form)) r s → IsPart (Word form) s
word_part form b bs r s bytes first name other is like =
    let found : form_at (b ∷ bs ++ r) ≡ Some form = subst (λ t. form_at (t ++ r) ≡ Some form) bytes (found-taken form r is.0) in
    found_part form s (subst (λ t. form_at (t ++ s) ≡ Some form) (sym bytes) (word_found form b bs r s bytes first name found (subst (λ t. Agree (ends_open t) r s) bytes like))) other is.1

tag_ends : (b : ℕ) (bs r : List ℕ) → starts_name b ≡ true → list_all is_name_byte (b ∷ bs) ≡ true → form_at (96 ∷ b ∷ bs ++ r) ≡ Some (Tag (b ∷ bs)) → Ends r
unfolding form_at tag_form
tag_ends b bs r first name found =
    let here : Some (Tag (take_while is_name_byte (b ∷ bs ++ r))) ≡ Some (Tag (b ∷ bs)) = rw first at found in
    let whole : take_while is_name_byte (b ∷ bs ++ r) ≡ b ∷ bs = cc in
    name_ends b bs r name whole

-- ---- numbers

closed_digits : (d : ℕ) (ds : List ℕ) → list_all is_ascii_digit (d ∷ ds) ≡ true → ends_open (d ∷ ds) ≡ false
closed_digits d ds digits = closed is_ascii_digit (refl, refl, refl, refl) d ds digits

pub closed_number : (minus : Bool) (d : ℕ) (ds : List ℕ) (suffix : Suffix) → list_all is_ascii_digit (d ∷ ds) ≡ true → ends_open (form_bytes (Number minus (d ∷ ds) suffix)) ≡ false
closed_number minus d ds suffixes.Absent digits =
    ends_append (minus_text minus) d (ds ++ []) ∙ ap (λ t. ends_open (d ∷ t)) (append-nil ds) ∙ closed_digits d ds digits
closed_number minus d ds suffixes.Int32 digits = ends_append (minus_text minus) d (ds ++ 108 ∷ []) ∙ ends_append (d ∷ ds) 108 []
closed_number minus d ds suffixes.Int64 digits = ends_append (minus_text minus) d (ds ++ 76 ∷ []) ∙ ends_append (d ∷ ds) 76 []
closed_number minus d ds suffixes.Native digits = ends_append (minus_text minus) d (ds ++ 110 ∷ []) ∙ ends_append (d ∷ ds) 110 []

-- ---- symbols

-- A symbol is determined by its byte and the next byte.
next_91 : (s : List ℕ) → form_at (91 ∷ s) ≡ or_symbol (pair_symbol 91 (first_of s)) (Some symbols.OpenBracket)
unfolding form_at symbol_form pair_at pair_symbol single_symbol
next_91 [] = refl
next_91 (b ∷ bs) = refl

next_59 : (s : List ℕ) → form_at (59 ∷ s) ≡ or_symbol (pair_symbol 59 (first_of s)) (Some symbols.Semicolon)
unfolding form_at symbol_form pair_at pair_symbol single_symbol
next_59 [] = refl
next_59 (b ∷ bs) = refl

next_58 : (s : List ℕ) → form_at (58 ∷ s) ≡ or_symbol (pair_symbol 58 (first_of s)) (Some symbols.Colon)
unfolding form_at symbol_form pair_at pair_symbol single_symbol
next_58 [] = refl
next_58 (b ∷ bs) = refl

next_124 : (s : List ℕ) → form_at (124 ∷ s) ≡ or_symbol (pair_symbol 124 (first_of s)) (Some symbols.Bar)
unfolding form_at symbol_form pair_at pair_symbol single_symbol
next_124 [] = refl
next_124 (b ∷ bs) = refl

start_not : (n b : ℕ) → is_ascii_digit n ≡ false → 45 ≢ n → IsStart b → b ≢ n
start_not n b never other (inl digit) e = false≢true (sym never ∙ ap is_ascii_digit (sym e) ∙ digit)
start_not n b never other (inr minus) e = other (sym minus ∙ e)

pair_start : (b : ℕ) → IsStart b → pair_symbol 124 b ≡ None
unfolding pair_symbol
pair_start b start = rw (ne_eqb b 93 (start_not 93 b refl (λ e. omega arith) start))

alone : (m : Symbol) → ((s : List ℕ) → form_at (symbol_text m ++ s) ≡ Some (Mark m)) → (Mark m ≢ Mark symbols.OpenParen) → (s : List ℕ) → IsPart (Word (Mark m)) s
alone m found other s = found_part (Mark m) s (found s) other tt

-- If the recognition of a symbol depends on the next byte, then the symbol stays a part before a
-- text with the old first byte.
before_next : (m : Symbol) (a : ℕ) → symbol_text m ≡ a ∷ [] → ((s : List ℕ) → form_at (a ∷ s) ≡ or_symbol (pair_symbol a (first_of s)) (Some m)) → (Mark m ≢ Mark symbols.OpenParen)
    → (r s : List ℕ) → IsPart (Word (Mark m)) r → first_of s ≡ first_of r → IsPart (Word (Mark m)) s
before_next m a text by other r s is same =
    let here : form_at (a ∷ r) ≡ Some (Mark m) = subst (λ t. form_at (t ++ r) ≡ Some (Mark m)) text (found-taken (Mark m) r is.0) in
    let there : form_at (a ∷ s) ≡ Some (Mark m) = by s ∙ ap (λ b. or_symbol (pair_symbol a b) (Some m)) same ∙ sym (by r) ∙ here in
    found_part (Mark m) s (subst (λ t. form_at (t ++ s) ≡ Some (Mark m)) (sym text) there) other tt

bar_part : (r s : List ℕ) → IsPart (Word (Mark symbols.Bar)) r → Agree true r s → IsPart (Word (Mark symbols.Bar)) s
bar_part r s is (inl same) = before_next symbols.Bar 124 refl next_124 (λ e. absurd cc) r s is same
bar_part r s is (inr (opened, start)) =
    found_part (Mark symbols.Bar) s (next_124 s ∙ ap (λ o. or_symbol o (Some symbols.Bar)) (pair_start (first_of s) start)) (λ e. absurd cc) tt

no_star : (r : List ℕ) → ((more : List ℕ) → 40 ∷ r ≢ 40 ∷ 42 ∷ more) → first_of r ≢ 42
no_star [] free e = absurd (omega arith)
no_star (b ∷ bs) free e = free bs (λ i. 40 ∷ e i ∷ bs)

star_free : (s : List ℕ) → first_of s ≢ 42 → NoStar s
star_free [] other = tt
star_free (b ∷ bs) other = other

open_part : (r s : List ℕ) → IsPart (Word (Mark symbols.OpenParen)) r → Agree true r s → IsPart (Word (Mark symbols.OpenParen)) s
unfolding form_at symbol_form pair_at pair_symbol single_symbol
open_part r s is like = paren_part s (by_next (λ t. form_at (40 ∷ t) ≡ Some (Mark symbols.OpenParen)) refl (λ b bs. refl) s) (star_free s (other like))
  where
    other : Agree true r s → first_of s ≢ 42
    other (inl same) e = no_star r is.0.no_comment (sym same ∙ e)
    other (inr (opened, start)) e = start_not 42 (first_of s) refl (λ h. omega arith) start e

mark_part : (m : Symbol) (r s : List ℕ) → IsPart (Word (Mark m)) r → Agree (ends_open (symbol_text m)) r s → IsPart (Word (Mark m)) s
unfolding form_at symbol_form pair_at pair_symbol single_symbol
mark_part symbols.OpenArray r s is like = alone symbols.OpenArray (λ t. refl) (λ e. absurd cc) s
mark_part symbols.CloseArray r s is like = alone symbols.CloseArray (λ t. refl) (λ e. absurd cc) s
mark_part symbols.DoubleSemicolon r s is like = alone symbols.DoubleSemicolon (λ t. refl) (λ e. absurd cc) s
mark_part symbols.DoubleColon r s is like = alone symbols.DoubleColon (λ t. refl) (λ e. absurd cc) s
mark_part symbols.OpenParen r s is like = open_part r s is like
mark_part symbols.CloseParen r s is like = alone symbols.CloseParen (by_next _ refl (λ b bs. refl)) (λ e. absurd cc) s
mark_part symbols.OpenBrace r s is like = alone symbols.OpenBrace (by_next _ refl (λ b bs. refl)) (λ e. absurd cc) s
mark_part symbols.CloseBrace r s is like = alone symbols.CloseBrace (by_next _ refl (λ b bs. refl)) (λ e. absurd cc) s
mark_part symbols.OpenBracket r s is like = before_next symbols.OpenBracket 91 refl next_91 (λ e. absurd cc) r s is (agree_closed false r s refl like)
mark_part symbols.CloseBracket r s is like = alone symbols.CloseBracket (by_next _ refl (λ b bs. refl)) (λ e. absurd cc) s
mark_part symbols.Bar r s is like = bar_part r s is like
mark_part symbols.Comma r s is like = alone symbols.Comma (by_next _ refl (λ b bs. refl)) (λ e. absurd cc) s
mark_part symbols.Semicolon r s is like = before_next symbols.Semicolon 59 refl next_59 (λ e. absurd cc) r s is (agree_closed false r s refl like)
mark_part symbols.Colon r s is like = before_next symbols.Colon 58 refl next_58 (λ e. absurd cc) r s is (agree_closed false r s refl like)
mark_part symbols.Equals r s is like = alone symbols.Equals (by_next _ refl (λ b bs. refl)) (λ e. absurd cc) s
mark_part symbols.Star r s is like = alone symbols.Star (by_next _ refl (λ b bs. refl)) (λ e. absurd cc) s
mark_part symbols.Dot r s is like = alone symbols.Dot (by_next _ refl (λ b bs. refl)) (λ e. absurd cc) s
mark_part symbols.Hash r s is like = alone symbols.Hash (by_next _ refl (λ b bs. refl)) (λ e. absurd cc) s

-- ---- all parts

-- The part is not a variable. If the part is an integer, then neither a point nor a byte of a name
-- follows.
abbrev pub IsKept : TextPart → List ℕ → Type 0
IsKept (Separator b) r = Unit {0}
IsKept (Comment inside) r = Unit {0}
IsKept (Word form) r = IsApart (form_kind form) (first_of r)

form_part : (form : LexemeForm) (r s : List ℕ) → IsPart (Word form) r → IsKept (Word form) r → Agree (ends_open (form_bytes form)) r s → IsPart (Word form) s
form_part (Reserved keywords.Type) r s is kept like = word_part (Reserved keywords.Type) 116 (121 ∷ 112 ∷ 101 ∷ []) r s refl refl refl (λ e. absurd cc) is like
form_part (Reserved keywords.And) r s is kept like = word_part (Reserved keywords.And) 97 (110 ∷ 100 ∷ []) r s refl refl refl (λ e. absurd cc) is like
form_part (Reserved keywords.Of) r s is kept like = word_part (Reserved keywords.Of) 111 (102 ∷ []) r s refl refl refl (λ e. absurd cc) is like
form_part (Reserved keywords.Mutable) r s is kept like = word_part (Reserved keywords.Mutable) 109 (117 ∷ 116 ∷ 97 ∷ 98 ∷ 108 ∷ 101 ∷ []) r s refl refl refl (λ e. absurd cc) is like
form_part (Lower []) r s is kept like = absurd is.0.written.0
form_part (Lower (b ∷ bs)) r s is kept like = word_part (Lower (b ∷ bs)) b bs r s refl (or_left _ _ is.0.written.0.0) is.0.written.0.1 (λ e. absurd cc) is like
form_part (Upper []) r s is kept like = absurd is.0.written
form_part (Upper (b ∷ bs)) r s is kept like = word_part (Upper (b ∷ bs)) b bs r s refl (or_right _ _ is.0.written.0) is.0.written.1 (λ e. absurd cc) is like
form_part (Tag []) r s is kept like = absurd is.0.written
form_part (Tag (b ∷ bs)) r s is kept like =
    let w = is.0.written in
    let ends = ends_agree (ends_open (b ∷ bs)) r s (closed_name b bs w.1) like (tag_ends b bs r w.0 w.1 (found-taken (Tag (b ∷ bs)) r is.0)) in
    found_part (Tag (b ∷ bs)) s (tag_found (b ∷ bs) s w ends) (λ e. absurd cc) is.1
form_part (Variable name) r s is kept like = absurd kept
form_part (Character c) r s is kept like = found_part (Character c) s (character_found c s is.0.written) (λ e. absurd cc) is.1
form_part (Number minus [] suffix) r s is kept like = absurd (is.0.written.0 refl)
form_part (Number minus (d ∷ ds) suffix) r s is kept like =
    let w = is.0.written in
    let ends = ends_agree (ends_open (form_bytes (Number minus (d ∷ ds) suffix))) r s (closed_number minus d ds suffix w.1) like (first_ends r kept.1) in
    found_part (Number minus (d ∷ ds) suffix) s (number_found minus (d ∷ ds) suffix s w ends) (λ e. absurd cc) is.1
form_part (Quoted cs) r s is kept like = found_part (Quoted cs) s (quoted_found cs s is.0.written) (λ e. absurd cc) is.1
form_part (Double ds) r s is kept like = found_part (Double ds) s (double_found ds s is.0.written) (λ e. absurd cc) is.1
form_part (Mark m) r s is kept like = mark_part m r s is like

pub kept_part : (p : TextPart) (r s : List ℕ) → IsPart p r → IsKept p r → Agree (ends_open (part_bytes p)) r s → IsPart p s
kept_part (Separator b) r s is kept like = is
kept_part (Comment inside) r s is kept like = (is.0, cuts_same inside r s is.1)
kept_part (Word form) r s is kept like = form_part form r s is kept like

form_agree : (form : LexemeForm) (r s : List ℕ) → IsPart (Word form) r → IsKept (Word form) r → Agree (ends_open (form_bytes form)) r s → IsKept (Word form) s
form_agree (Reserved k) r s is kept like = tt
form_agree (Lower name) r s is kept like = tt
form_agree (Upper name) r s is kept like = tt
form_agree (Tag name) r s is kept like = tt
form_agree (Variable name) r s is kept like = kept
form_agree (Character c) r s is kept like = tt
form_agree (Number minus [] suffix) r s is kept like = absurd (is.0.written.0 refl)
form_agree (Number minus (d ∷ ds) suffix) r s is kept like =
    let same = agree_closed (ends_open (form_bytes (Number minus (d ∷ ds) suffix))) r s (closed_number minus d ds suffix is.0.written.1) like in
    subst (IsApart (form_kind (Number minus (d ∷ ds) suffix))) (sym same) kept
form_agree (Quoted cs) r s is kept like = tt
form_agree (Double ds) r s is kept like = tt
form_agree (Mark m) r s is kept like = tt

pub kept_agree : (p : TextPart) (r s : List ℕ) → IsPart p r → IsKept p r → Agree (ends_open (part_bytes p)) r s → IsKept p s
kept_agree (Separator b) r s is kept like = tt
kept_agree (Comment inside) r s is kept like = tt
kept_agree (Word form) r s is kept like = form_agree form r s is kept like

-- A double does not end with an opening byte.
pub closed_double : (ds : List ℕ) → IsForm (Double ds) → ends_open (form_bytes (Double ds)) ≡ false
closed_double [] is = absurd (omega (arith, is.0))
closed_double (d ∷ ds) is = closed is_ascii_hexdigit (refl, refl, refl, refl) d ds is.1

-- ---- no part is empty

some_form : (form : LexemeForm) (r : List ℕ) → IsPart (Word form) r → (c : ℕ) × (cs : List ℕ) × (form_bytes form ≡ c ∷ cs)
some_form (Reserved keywords.Type) r is = (_, _, refl)
some_form (Reserved keywords.And) r is = (_, _, refl)
some_form (Reserved keywords.Of) r is = (_, _, refl)
some_form (Reserved keywords.Mutable) r is = (_, _, refl)
some_form (Lower []) r is = absurd is.0.written.0
some_form (Lower (b ∷ bs)) r is = (b, bs, refl)
some_form (Upper []) r is = absurd is.0.written
some_form (Upper (b ∷ bs)) r is = (b, bs, refl)
some_form (Tag name) r is = (_, _, refl)
some_form (Variable name) r is = (_, _, refl)
some_form (Character c) r is = (_, _, refl)
some_form (Number true ds suffix) r is = (_, _, refl)
some_form (Number false [] suffix) r is = absurd (is.0.written.0 refl)
some_form (Number false (d ∷ ds) suffix) r is = (_, _, refl)
some_form (Quoted cs) r is = (_, _, refl)
some_form (Double ds) r is = (_, _, refl)
some_form (Mark symbols.OpenArray) r is = (_, _, refl)
some_form (Mark symbols.CloseArray) r is = (_, _, refl)
some_form (Mark symbols.DoubleSemicolon) r is = (_, _, refl)
some_form (Mark symbols.DoubleColon) r is = (_, _, refl)
some_form (Mark symbols.OpenParen) r is = (_, _, refl)
some_form (Mark symbols.CloseParen) r is = (_, _, refl)
some_form (Mark symbols.OpenBrace) r is = (_, _, refl)
some_form (Mark symbols.CloseBrace) r is = (_, _, refl)
some_form (Mark symbols.OpenBracket) r is = (_, _, refl)
some_form (Mark symbols.CloseBracket) r is = (_, _, refl)
some_form (Mark symbols.Bar) r is = (_, _, refl)
some_form (Mark symbols.Comma) r is = (_, _, refl)
some_form (Mark symbols.Semicolon) r is = (_, _, refl)
some_form (Mark symbols.Colon) r is = (_, _, refl)
some_form (Mark symbols.Equals) r is = (_, _, refl)
some_form (Mark symbols.Star) r is = (_, _, refl)
some_form (Mark symbols.Dot) r is = (_, _, refl)
some_form (Mark symbols.Hash) r is = (_, _, refl)

pub part_some : (p : TextPart) (r : List ℕ) → IsPart p r → (c : ℕ) × (cs : List ℕ) × (part_bytes p ≡ c ∷ cs)
part_some (Separator b) r is = (b, [], refl)
part_some (Comment inside) r is = (_, _, refl)
part_some (Word form) r is = some_form form r is

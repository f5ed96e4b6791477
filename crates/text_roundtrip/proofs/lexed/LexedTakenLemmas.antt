-- If the bytes after a lexeme cannot continue the lexeme, then the lexer takes exactly the lexeme.
use Rattle.std.proofs.Common.{◌≡◌, ◌≢◌, ℕ, Bool, true, false, ltb, List, [], ◌∷◌, ◌++◌, length, drop, Some, refl, sym, ap, subst, ◌∙◌, arith, inl, inr, length-append, append_assoc}
use Rattle.std.specs.List.{list_all, prefix_len, take_while, flat_map}
use Rattle.std.specs.Char.{is_ascii_digit}
use Rattle.std.proofs.lemmas.Bool.{false≢true, ne_eqb, le-ltb, and_parts, or_left, or_right, cases_Bool}
use Rattle.std.proofs.lemmas.List.{append-nil, take_at, drop_at}
use Rattle.types_lex.specs.declared.lexeme.Suffix.{Suffix}
use Rattle.types_lex.specs.declared.lexeme.Suffix.TheVariants as suffixes
use Rattle.types_lex.specs.declared.lexeme.Symbol.TheVariants as symbols
use Rattle.types_lex.specs.Lexeme.{starts_name, is_name_byte, CharForm, char_bytes, suffix_text, LexemeForm, Lower, Upper, Tag, Character, Number, Quoted, Double, Mark, form_bytes, IsForm, IsInRange}
use Rattle.types_lex.specs.LexText.{IsTaken, Word, IsPart}
use Rattle.types_lex.specs.Lexer.{tag_form, word_form, string_form, suffix_at, number_form, double_form, pair_symbol, pair_at, single_symbol, symbol_form, form_at}
use Rattle.types_lex.proofs.CharLaws.{some_is}
use Rattle.types_lex.proofs.NameLaws.{take_while-more}
use Rattle.types_lex.proofs.PrefixLaws.{Wins, form-found, string_form-chars, form_at-word, word_form-lower, word_form-upper, number_form-run, form_at-digit}
use Rattle.types_lex.proofs.TakenLaws.{taken-found}
use Rattle.text_roundtrip.specs.lexed.Lexed.{Ends, NoStar}

-- ---- the form that is found is a part

open_paren_found : (more : List ℕ) → form_at (40 ∷ 42 ∷ more) ≡ Some (Mark symbols.OpenParen)
unfolding form_at symbol_form pair_at pair_symbol single_symbol
open_paren_found more = refl

pub found_part : (form : LexemeForm) (after : List ℕ) → form_at (form_bytes form ++ after) ≡ Some form → (form ≢ Mark symbols.OpenParen) → IsInRange form → IsPart (Word form) after
found_part form after found other range =
    let free : (more : List ℕ) → form_bytes form ++ after ≢ 40 ∷ 42 ∷ more =
    λ more is. other (some_is (sym found ∙ ap form_at is ∙ open_paren_found more)) in
    let t = taken-found (form_bytes form ++ after) form found free in
    let same : t.0 ≡ after = sym (drop_at (form_bytes form) t.0 (length (form_bytes form)) refl) ∙ ap (drop (length (form_bytes form))) (sym t.1) ∙ drop_at (form_bytes form) after (length (form_bytes form)) refl in
    (subst (IsTaken form) same t.2, range)

pub paren_part : (after : List ℕ) → form_at (40 ∷ after) ≡ Some (Mark symbols.OpenParen) → NoStar after → IsPart (Word (Mark symbols.OpenParen)) after
paren_part after found may =
    let t = taken-found (40 ∷ after) (Mark symbols.OpenParen) found (no_star after may) in
    let same : t.0 ≡ after = cc (t.1) in
    (subst (IsTaken (Mark symbols.OpenParen)) same t.2, tt)
  where
    no_star : (after : List ℕ) → NoStar after → (more : List ℕ) → 40 ∷ after ≢ 40 ∷ 42 ∷ more
    no_star [] may more e = absurd cc
    no_star (b ∷ bs) may more e = may cc

-- ---- words

pub ends_run : (after : List ℕ) → Ends after → take_while is_name_byte after ≡ []
ends_run [] e = refl
ends_run (b ∷ bs) e = rw e refl

word_found : (b : ℕ) (bs after : List ℕ) → starts_name b ≡ true → list_all is_name_byte (b ∷ bs) ≡ true → Ends after → form_at (b ∷ bs ++ after) ≡ Some (word_form (b ∷ bs))
word_found b bs after first name ends =
    form_at-word b (bs ++ after) first
    ∙ ap (λ t. Some (word_form t)) (take_while-more is_name_byte (b ∷ bs) after name ∙ ap (λ t. b ∷ bs ++ t) (ends_run after ends) ∙ append-nil (b ∷ bs))

pub lower_found : (name after : List ℕ) → IsForm (Lower name) → Ends after → form_at (name ++ after) ≡ Some (Lower name)
lower_found [] after is ends = absurd is.0
lower_found (b ∷ bs) after is ends = word_found b bs after (or_left _ _ is.0.0) is.0.1 ends ∙ ap (λ f. Some f) (word_form-lower b bs is.0.0 is.1)

pub upper_found : (name after : List ℕ) → IsForm (Upper name) → Ends after → form_at (name ++ after) ≡ Some (Upper name)
upper_found [] after is ends = absurd is
upper_found (b ∷ bs) after is ends = word_found b bs after (or_right _ _ is.0) is.1 ends ∙ ap (λ f. Some f) (word_form-upper b bs is.0)

pub tag_found : (name after : List ℕ) → IsForm (Tag name) → Ends after → form_at (96 ∷ name ++ after) ≡ Some (Tag name)
unfolding form_at tag_form
tag_found [] after is ends = absurd is
tag_found (b ∷ bs) after is ends =
    let run : take_while is_name_byte (b ∷ (bs ++ after)) ≡ b ∷ bs = take_while-more is_name_byte (b ∷ bs) after is.1 ∙ ap (λ t. b ∷ bs ++ t) (ends_run after ends) ∙ append-nil (b ∷ bs) in
    rw (is.0, run) refl

-- ---- numbers

-- A byte that cannot be in a name is neither a digit nor a suffix.
pub no_digit : (b : ℕ) → is_name_byte b ≡ false → is_ascii_digit b ≡ false
no_digit b e = elim (cases_Bool (is_ascii_digit b)) [
  | inr none ↦ none
  | inl digit ↦ absurd (false≢true (sym e ∙ or_left _ _ (or_left _ _ (or_left _ _ (or_left _ _ digit)))))
]

ends_number : (after : List ℕ) → Ends after → (take_while is_ascii_digit after ≡ []) × (suffix_at (drop (prefix_len is_ascii_digit after) after) ≡ suffixes.Absent)
unfolding suffix_at
ends_number [] e = (refl, refl)
ends_number (b ∷ bs) e =
    let no = no_digit b e in
    (rw no refl, rw (no, ne_eqb b 108 (λ is. false≢true (sym e ∙ ap is_name_byte is)), ne_eqb b 76 (λ is. false≢true (sym e ∙ ap is_name_byte is)), ne_eqb b 110 (λ is. false≢true (sym e ∙ ap is_name_byte is))) refl)

number_run : (minus : Bool) (d : ℕ) (ds : List ℕ) (s : Suffix) (after : List ℕ) → list_all is_ascii_digit (d ∷ ds) ≡ true → Ends after
    → number_form minus (d ∷ ds ++ (suffix_text s ++ after)) ≡ Some (Number minus (d ∷ ds) s)
unfolding suffix_at
number_run minus d ds suffixes.Absent after digits ends =
    let e = ends_number after ends in
    number_form-run minus d ds after digits ∙ ap (λ t. Some (Number minus (d ∷ ds ++ t) (suffix_at (drop (prefix_len is_ascii_digit after) after)))) e.0
    ∙ ap (λ s. Some (Number minus (d ∷ ds ++ []) s)) e.1 ∙ ap (λ t. Some (Number minus t suffixes.Absent)) (append-nil (d ∷ ds))
number_run minus d ds suffixes.Int32 after digits ends = number_form-run minus d ds (108 ∷ after) digits ∙ ap (λ t. Some (Number minus t suffixes.Int32)) (append-nil (d ∷ ds))
number_run minus d ds suffixes.Int64 after digits ends = number_form-run minus d ds (76 ∷ after) digits ∙ ap (λ t. Some (Number minus t suffixes.Int64)) (append-nil (d ∷ ds))
number_run minus d ds suffixes.Native after digits ends = number_form-run minus d ds (110 ∷ after) digits ∙ ap (λ t. Some (Number minus t suffixes.Native)) (append-nil (d ∷ ds))

pub number_found : (minus : Bool) (ds : List ℕ) (s : Suffix) (after : List ℕ) → IsForm (Number minus ds s) → Ends after → form_at (form_bytes (Number minus ds s) ++ after) ≡ Some (Number minus ds s)
unfolding form_at
number_found minus [] s after is ends = absurd (is.0 refl)
number_found true (d ∷ ds) s after is ends =
    ap (λ t. number_form true (d ∷ t)) (append_assoc ds (suffix_text s) after) ∙ number_run true d ds s after is.1 ends
number_found false (d ∷ ds) s after is ends =
    form_at-digit d (ds ++ suffix_text s ++ after) (and_parts (is_ascii_digit d) (list_all is_ascii_digit ds) is.1).0
    ∙ ap (λ t. number_form false (d ∷ t)) (append_assoc ds (suffix_text s) after) ∙ number_run false d ds s after is.1 ends

-- ---- lexemes that end by themselves

pub double_found : (ds after : List ℕ) → IsForm (Double ds) → form_at (36 ∷ ds ++ after) ≡ Some (Double ds)
unfolding form_at double_form
double_found ds after is =
    let long : ltb (length (ds ++ after)) 16 ≡ false = le-ltb _ _ (omega (arith, length-append ds after, is.0)) in
    rw (long, take_at ds after 16 is.0, is.1) refl

pub quoted_found : (cs : List CharForm) (after : List ℕ) → IsForm (Quoted cs) → form_at (form_bytes (Quoted cs) ++ after) ≡ Some (Quoted cs)
unfolding form_at
quoted_found cs after each = ap string_form (append_assoc (flat_map char_bytes cs) (34 ∷ []) after) ∙ string_form-chars cs after each

wins_char : (form : LexemeForm) (c : CharForm) → Wins form (Character c) → form ≡ Character c
wins_char form c (inl same) = same
wins_char form c (inr (inl beats)) = absurd (false≢true (sym beats.1))
wins_char form c (inr (inr beats)) = absurd (false≢true (sym beats.1))

pub character_found : (c : CharForm) (after : List ℕ) → IsForm (Character c) → form_at (form_bytes (Character c) ++ after) ≡ Some (Character c)
character_found c after is =
    let f = form-found (Character c) after is in
    f.1 ∙ ap (λ t. Some t) (wins_char f.0 c f.2)

-- The text begins with the bytes of the form that the lexer finds.
use Rattle.std.proofs.Common.{◌≡◌, ℕ, zero, suc, ◌≤◌, Bool, true, false, cond, eqb, ltb, List, [], ◌∷◌, ◌++◌, length, take, drop, Option, Some, None, refl, sym, ap, subst, ◌∙◌, arith, inl, inr, append_assoc}
use Rattle.std.specs.List.{list_all, prefix_len, take_while, flat_map, AllByRecursion}
use Rattle.std.specs.Char.{is_ascii_digit, is_ascii_hexdigit}
use Rattle.std.proofs.lemmas.Bool.{false≢true, eqb-true, eqb-false, ltb-false, cases_Bool}
use Rattle.std.proofs.lemmas.List.{take-append-drop, length-take-le, length-drop}
use Rattle.std.proofs.lemmas.List.Folds.{length-prefix_len}
use Rattle.std.proofs.lemmas.Option.{cond_some}
use Rattle.types_lex.specs.declared.lexeme.Symbol.{Symbol}
use Rattle.types_lex.specs.Lexeme.{starts_name, is_name_byte, CharForm, char_bytes, IsCharForm, minus_text, suffix_text, LexemeForm, Character, Number, Quoted, Double}
use Rattle.types_lex.specs.Lexer.{or_form, closed_char, character_form, quote_form, variable_form, tag_form, word_form, begins_with, char_at, one_more, chars_of, string_form, suffix_at, number_form, double_form, pair_at, single_symbol, or_symbol, symbol_form, form_at}
use Rattle.types_lex.proofs.NumberLaws.{prefix_passes}
use Rattle.types_lex.proofs.SymbolLaws.{single_symbol-is, pair_at-is}
use Rattle.types_lex.proofs.CharLaws.{chosen, no_value, some_is, char_at-is, char_bytes-positive}
use Rattle.types_lex.proofs.NameLaws.{Begins, word-begins, tag_form-begins, variable_form-begins}

pub begins_with-is : (byte : ℕ) (text : List ℕ) → begins_with byte text ≡ true → (rest : List ℕ) × (text ≡ byte ∷ rest)
begins_with-is byte [] e = absurd (false≢true e)
begins_with-is byte (b ∷ bs) e = (bs, ap (λ (c : ℕ). c ∷ bs) (eqb-true b byte e))

-- ---- characters

character_form-begins : (bs : List ℕ) (form : LexemeForm) → character_form bs ≡ Some form → Begins (39 ∷ bs) form
unfolding character_form
character_form-begins bs form e = by_char (char_at 39 bs) refl e
  where
    by_char : (o : Option CharForm) → char_at 39 bs ≡ o → closed_char bs o ≡ Some form → Begins (39 ∷ bs) form
    by_char None at e = absurd (no_value e)
    by_char (Some c) at e =
        let p = cond_some (begins_with 39 (drop (length (char_bytes c)) bs)) (Character c) form e in
        let is = char_at-is 39 bs c at in
        let close = begins_with-is 39 (drop (length (char_bytes c)) bs) p.0 in
        subst (Begins (39 ∷ bs)) p.1 (is.0, (close.0, ap (λ t. 39 ∷ t) (is.1 ∙ ap (λ t. char_bytes c ++ t) close.1 ∙ sym (append_assoc (char_bytes c) (39 ∷ []) close.0))))

quote_form-begins : (bs : List ℕ) (form : LexemeForm) → quote_form bs ≡ Some form → Begins (39 ∷ bs) form
unfolding quote_form
quote_form-begins bs form e = by_character (character_form bs) refl e
  where
    by_character : (o : Option LexemeForm) → character_form bs ≡ o → or_form o (variable_form bs) ≡ Some form → Begins (39 ∷ bs) form
    by_character None at e = variable_form-begins bs form e
    by_character (Some f) at e = character_form-begins bs form (at ∙ e)

-- ---- strings

-- The characters that are read are valid and are a prefix of the text.
abbrev pub AreChars : List ℕ → List CharForm × List ℕ → Type 0
AreChars text read = AllByRecursion (IsCharForm 34) read.0 × (text ≡ flat_map char_bytes read.0 ++ read.1)

pub chars_of-are : (n : ℕ) (text : List ℕ) → AreChars text (chars_of n text)
unfolding chars_of
chars_of-are zero text = (tt, refl)
chars_of-are (suc n) text = by_char (chars_of-are n) (char_at 34 text) refl
  where
    by_char : ((t : List ℕ) → AreChars t (chars_of n t)) → (o : Option CharForm) → char_at 34 text ≡ o → AreChars text (one_more (chars_of n) text o)
    by_char others None at = (tt, refl)
    by_char others (Some c) at =
        let is = char_at-is 34 text c at in
        let more = others (drop (length (char_bytes c)) text) in
        ((is.0, more.0), is.1 ∙ ap (λ t. char_bytes c ++ t) more.1 ∙ sym (append_assoc (char_bytes c) _ _))

-- If the bound is at least the length of the text, then reading ends where no character begins.
pub chars_of-stop : (n : ℕ) (text : List ℕ) → length text ≤ n → char_at 34 (chars_of n text).1 ≡ None
unfolding chars_of char_at
chars_of-stop zero [] le = refl
chars_of-stop zero (b ∷ bs) le = absurd (omega arith)
chars_of-stop (suc n) text le = by_char (chars_of-stop n) (char_at 34 text) refl
  where
    by_char : ((t : List ℕ) → length t ≤ n → char_at 34 (chars_of n t).1 ≡ None) → (o : Option CharForm) → char_at 34 text ≡ o → char_at 34 (one_more (chars_of n) text o).1 ≡ None
    by_char others None at = at
    by_char others (Some c) at = others (drop (length (char_bytes c)) text) (omega (arith, length-drop (length (char_bytes c)) text, char_bytes-positive c))

string_form-begins : (bs : List ℕ) (form : LexemeForm) → string_form bs ≡ Some form → Begins (34 ∷ bs) form
unfolding string_form
string_form-begins bs form e =
    let read = chars_of (length bs) bs in
    let p = cond_some (begins_with 34 read.1) (Quoted read.0) form e in
    let are = chars_of-are (length bs) bs in
    let close = begins_with-is 34 read.1 p.0 in
    subst (Begins (34 ∷ bs)) p.1 (are.0, (close.0, ap (λ t. 34 ∷ t) (are.1 ∙ ap (λ t. flat_map char_bytes read.0 ++ t) close.1 ∙ sym (append_assoc (flat_map char_bytes read.0) (34 ∷ []) close.0))))

-- ---- numbers and symbols

suffix_at-is : (bs : List ℕ) → (rest : List ℕ) × (bs ≡ suffix_text (suffix_at bs) ++ rest)
unfolding suffix_at
suffix_at-is [] = ([], refl)
suffix_at-is (b ∷ bs) =
    elim (cases_Bool (eqb b 108)) [
      | inl e ↦ rw e (bs, ap (λ (c : ℕ). c ∷ bs) (eqb-true b 108 e))
      | inr e ↦ elim (cases_Bool (eqb b 76)) [
        | inl f ↦ rw (e, f) (bs, ap (λ (c : ℕ). c ∷ bs) (eqb-true b 76 f))
        | inr f ↦ elim (cases_Bool (eqb b 110)) [
          | inl g ↦ rw (e, f, g) (bs, ap (λ (c : ℕ). c ∷ bs) (eqb-true b 110 g))
          | inr g ↦ rw (e, f, g) (b ∷ bs, refl)
        ]
      ]
    ]

number_form-begins : (minus : Bool) (bs : List ℕ) (form : LexemeForm) → number_form minus bs ≡ Some form → Begins (minus_text minus ++ bs) form
unfolding number_form
number_form-begins minus bs form e =
    let count = prefix_len is_ascii_digit bs in
    let digits = take count bs in
    let suffix = suffix_at-is (drop count bs) in
    elim (chosen (eqb count 0) None (Some (Number minus digits (suffix_at (drop count bs)))) (Some form) e) [
      | inl h ↦ absurd (no_value h.1)
      | inr h ↦
          let some : (digits ≡ [] → ⊥) = λ none. eqb-false count 0 h.0 (sym (length-prefix_len is_ascii_digit bs) ∙ ap length none) in
          let parts : bs ≡ (digits ++ suffix_text (suffix_at (drop count bs))) ++ suffix.0 = sym (take-append-drop count bs) ∙ ap (λ t. digits ++ t) suffix.1 ∙ sym (append_assoc digits (suffix_text (suffix_at (drop count bs))) suffix.0) in
          subst (Begins (minus_text minus ++ bs)) (some_is h.1) ((some, prefix_passes is_ascii_digit bs), (suffix.0, ap (λ t. minus_text minus ++ t) parts ∙ sym (append_assoc (minus_text minus) _ suffix.0)))
    ]

double_form-begins : (bs : List ℕ) (form : LexemeForm) → double_form bs ≡ Some form → Begins (36 ∷ bs) form
unfolding double_form
double_form-begins bs form e =
    elim (chosen (ltb (length bs) 16) None (cond (list_all is_ascii_hexdigit (take 16 bs)) (Some (Double (take 16 bs))) None) (Some form) e) [
      | inl h ↦ absurd (no_value h.1)
      | inr h ↦
          let p = cond_some (list_all is_ascii_hexdigit (take 16 bs)) (Double (take 16 bs)) form h.1 in
          subst (Begins (36 ∷ bs)) p.1 ((length-take-le 16 bs (ltb-false (length bs) 16 h.0), p.0), (drop 16 bs, ap (λ t. 36 ∷ t) (sym (take-append-drop 16 bs))))
    ]

symbol_form-begins : (a : ℕ) (bs : List ℕ) (form : LexemeForm) → symbol_form a bs ≡ Some form → Begins (a ∷ bs) form
unfolding symbol_form
symbol_form-begins a bs form e = by_pair (pair_at a bs) refl e
  where
    by_single : (o : Option Symbol) → single_symbol a ≡ o → or_symbol None o ≡ Some form → Begins (a ∷ bs) form
    by_single None at e = absurd (no_value e)
    by_single (Some s) at e = subst (Begins (a ∷ bs)) (some_is e) (tt, (bs, ap (λ t. t ++ bs) (single_symbol-is a s at)))

    by_pair : (o : Option Symbol) → pair_at a bs ≡ o → or_symbol o (single_symbol a) ≡ Some form → Begins (a ∷ bs) form
    by_pair None at e = by_single (single_symbol a) refl e
    by_pair (Some s) at e = let is = pair_at-is a bs s at in subst (Begins (a ∷ bs)) (some_is e) (tt, (is.0, is.1))

-- ---- all forms

pub form_at-begins : (text : List ℕ) (form : LexemeForm) → form_at text ≡ Some form → Begins text form
unfolding form_at
form_at-begins [] form e = absurd (no_value e)
form_at-begins (b ∷ bs) form e =
    elim (chosen (eqb b 34) (string_form bs) _ (Some form) e) [
      | inl h ↦ rw (eqb-true b 34 h.0) (string_form-begins bs form h.1)
      | inr h ↦ elim (chosen (eqb b 39) (quote_form bs) _ (Some form) h.1) [
        | inl h ↦ rw (eqb-true b 39 h.0) (quote_form-begins bs form h.1)
        | inr h ↦ elim (chosen (eqb b 96) (tag_form bs) _ (Some form) h.1) [
          | inl h ↦ rw (eqb-true b 96 h.0) (tag_form-begins bs form h.1)
          | inr h ↦ elim (chosen (eqb b 36) (double_form bs) _ (Some form) h.1) [
            | inl h ↦ rw (eqb-true b 36 h.0) (double_form-begins bs form h.1)
            | inr h ↦ elim (chosen (eqb b 45) (number_form true bs) _ (Some form) h.1) [
              | inl h ↦ rw (eqb-true b 45 h.0) (number_form-begins true bs form h.1)
              | inr h ↦ elim (chosen (starts_name b) (Some (word_form (take_while is_name_byte (b ∷ bs)))) _ (Some form) h.1) [
                | inl h ↦ subst (Begins (b ∷ bs)) (some_is h.1) (word-begins b bs h.0)
                | inr h ↦ elim (chosen (is_ascii_digit b) (number_form false (b ∷ bs)) (symbol_form b bs) (Some form) h.1) [
                  | inl h ↦ number_form-begins false (b ∷ bs) form h.1
                  | inr h ↦ symbol_form-begins b bs form h.1
                ]
              ]
            ]
          ]
        ]
      ]
    ]

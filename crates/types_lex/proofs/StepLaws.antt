-- The step that the lexer finds is the part or the fault of the grammar.
use Rattle.std.proofs.Common.{◌≡◌, ◌≢◌, ℕ, ◌+◌, true, false, ◌&&◌, eqb, List, [], ◌∷◌, ◌++◌, length, Some, None, Ok, Err, refl, sym, ap, ◌∙◌, arith, inl, inr, length-append, append_assoc}
use Rattle.std.specs.List.{flat_map}
use Rattle.std.proofs.lemmas.Bool.{false≢true, true≢false, ne_eqb, eqb-true, and_parts, or_cases, false_from_ne_true, le-leb, lt-leb, leb-true, leb-false}
use Rattle.std.proofs.lemmas.Option.{cond_some}
use Rattle.types_lex.specs.declared.lexeme.LexFault.TheVariants as faults
use Rattle.types_lex.specs.Lexeme.{is_separator, number_in, greatest, LexemeForm, Reserved, Lower, Upper, Tag, Variable, Character, Number, Quoted, Double, Mark, form_bytes, IsInRange, IsTooBig}
use Rattle.types_lex.specs.LexText.{Cut, cut_bytes, IsInside, IsTaken, TextPart, Separator, Comment, Word, part_bytes, IsPart}
use Rattle.types_lex.specs.declared.found_lexeme.LexStep.{LexStep}
use Rattle.types_lex.specs.declared.found_lexeme.LexStep.TheVariants as steps
use Rattle.types_lex.specs.Lexer.{begins_with, chars_of, string_form, pair_at, pair_symbol, single_symbol, symbol_form, form_at, in_range, found, found_at, string_at, lexeme_at, closing, gap_of, word_of, step_at}
use Rattle.types_lex.proofs.CharLaws.{chosen, no_value}
use Rattle.types_lex.proofs.FormLaws.{begins_with-is}
use Rattle.types_lex.proofs.TakenLaws.{found-taken}
use Rattle.types_lex.proofs.InsideLaws.{inside_text, closing-inside}

abbrev pub part_step : TextPart → LexStep
part_step (Separator b) = steps.Gap 1
part_step (Comment inside) = steps.Gap (length (part_bytes (Comment inside)))
part_step (Word form) = steps.Word (found form)

-- ---- separators and comments begin no form

-- If no form begins with a byte at the end of a text or before another byte, then no form begins
-- with the byte.
begins_none : (b : ℕ) → form_at (b ∷ []) ≡ None → ((next : ℕ) (bs : List ℕ) → form_at (b ∷ next ∷ bs) ≡ None) → (bs : List ℕ) → form_at (b ∷ bs) ≡ None
begins_none b alone before [] = alone
begins_none b alone before (next ∷ bs) = before next bs

separator_no_form : (b : ℕ) (bs : List ℕ) → is_separator b ≡ true → form_at (b ∷ bs) ≡ None
unfolding form_at symbol_form pair_at pair_symbol single_symbol
separator_no_form b bs e =
    elim (or_cases _ (eqb b 13) e) [
      | inr h ↦ rw (eqb-true b 13 h) (begins_none 13 refl (λ next more. refl) bs)
      | inl e ↦
          elim (or_cases _ (eqb b 12) e) [
            | inr h ↦ rw (eqb-true b 12 h) (begins_none 12 refl (λ next more. refl) bs)
            | inl e ↦
                elim (or_cases _ (eqb b 10) e) [
                  | inr h ↦ rw (eqb-true b 10 h) (begins_none 10 refl (λ next more. refl) bs)
                  | inl e ↦
                      elim (or_cases (eqb b 32) (eqb b 9) e) [ inr h ↦ rw (eqb-true b 9 h) (begins_none 9 refl (λ next more. refl) bs) | inl h ↦ rw (eqb-true b 32 h) (begins_none 32 refl (λ next more. refl) bs) ]
                ]
          ]
    ]

-- If the two tests for a comment succeed, then the text begins with `(*`.
pub comment_test : (b : ℕ) (bs : List ℕ) → (eqb b 40 && begins_with 42 bs) ≡ true → (more : List ℕ) × (b ∷ bs ≡ 40 ∷ 42 ∷ more)
comment_test b bs e =
    let both = and_parts (eqb b 40) (begins_with 42 bs) e in
    let star = begins_with-is 42 bs both.1 in
    (star.0, λ i. eqb-true b 40 both.0 i ∷ star.1 i)

pub no_comment_test : (b : ℕ) (bs : List ℕ) → ((more : List ℕ) → b ∷ bs ≢ 40 ∷ 42 ∷ more) → (eqb b 40 && begins_with 42 bs) ≡ false
no_comment_test b bs free = false_from_ne_true _ (λ e. let c = comment_test b bs e in free c.0 c.1)

pub no_comment : (b : ℕ) (bs more : List ℕ) → (eqb b 40 && begins_with 42 bs) ≡ false → b ∷ bs ≢ 40 ∷ 42 ∷ more
no_comment b bs more e is =
    let first : b ≡ 40 = cc in
    let others : bs ≡ 42 ∷ more = cc in
    let test : (eqb b 40 && begins_with 42 bs) ≡ true = rw (first, others) refl in
    false≢true (sym e ∙ test)

-- ---- a form at the start of a text

pub string_form-at : (bs : List ℕ) (form : LexemeForm) → string_form bs ≡ Some form → string_at bs ≡ found_at (Some form)
unfolding string_form string_at
string_form-at bs form e =
    let read = chars_of (length bs) bs in
    let p = cond_some (begins_with 34 read.1) (Quoted read.0) form e in
    let close = begins_with-is 34 read.1 p.0 in
    rw (close.1, ← p.1) refl

pub lexeme-some : (text : List ℕ) (form : LexemeForm) → form_at text ≡ Some form → lexeme_at text ≡ found_at (Some form)
unfolding lexeme_at form_at
lexeme-some [] form e = absurd (no_value e)
lexeme-some (b ∷ bs) form e =
    elim (chosen (eqb b 34) (string_form bs) _ (Some form) e) [
      | inl h ↦ rw h.0 (string_form-at bs form h.1)
      | inr h ↦ rw h.0 (ap found_at h.1)
    ]

pub lexeme-none : (b : ℕ) (bs : List ℕ) → b ≢ 34 → form_at (b ∷ bs) ≡ None → lexeme_at (b ∷ bs) ≡ Err (faults.BadByte 0)
unfolding lexeme_at
lexeme-none b bs no_string e = rw (ne_eqb b 34 no_string, e) refl

-- If the text begins with no separator and no comment, then the step is the lexeme at the start of
-- the text.
pub step-lexeme : (b : ℕ) (bs : List ℕ) → is_separator b ≡ false → (eqb b 40 && begins_with 42 bs) ≡ false → step_at (b ∷ bs) ≡ word_of (lexeme_at (b ∷ bs))
unfolding step_at
step-lexeme b bs no_separator no_bracket = rw (no_separator, no_bracket) refl

pub no_separator-form : (b : ℕ) (bs : List ℕ) (form : LexemeForm) → form_at (b ∷ bs) ≡ Some form → is_separator b ≡ false
no_separator-form b bs form e = false_from_ne_true _ (λ sep. no_value (sym (separator_no_form b bs sep) ∙ e))

-- If a form is the lexeme of the grammar at the start of the text, then the step finds the form.
pub step-taken : (text : List ℕ) (form : LexemeForm) (after : List ℕ) → text ≡ form_bytes form ++ after → IsTaken form after → step_at text ≡ word_of (found_at (Some form))
unfolding form_at
step-taken text form after is taken = by_text text is (ap form_at is ∙ found-taken form after taken)
  where
    by_text : (t : List ℕ) → t ≡ form_bytes form ++ after → form_at t ≡ Some form → step_at t ≡ word_of (found_at (Some form))
    by_text [] is e = absurd (no_value e)
    by_text (b ∷ bs) is e =
        step-lexeme b bs (no_separator-form b bs form e) (no_comment_test b bs (λ more c. taken.no_comment more (sym is ∙ c)))
        ∙ ap word_of (lexeme-some (b ∷ bs) form e)

in_range-is : (form : LexemeForm) → IsInRange form → in_range form ≡ true
in_range-is (Reserved k) h = refl
in_range-is (Lower name) h = refl
in_range-is (Upper name) h = refl
in_range-is (Tag name) h = refl
in_range-is (Variable name) h = refl
in_range-is (Character c) h = refl
in_range-is (Number minus digits s) h = le-leb (number_in 10 digits) (greatest minus) h
in_range-is (Quoted cs) h = refl
in_range-is (Double ds) h = refl
in_range-is (Mark s) h = refl

pub is-in_range : (form : LexemeForm) → in_range form ≡ true → IsInRange form
is-in_range (Reserved k) h = tt
is-in_range (Lower name) h = tt
is-in_range (Upper name) h = tt
is-in_range (Tag name) h = tt
is-in_range (Variable name) h = tt
is-in_range (Character c) h = tt
is-in_range (Number minus digits s) h = leb-true (number_in 10 digits) (greatest minus) h
is-in_range (Quoted cs) h = tt
is-in_range (Double ds) h = tt
is-in_range (Mark s) h = tt

pub too_big-is : (form : LexemeForm) → IsTooBig form → in_range form ≡ false
too_big-is (Number minus digits s) h = lt-leb (number_in 10 digits) (greatest minus) h
too_big-is form h = absurd h

pub is-too_big : (form : LexemeForm) → in_range form ≡ false → IsTooBig form
is-too_big (Number minus digits s) h = leb-false (number_in 10 digits) (greatest minus) h
is-too_big (Reserved k) h = true≢false h
is-too_big (Lower name) h = true≢false h
is-too_big (Upper name) h = true≢false h
is-too_big (Tag name) h = true≢false h
is-too_big (Variable name) h = true≢false h
is-too_big (Character c) h = true≢false h
is-too_big (Quoted cs) h = true≢false h
is-too_big (Double ds) h = true≢false h
is-too_big (Mark s) h = true≢false h

-- ---- the lexer finds the part of the grammar

pub comment_regrouped : (inside : List Cut) (after : List ℕ) → (flat_map cut_bytes inside ++ 42 ∷ 41 ∷ []) ++ after ≡ inside_text inside after
comment_regrouped inside after = append_assoc (flat_map cut_bytes inside) (42 ∷ 41 ∷ []) after

step-comment : (inside : List Cut) (after : List ℕ) → IsInside inside after → step_at (part_bytes (Comment inside) ++ after) ≡ Ok (part_step (Comment inside))
unfolding step_at
step-comment inside after is =
    let end = closing-inside inside 0 after is.0 is.1 in
    let long : length (flat_map cut_bytes inside) + 2 + 2 ≡ length (part_bytes (Comment inside)) = omega (arith, length-append (flat_map cut_bytes inside) (42 ∷ 41 ∷ [])) in
    ap (λ t. gap_of (closing 0 t)) (comment_regrouped inside after) ∙ ap gap_of end ∙ ap (λ n. Ok (steps.Gap n)) long

pub step-part : (part : TextPart) (after : List ℕ) → IsPart part after → step_at (part_bytes part ++ after) ≡ Ok (part_step part)
unfolding step_at
step-part (Separator b) after is = rw is refl
step-part (Comment inside) after is = step-comment inside after is
step-part (Word form) after is = step-taken (form_bytes form ++ after) form after refl is.0 ∙ rw (in_range-is form is.1) refl

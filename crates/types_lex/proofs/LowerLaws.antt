-- The lowercase name at the start of a text, or the absence of a lowercase name.
use Rattle.std.proofs.Common.{◌≡◌, ℕ, suc, ◌+◌, ◌<◌, true, false, List, [], ◌∷◌, ◌++◌, length, take, get_or, Option, Some, None, Result, Ok, Err, refl, sym, ap, ◌∙◌, arith, inl, inr}
use Rattle.std.specs.List.{prefix_len, take_while}
use Rattle.std.proofs.lemmas.Bool.{true≢false, cases_Bool}
use Rattle.types_lex.specs.declared.lexeme.Keyword.{Keyword}
use Rattle.types_lex.specs.declared.lexeme.LexFault.{LexFault}
use Rattle.types_lex.specs.declared.found_lexeme.FoundLexeme.{FoundLexeme}
use Rattle.types_lex.specs.declared.found_lexeme.LexStep.{LexStep}
use Rattle.types_lex.specs.declared.found_lexeme.LexStep.TheVariants as steps
use Rattle.types_lex.specs.Lexeme.{starts_lower, starts_name, is_name_byte, LexemeForm, Reserved, Lower, Upper, Tag, Variable, Character, Number, Quoted, Double, Mark, form_bytes, form_kind, IsForm}
use Rattle.types_lex.specs.LexText.{TextPart, Separator, Comment, Word, part_bytes, IsPart}
use Rattle.types_lex.specs.Lexemes.{lexeme_in, lower_name}
use Rattle.types_lex.specs.Lexer.{keyword_of, cased_form, reserved_or, word_form, in_range, found, found_at, word_of, step_at}
use Rattle.types_lex.proofs.NameLaws.{name_byte-from_start}
use Rattle.types_lex.proofs.WordLaws.{reserved_word}
use Rattle.types_lex.proofs.PrefixLaws.{form_at-word}
use Rattle.types_lex.proofs.StepLaws.{part_step, no_comment_test, lexeme-some, step-lexeme, no_separator-form}
use Rattle.types_lex.proofs.FaultLaws.{IsStepAt, step_at-is}

abbrev name_of : Result LexStep LexFault → List ℕ
name_of r = lower_name (Some (lexeme_in 0 r).kind)

-- ---- the first byte begins no lowercase name

no_form : (b : ℕ) (bs after : List ℕ) (form : LexemeForm) → starts_lower b ≡ false → IsForm form → b ∷ bs ≡ form_bytes form ++ after → [] ≡ lower_name (Some (form_kind form))
no_form b bs after (Lower []) e is same = absurd is.0
no_form b bs after (Lower (n ∷ ns)) e is same = let first : b ≡ n = cc in absurd (true≢false (sym is.0.0 ∙ ap starts_lower (sym first) ∙ e))
no_form b bs after (Reserved k) e is same = refl
no_form b bs after (Upper name) e is same = refl
no_form b bs after (Tag name) e is same = refl
no_form b bs after (Variable name) e is same = refl
no_form b bs after (Character c) e is same = refl
no_form b bs after (Number minus digits s) e is same = refl
no_form b bs after (Quoted cs) e is same = refl
no_form b bs after (Double ds) e is same = refl
no_form b bs after (Mark s) e is same = refl

no_part : (b : ℕ) (bs after : List ℕ) (part : TextPart) → starts_lower b ≡ false → IsPart part after → b ∷ bs ≡ part_bytes part ++ after → [] ≡ name_of (Ok (part_step part))
no_part b bs after (Separator s) e is same = refl
no_part b bs after (Comment inside) e is same = refl
no_part b bs after (Word form) e is same = no_form b bs after form e is.0.written same

pub lower_none : (text : List ℕ) (d : ℕ) → 0 < length text → starts_lower (get_or text 0 d) ≡ false → [] ≡ name_of (step_at text)
lower_none [] d lt e = absurd (omega arith)
lower_none (b ∷ bs) d lt e = by_step (step_at (b ∷ bs)) (step_at-is b bs)
  where
    by_step : (r : Result LexStep LexFault) → IsStepAt (b ∷ bs) r → [] ≡ name_of r
    by_step (Err f) is = refl
    by_step (Ok step) is = no_part b bs is.after is.part e is.fits is.is ∙ ap (λ (s : LexStep). name_of (Ok s)) is.step_is

pub lower_empty : (text : List ℕ) → length text < 1 → [] ≡ name_of (step_at text)
unfolding step_at
lower_empty [] lt = refl
lower_empty (b ∷ bs) lt = absurd (omega arith)

-- ---- the first byte begins a lowercase name

word_in_range : (name : List ℕ) → in_range (word_form name) ≡ true
unfolding word_form
word_in_range name = by_key (keyword_of name)
  where
    cased : (word : List ℕ) → in_range (cased_form word) ≡ true
    cased [] = refl
    cased (b ∷ bs) = elim (cases_Bool (starts_lower b)) [ inl e ↦ rw e refl | inr e ↦ rw e refl ]

    by_key : (o : Option Keyword) → in_range (reserved_or (cased_form name) o) ≡ true
    by_key None = cased name
    by_key (Some k) = refl

lower_step : (b : ℕ) (bs : List ℕ) → starts_lower b ≡ true → step_at (b ∷ bs) ≡ Ok (steps.Word (found (word_form (take_while is_name_byte (b ∷ bs)))))
lower_step b bs e =
    let first : starts_name b ≡ true = rw e refl in
    let form = form_at-word b bs first in
    let here : found_at (Some (word_form (take_while is_name_byte (b ∷ bs)))) ≡ Ok (found (word_form (take_while is_name_byte (b ∷ bs)))) = rw (word_in_range (take_while is_name_byte (b ∷ bs))) refl in
    step-lexeme b bs (no_separator-form b bs (word_form (take_while is_name_byte (b ∷ bs))) form)
    (no_comment_test b bs (λ more is. let h : b ≡ 40 = cc in let other : starts_lower b ≡ false = ap starts_lower h in true≢false (sym e ∙ other)))
    ∙ ap word_of (lexeme-some (b ∷ bs) (word_form (take_while is_name_byte (b ∷ bs))) form ∙ here)

word_kind : (b : ℕ) (bs : List ℕ) → starts_lower b ≡ true → keyword_of (b ∷ bs) ≡ None → b ∷ bs ≡ lower_name (Some (form_kind (word_form (b ∷ bs))))
unfolding word_form
word_kind b bs e none = rw (none, e) refl

pub lower_some : (text : List ℕ) (d n : ℕ) → 0 < length text → starts_lower (get_or text 0 d) ≡ true → n ≡ prefix_len is_name_byte text → keyword_of (take n text) ≡ None → take n text ≡ name_of (step_at text)
lower_some [] d n lt e long none = absurd (omega arith)
lower_some (b ∷ bs) d n lt e long none =
    let name : take n (b ∷ bs) ≡ take_while is_name_byte (b ∷ bs) = ap (λ k. take k (b ∷ bs)) long in
    let one : 1 + prefix_len is_name_byte bs ≡ suc (prefix_len is_name_byte bs) = omega arith in
    let starts : starts_name b ≡ true = rw e refl in
    let more : take_while is_name_byte (b ∷ bs) ≡ b ∷ take_while is_name_byte bs = rw (name_byte-from_start b starts) (ap (λ k. take k (b ∷ bs)) one) in
    let key : keyword_of (b ∷ take_while is_name_byte bs) ≡ None = ap keyword_of (sym (name ∙ more)) ∙ none in
    name ∙ more ∙ word_kind b (take_while is_name_byte bs) e key
    ∙ ap (λ w. lower_name (Some (form_kind (word_form w)))) (sym more)
    ∙ ap name_of (sym (lower_step b bs e))

pub lower_keyword : (text : List ℕ) (d n : ℕ) (k : Keyword) → 0 < length text → starts_lower (get_or text 0 d) ≡ true → n ≡ prefix_len is_name_byte text → keyword_of (take n text) ≡ Some k → [] ≡ name_of (step_at text)
lower_keyword [] d n k lt e long some = absurd (omega arith)
lower_keyword (b ∷ bs) d n k lt e long some =
    ap (λ (w : FoundLexeme). name_of (Ok (steps.Word w))) (sym (reserved_word (b ∷ bs) k n long some))
    ∙ ap name_of (sym (lower_step b bs e))

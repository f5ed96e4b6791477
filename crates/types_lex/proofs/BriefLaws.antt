-- The brief steps agree with the full steps.
use Rattle.std.proofs.Common.{◌≡◌, ℕ, ◌+◌, ◌≤◌, Bool, true, false, ◌&&◌, cond, eqb, List, [], ◌∷◌, ◌++◌, length, get_or, ◌<◌, take, drop, Option, Some, None, Ok, Err, Result, refl, sym, ap, subst, ◌∙◌, arith, inl, inr}
use Rattle.std.specs.List.{take_while, prefix_len}
use Rattle.std.proofs.lemmas.Bool.{eqb-true, cases_Bool}
use Rattle.types_lex.specs.declared.lexeme.Keyword.{Keyword}
use Rattle.types_lex.specs.declared.lexeme.LexemeKind.TheVariants as kinds
use Rattle.types_lex.specs.declared.lexeme.Symbol.{Symbol}
use Rattle.types_lex.specs.declared.lexeme.Symbol.TheVariants as symbols
use Rattle.types_lex.specs.declared.lexeme.LexFault.{LexFault}
use Rattle.types_lex.specs.declared.lexeme.LexFault.TheVariants as faults
use Rattle.types_lex.specs.declared.found_lexeme.FoundLexeme.{FoundLexeme}
use Rattle.types_lex.specs.declared.found_lexeme.LexStep.{LexStep}
use Rattle.types_lex.specs.declared.found_lexeme.LexStep.TheVariants.{Gap, Word}
use Rattle.types_lex.specs.Lexeme.{is_separator, starts_name, starts_lower, is_name_byte, is_plain}
use Rattle.types_lex.specs.declared.lexeme.Lexeme.{Lexeme}
use Rattle.types_lex.specs.Lexemes.{lexeme_in, lexeme_from, Reached}
use Rattle.types_lex.specs.LexText.{Answers}
use Rattle.types_lex.specs.Brief.{lone_symbol, IsBrief, FindsBrief, StepsBrief}
use Rattle.types_lex.specs.Lexer.{begins_with, cased_form, reserved_or, keyword_of, word_form, in_range, found, found_at, form_at, symbol_form, pair_at, pair_symbol, single_symbol, string_at, lexeme_at, step_at, word_of}
use Rattle.types_lex.proofs.CharLaws.{chosen, some_is, no_value, ReadsChars, reads_plain}

-- ---- brief strings

pub reads_to_end : (text : List ℕ) (at : ℕ) (value : List ℕ) (end : ℕ) → ReadsChars text at value → end ≡ at + prefix_len is_plain (drop at text) → (more : List ℕ) × ReadsChars text end more
reads_to_end text at value end r is = (_, reads_plain text at value end _ r (record { end_is = is; new_is = refl }))

pub end_onward : (text : List ℕ) (at end : ℕ) → end ≡ at + prefix_len is_plain (drop at text) → at ≤ end
end_onward text at end is = omega (arith, is)

pub closes_brief : (e : Result FoundLexeme LexFault) (value kept : List ℕ) (len : ℕ) → e ≡ Ok (record { kind = kinds.Text value; len = len }) → kept ≡ [] → FindsBrief (Ok (record { kind = kinds.Text kept; len = len })) e
closes_brief e value kept len is none =
    subst (FindsBrief (Ok (record { kind = kinds.Text kept; len = len }))) (sym is) (refl, inr (ap (λ (x : List ℕ). kinds.Text x) none))

-- ---- words

pub same_brief : (w full : FoundLexeme) → full ≡ w → FindsBrief (Ok w) (Ok full)
same_brief w full e = (ap (λ (f : FoundLexeme). f.len) (sym e), inl (ap (λ (f : FoundLexeme). f.kind) (sym e)))

pub none_word : (text : List ℕ) (len : ℕ) → len ≡ prefix_len is_name_byte text → keyword_of (take len text) ≡ None → word_form (take_while is_name_byte text) ≡ cased_form (take len text)
unfolding word_form
none_word text len is none = rw (← is, none) refl

-- ---- steps

string_step : (bs : List ℕ) → step_at (34 ∷ bs) ≡ word_of (string_at bs)
unfolding step_at lexeme_at
string_step bs = refl

other_byte : (b k : ℕ) → starts_name b ≡ true → starts_name k ≡ false → eqb b k ≡ false
other_byte b k is isnt =
    elim (cases_Bool (eqb b k)) [
      | inl e ↦ absurd (no_bool (sym is ∙ ap starts_name (eqb-true b k e) ∙ isnt))
      | inr e ↦ e
    ]
  where
    no_bool : true ≡ false → ⊥
    no_bool e = cc

cased_in_range : (name : List ℕ) → in_range (cased_form name) ≡ true
cased_in_range [] = refl
cased_in_range (b ∷ bs) = by_case (starts_lower b) refl where
  by_case : (c : Bool) → starts_lower b ≡ c → in_range (cased_form (b ∷ bs)) ≡ true
  by_case true e = rw e refl
  by_case false e = rw e refl

word_in_range : (name : List ℕ) → in_range (word_form name) ≡ true
unfolding word_form
word_in_range name = by_keyword (keyword_of name) where
  by_keyword : (o : Option Keyword) → in_range (reserved_or (cased_form name) o) ≡ true
  by_keyword None = cased_in_range name
  by_keyword (Some k) = refl

found_word : (name : List ℕ) → found_at (Some (word_form name)) ≡ Ok (found (word_form name))
found_word name = rw (word_in_range name) refl

skip : {A : Type 0} (t : Bool) (x y z : A) → t ≡ false → y ≡ z → cond t x y ≡ z
skip t x y z not is = rw not is

take_first : {A : Type 0} (t : Bool) (x y z : A) → t ≡ true → x ≡ z → cond t x y ≡ z
take_first t x y z so is = rw so is

not_separator : (b : ℕ) → starts_name b ≡ true → is_separator b ≡ false
not_separator b is = rw (other_byte b 32 is refl, other_byte b 9 is refl, other_byte b 10 is refl, other_byte b 12 is refl, other_byte b 13 is refl) refl

not_comment : (b : ℕ) (bs : List ℕ) → starts_name b ≡ true → (eqb b 40 && begins_with 42 bs) ≡ false
not_comment b bs is = rw (other_byte b 40 is refl) refl

name_form : (b : ℕ) (bs : List ℕ) → starts_name b ≡ true → form_at (b ∷ bs) ≡ Some (word_form (take_while is_name_byte (b ∷ bs)))
unfolding form_at
name_form b bs is =
    skip (eqb b 34) _ _ _ (other_byte b 34 is refl) (skip (eqb b 39) _ _ _ (other_byte b 39 is refl) (skip (eqb b 96) _ _ _ (other_byte b 96 is refl)
    (skip (eqb b 36) _ _ _ (other_byte b 36 is refl) (skip (eqb b 45) _ _ _ (other_byte b 45 is refl) (take_first (starts_name b) _ _ _ is refl)))))

name_lexeme : (b : ℕ) (bs : List ℕ) → starts_name b ≡ true → lexeme_at (b ∷ bs) ≡ Ok (found (word_form (take_while is_name_byte (b ∷ bs))))
unfolding lexeme_at
name_lexeme b bs is =
    skip (eqb b 34) _ _ _ (other_byte b 34 is refl) (ap found_at (name_form b bs is) ∙ found_word (take_while is_name_byte (b ∷ bs)))

name_step : (b : ℕ) (bs : List ℕ) → starts_name b ≡ true → step_at (b ∷ bs) ≡ word_of (Ok (found (word_form (take_while is_name_byte (b ∷ bs)))))
unfolding step_at
name_step b bs is =
    skip (is_separator b) _ _ _ (not_separator b is) (skip (eqb b 40 && begins_with 42 bs) _ _ _ (not_comment b bs is) (ap word_of (name_lexeme b bs is)))

pub no_step : (text : List ℕ) → length text ≡ 0 → step_at text ≡ Err (faults.BadByte 0)
unfolding step_at
no_step [] none = refl
no_step (b ∷ bs) none = absurd (omega (arith, none))

pub prefix_string : (text : List ℕ) → 0 < length text → get_or text 0 0 ≡ 34 → step_at text ≡ word_of (string_at (drop 1 text))
prefix_string [] some is = absurd (omega (arith, some))
prefix_string (b ∷ bs) some is = ap (λ (c : ℕ). step_at (c ∷ bs)) is ∙ string_step bs

pub prefix_name : (text : List ℕ) → 0 < length text → starts_name (get_or text 0 0) ≡ true → step_at text ≡ word_of (Ok (found (word_form (take_while is_name_byte text))))
prefix_name [] some is = absurd (omega (arith, some))
prefix_name (b ∷ bs) some is = name_step b bs is

pub prefix_gap : (text : List ℕ) → 0 < length text → is_separator (get_or text 0 0) ≡ true → step_at text ≡ Ok (Gap 1)
unfolding step_at
prefix_gap [] some is = absurd (omega (arith, some))
prefix_gap (b ∷ bs) some is = take_first (is_separator b) _ _ _ is refl

-- ---- symbols

abbrev symbol_step : Symbol → Result LexStep LexFault
symbol_step s = Ok (Word (record { kind = kinds.Symbol s; len = 1 }))

comma_step : (bs : List ℕ) → step_at (44 ∷ bs) ≡ symbol_step symbols.Comma
unfolding step_at lexeme_at form_at symbol_form pair_at pair_symbol single_symbol
comma_step [] = refl
comma_step (b ∷ bs) = refl

paren_step : (bs : List ℕ) → step_at (41 ∷ bs) ≡ symbol_step symbols.CloseParen
unfolding step_at lexeme_at form_at symbol_form pair_at pair_symbol single_symbol
paren_step [] = refl
paren_step (b ∷ bs) = refl

equals_step : (bs : List ℕ) → step_at (61 ∷ bs) ≡ symbol_step symbols.Equals
unfolding step_at lexeme_at form_at symbol_form pair_at pair_symbol single_symbol
equals_step [] = refl
equals_step (b ∷ bs) = refl

open_step : (bs : List ℕ) → step_at (123 ∷ bs) ≡ symbol_step symbols.OpenBrace
unfolding step_at lexeme_at form_at symbol_form pair_at pair_symbol single_symbol
open_step [] = refl
open_step (b ∷ bs) = refl

close_step : (bs : List ℕ) → step_at (125 ∷ bs) ≡ symbol_step symbols.CloseBrace
unfolding step_at lexeme_at form_at symbol_form pair_at pair_symbol single_symbol
close_step [] = refl
close_step (b ∷ bs) = refl

-- If a byte is the tested byte or satisfies the other tests, then the step at the byte is the
-- symbol.
one_symbol : (b k : ℕ) (bs : List ℕ) (s j : Symbol) (others : Option Symbol) → step_at (k ∷ bs) ≡ symbol_step j → cond (eqb b k) (Some j) others ≡ Some s
    → (others ≡ Some s → step_at (b ∷ bs) ≡ symbol_step s) → step_at (b ∷ bs) ≡ symbol_step s
one_symbol b k bs s j others known e next =
    elim (chosen (eqb b k) (Some j) others (Some s) e) [
      | inl h ↦ ap (λ (n : ℕ). step_at (n ∷ bs)) (eqb-true b k h.0) ∙ known ∙ ap symbol_step (some_is h.1)
      | inr h ↦ next h.1
    ]

lone_step : (b : ℕ) (bs : List ℕ) (s : Symbol) → lone_symbol b ≡ Some s → step_at (b ∷ bs) ≡ symbol_step s
lone_step b bs s e =
    one_symbol b 44 bs s symbols.Comma _ (comma_step bs) e (λ e2. one_symbol b 41 bs s symbols.CloseParen _ (paren_step bs) e2
    (λ e3. one_symbol b 61 bs s symbols.Equals _ (equals_step bs) e3 (λ e4. one_symbol b 123 bs s symbols.OpenBrace _ (open_step bs) e4
    (λ e5. one_symbol b 125 bs s symbols.CloseBrace None (close_step bs) e5 (λ e6. absurd (no_value e6))))))

pub prefix_symbol : (text : List ℕ) (s : Symbol) → 0 < length text → lone_symbol (get_or text 0 0) ≡ Some s → StepsBrief (symbol_step s) (step_at text)
prefix_symbol [] s some is = absurd (omega (arith, some))
prefix_symbol (b ∷ bs) s some is = subst (StepsBrief (symbol_step s)) (sym (lone_step b bs s is)) (refl, inl refl)

pub steps_word : (w : FoundLexeme) (e : Result FoundLexeme LexFault) → FindsBrief (Ok w) e → StepsBrief (Ok (Word w)) (word_of e)
steps_word w (Ok full) is = is
steps_word w (Err fault) is = absurd is

pub steps_fault : (f : LexFault) (e : Result FoundLexeme LexFault) → FindsBrief (Err f) e → StepsBrief (Err f) (word_of e)
steps_fault (faults.BadByte n) e is = rw is refl
steps_fault (faults.OpenString n) e is = rw is refl
steps_fault (faults.OpenComment n) e is = rw is refl
steps_fault (faults.TooBig n) e is = rw is refl
steps_fault faults.Memory e is = tt

pub steps_whole : (r e : Result LexStep LexFault) → Answers (λ s. s) r e → StepsBrief r e
steps_whole (Ok (Gap n)) e is = is
steps_whole (Ok (Word w)) e is = subst (StepsBrief (Ok (Word w))) (sym is) (refl, inl refl)
steps_whole (Err f) e is = is

-- ---- the lexeme with its contents

-- The step finds a lexeme with its contents, and `w` is the lexeme with or without its contents.
pub record Full (w : FoundLexeme) (e : Result LexStep LexFault) : Type 0 where
  pub full : FoundLexeme
  pub is : e ≡ Ok (Word full)
  pub len : w.len ≡ full.len
  pub kind : IsBrief full.kind w.kind

pub word_full : (w : FoundLexeme) (e : Result LexStep LexFault) → StepsBrief (Ok (Word w)) e → Full w e
word_full w (Ok (Gap n)) is = absurd is
word_full w (Ok (Word full)) is = record { full = full; is = refl; len = is.0; kind = is.1 }
word_full w (Err f) is = absurd is

module _ (text : List ℕ) (at : ℕ) (w : FoundLexeme) (f : Full w (step_at (drop at text))) where
  pub full_lexeme : lexeme_from text at ≡ record { kind = f.full.kind; span = record { first = at; len = f.full.len } }
  full_lexeme = ap (lexeme_in at) f.is

  pub full_span : (lexeme_from text at).span ≡ record { first = at; len = w.len }
  full_span = rw (full_lexeme, f.len) refl

  pub full_kind : IsBrief (lexeme_from text at).kind w.kind
  full_kind = subst (λ (l : Lexeme). IsBrief l.kind w.kind) (sym full_lexeme) f.kind

  pub full_reached :
      (prefix : List Lexeme) → Reached text (at + f.full.len) (prefix ++ record { kind = f.full.kind; span = record { first = at; len = f.full.len } } ∷ [])
      → Reached text ((lexeme_from text at).span.first + (lexeme_from text at).span.len) (prefix ++ lexeme_from text at ∷ [])
  full_reached prefix r = subst (λ (l : Lexeme). Reached text (l.span.first + l.span.len) (prefix ++ l ∷ [])) (sym full_lexeme) r

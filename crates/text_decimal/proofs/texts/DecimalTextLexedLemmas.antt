-- The lexemes that are found step by step are the lexemes of the text. The decimals that are found
-- are the decimals of the text.
use Rattle.std.proofs.Common.{ℕ, zero, suc, ◌≡◌, ◌∙◌, ◌+◌, ◌<◌, ◌≤◌, ◌++◌, Bool, true, false, cond, eqb, List, [], ◌∷◌, length, drop, Option, Some, None, Result, Ok, Err, refl, sym, ap, subst, arith, append-nil, append_assoc, eqb-true}
use Rattle.std.proofs.lemmas.Bool.{eqb-false}
use Rattle.std.proofs.lemmas.List.{drop-drop, length-drop}
use Rattle.std.specs.Prelude.{option_map, OnOk}
use Rattle.types_lex.specs.declared.lexeme.Lexeme.{Lexeme}
use Rattle.types_lex.specs.declared.lexeme.LexFault.{LexFault}
use Rattle.types_lex.specs.declared.found_lexeme.LexStep.{LexStep}
use Rattle.types_lex.specs.declared.found_lexeme.LexStep.TheVariants as steps
use Rattle.types_lex.specs.LexText.{Lexes, Faults}
use Rattle.types_lex.specs.Lexemes.{Reached}
use Rattle.types_lex.specs.Lexer.{step_at, moved}
use Rattle.types_lex.proofs.FaultLaws.{IsPartAt, IsStepAt, step_at-is}
use Rattle.types_lex.proofs.PartLaws.{step_len, step_lexemes, reached_further, reached_more, reached_fault, reached_end, one_list, list_or_fault}
use Rattle.text_decimal.specs.texts.Texts.{lexed_by, lexed_from, replaced, replaced_or, decimal_text}

-- The text has the lexemes `prefix ++ more`, or has a lexical error.
abbrev IsLexed : List ℕ → List Lexeme → Option (List Lexeme) → Type 0
IsLexed text prefix None = (fault : LexFault) × Faults text fault
IsLexed text prefix (Some more) = Lexes text (prefix ++ more)

step_here : (text : List ℕ) → 0 < length text → IsStepAt text (step_at text)
step_here [] some = absurd (omega arith)
step_here (b ∷ bs) some = step_at-is b bs

lexed_end : (text : List ℕ) (at : ℕ) (prefix : List Lexeme) → Reached text at prefix → length text ≤ at → Lexes text (prefix ++ [])
lexed_end text at prefix r end = subst (Lexes text) (sym (append-nil prefix)) (reached_end text at prefix r end)

-- If the lexemes after the lexeme `l` are found, then the lexemes from `l` on are found.
lexed_word : (text : List ℕ) (prefix : List Lexeme) (l : Lexeme) (more : Option (List Lexeme)) → IsLexed text (prefix ++ l ∷ []) more
    → IsLexed text prefix (option_map (λ (ls : List Lexeme). l ∷ ls) more)
lexed_word text prefix l None fault = fault
lexed_word text prefix l (Some more) is = subst (Lexes text) (append_assoc prefix (l ∷ []) more) is

module _ (text : List ℕ) (n at : ℕ) (prefix : List Lexeme) (r : Reached text at prefix) (room : length text ≤ at + suc n) (rest : ℕ → Option (List Lexeme)) (others : (len : ℕ) (found : List Lexeme) → Reached text (at + len) (prefix ++ found) → length text ≤ at + len + n → IsLexed text (prefix ++ found) (rest len)) where
  behind : (step : LexStep) → IsPartAt (drop at text) step → IsLexed text (prefix ++ step_lexemes at step) (rest (step_len step))
  behind step p =
      let further = reached_further text at step r.inside p in
      others (step_len step) (step_lexemes at step) (reached_more text at prefix step r p) (omega (arith, room, further.0))

  lexed_step : (step : Result LexStep LexFault) → IsStepAt (drop at text) step → IsLexed text prefix (lexed_by at rest step)
  lexed_step (Err fault) is = (moved at fault, reached_fault text at prefix fault r is)
  lexed_step (Ok (steps.Gap len)) is = subst (λ ls. IsLexed text ls (rest len)) (append-nil prefix) (behind (steps.Gap len) is)
  lexed_step (Ok (steps.Word word)) is = lexed_word text prefix _ (rest word.len) (behind (steps.Word word) is)

  lexed_here : (none : Bool) → eqb (length (drop at text)) 0 ≡ none → IsLexed text prefix (cond none (Some []) (lexed_by at rest (step_at (drop at text))))
  lexed_here true e = lexed_end text at prefix r (omega (arith, eqb-true (length (drop at text)) 0 e, length-drop at text))
  lexed_here false e =
      let some : 0 < length (drop at text) = omega (arith, eqb-false (length (drop at text)) 0 e) in
      lexed_step (step_at (drop at text)) (step_here (drop at text) some)

lexed_is : (text : List ℕ) (n at : ℕ) (prefix : List Lexeme) → Reached text at prefix → length text ≤ at + n → IsLexed text prefix (lexed_from n at (drop at text))
unfolding lexed_from
lexed_is text zero at prefix r room = lexed_end text at prefix r (omega (arith, room))
lexed_is text (suc n) at prefix r room =
    lexed_here text n at prefix r room (λ len. lexed_from n (at + len) (drop len (drop at text)))
    (λ len found more fits. subst (λ t. IsLexed text (prefix ++ found) (lexed_from n (at + len) t)) (sym (drop-drop len at text)) (lexed_is text n (at + len) (prefix ++ found) more fits))
    (eqb (length (drop at text)) 0) refl

none_reached : (text : List ℕ) → Reached text 0 []
none_reached text = record { parts = []; are = tt; is = refl; long = refl; inside = omega arith; found = refl }

pub decimal_text_lexed : (text : List ℕ) (lexemes : List Lexeme) → Lexes text lexemes → decimal_text text ≡ replaced text 0 true lexemes
unfolding decimal_text
decimal_text_lexed text lexemes is = by_lexed (lexed_from (length text) 0 text) (lexed_is text (length text) 0 [] (none_reached text) (omega arith))
  where
    by_lexed : (found : Option (List Lexeme)) → IsLexed text [] found → replaced_or text found ≡ replaced text 0 true lexemes
    by_lexed None (fault, faults) = absurd (list_or_fault text lexemes fault is faults)
    by_lexed (Some found) lexes = ap (replaced text 0 true) (one_list text found lexemes lexes is)

pub decimal_text_faults : (text : List ℕ) (fault : LexFault) → Faults text fault → decimal_text text ≡ text
unfolding decimal_text
decimal_text_faults text fault is = by_lexed (lexed_from (length text) 0 text) (lexed_is text (length text) 0 [] (none_reached text) (omega arith))
  where
    by_lexed : (found : Option (List Lexeme)) → IsLexed text [] found → replaced_or text found ≡ text
    by_lexed None other = refl
    by_lexed (Some found) lexes = absurd (list_or_fault text found fault lexes is)

-- ---- the appended text

pub write_lexed : {X E : Type 0} (text old new : List ℕ) (lexemes : List Lexeme) (r : Result X E) → OnOk r (new ≡ old ++ replaced text 0 true lexemes) → Lexes text lexemes → OnOk r (new ≡ old ++ decimal_text text)
write_lexed text old new lexemes (Ok x) h is = h ∙ ap (λ t. old ++ t) (sym (decimal_text_lexed text lexemes is))
write_lexed text old new lexemes (Err e) h is = tt

pub write_kept : {X E : Type 0} (text old new : List ℕ) (r : Result X E) → OnOk r (new ≡ old ++ text) → (fault : LexFault) × Faults text fault → OnOk r (new ≡ old ++ decimal_text text)
write_kept text old new (Ok x) h (fault, is) = h ∙ ap (λ t. old ++ t) (sym (decimal_text_faults text fault is))
write_kept text old new (Err e) h is = tt

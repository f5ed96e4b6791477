-- The lexer finds each fault of the grammar, and each result of the lexer is a part or a fault of
-- the grammar.
use Rattle.std.proofs.Common.{◌≡◌, ◌≢◌, ℕ, suc, ◌+◌, ◌≤◌, false, ◌&&◌, eqb, List, [], ◌∷◌, ◌++◌, length, drop, Option, Some, None, Result, Ok, Err, refl, sym, ap, subst, ◌∙◌, arith, inl, inr, length-append}
use Rattle.std.specs.List.{flat_map, AllByRecursion}
use Rattle.std.proofs.lemmas.Bool.{eqb-true, eqb-false, cases_Bool}
use Rattle.types_lex.specs.declared.lexeme.Symbol.TheVariants as symbols
use Rattle.types_lex.specs.declared.lexeme.LexFault.{LexFault}
use Rattle.types_lex.specs.declared.lexeme.LexFault.TheVariants as faults
use Rattle.types_lex.specs.Lexeme.{is_separator, CharForm, Plain, char_bytes, IsCharForm, LexemeForm, Quoted, Mark}
use Rattle.types_lex.specs.LexText.{Cut, cut_bytes, IsInside, TextPart, Separator, Comment, Word, part_bytes, IsPart, OpensString, StartsNoChar, StartsNothing, IsBadEscape, IsOpenString, IsOpenComment, IsOverlong, Breaks}
use Rattle.types_lex.specs.declared.found_lexeme.LexStep.{LexStep}
use Rattle.types_lex.specs.declared.found_lexeme.LexStep.TheVariants as steps
use Rattle.types_lex.specs.Lexer.{begins_with, char_at, chars_of, string_form, form_at, in_range, found_at, ended_string, string_at, lexeme_at, closing, gap_of, word_of, step_at, moved, position_of}
use Rattle.types_lex.proofs.CharLaws.{no_value, char_at-is, char_at-form, chars_of-forms}
use Rattle.types_lex.proofs.FormLaws.{chars_of-are, chars_of-stop}
use Rattle.types_lex.proofs.TakenLaws.{taken-found, none-found, found-none}
use Rattle.types_lex.proofs.InsideLaws.{closing-inside, inside-closing}
use Rattle.types_lex.proofs.StepLaws.{part_step, comment_test, no_comment_test, no_comment, comment_regrouped, string_form-at, lexeme-some, lexeme-none, step-lexeme, step-taken, is-in_range, is-too_big, too_big-is}

-- The step at the text returns this fault, if positions are counted from `position`.
abbrev pub StepsTo : ℕ → List ℕ → LexFault → Type 0
StepsTo position text fault = (found : LexFault) × (step_at text ≡ Err found) × (moved position found ≡ fault)

-- ---- the lexer finds the fault of the grammar

none-is : (text : List ℕ) → StartsNoChar text → char_at 34 text ≡ None
none-is text free = by_char (char_at 34 text) refl
  where
    by_char : (o : Option CharForm) → char_at 34 text ≡ o → o ≡ None
    by_char None e = refl
    by_char (Some c) e = let is = char_at-is 34 text c e in absurd (free c (drop (length (char_bytes c)) text) is.0 (sym is.1))

-- If a string begins the text and no character begins at `rest`, then the step at the text is the
-- fault of the string.
step-string : (text rest : List ℕ) (opens : OpensString text rest) → char_at 34 rest ≡ None → step_at text ≡ word_of (ended_string opens.0 rest)
unfolding step_at lexeme_at string_at
step-string text rest opens none =
    let fits : length (flat_map char_bytes opens.0) ≤ length (flat_map char_bytes opens.0 ++ rest) = omega (arith, length-append (flat_map char_bytes opens.0) rest) in
    ap step_at opens.2 ∙ rw (chars_of-forms (length (flat_map char_bytes opens.0 ++ rest)) opens.0 rest opens.1 none fits) refl

step-nothing : (text : List ℕ) → StartsNothing text → step_at text ≡ Err (faults.BadByte 0)
step-nothing text nothing =
    let none : form_at (nothing.byte ∷ nothing.others) ≡ None = ap form_at (sym nothing.is) ∙ found-none text nothing.no_form in
    let bracket = no_comment_test nothing.byte nothing.others (λ more is. nothing.no_form (Mark symbols.OpenParen) (42 ∷ more) tt (sym (nothing.is ∙ is))) in
    ap step_at nothing.is ∙ step-lexeme nothing.byte nothing.others nothing.no_separator bracket ∙ ap word_of (lexeme-none nothing.byte nothing.others nothing.no_string none)

step-escape : (position : ℕ) (text : List ℕ) (fault : ℕ) → IsBadEscape position text fault → StepsTo position text (faults.BadByte fault)
step-escape position text fault bad =
    let opens = bad.1 in
    let step = step-string text (92 ∷ bad.0) opens (none-is (92 ∷ bad.0) bad.2) in
    let at : length (flat_map char_bytes opens.0) + 2 + position ≡ fault = omega (arith, bad.3, ap length opens.2, length-append (flat_map char_bytes opens.0) (92 ∷ bad.0)) in
    (faults.BadByte (length (flat_map char_bytes opens.0) + 2), step, ap (λ (n : ℕ). faults.BadByte n) at)

step-open_string : (text : List ℕ) → IsOpenString text → step_at text ≡ Err (faults.OpenString 0)
unfolding char_at
step-open_string text (inl opens) = step-string text [] opens refl
step-open_string text (inr opens) = step-string text (10 ∷ opens.0) opens.1 refl

step-open_comment : (text : List ℕ) → IsOpenComment text → step_at text ≡ Err (faults.OpenComment 0)
unfolding step_at
step-open_comment text opened = by_end (closing 0 opened.0.0) refl
  where
    by_end : (o : Option ℕ) → closing 0 opened.0.0 ≡ o → step_at text ≡ Err (faults.OpenComment 0)
    by_end None e = ap step_at opened.0.1 ∙ rw e refl
    by_end (Some n) e =
        let end = inside-closing opened.0.0 0 n e in
        absurd (opened.1 end.cuts end.after (end.nests, end.cut) (ap (λ t. 40 ∷ 42 ∷ t) (comment_regrouped end.cuts end.after ∙ sym end.is) ∙ sym opened.0.1))

step-overlong : (text : List ℕ) → IsOverlong text → step_at text ≡ Err (faults.TooBig 0)
step-overlong text over = step-taken text over.0 over.1 over.2 over.3 ∙ rw (too_big-is over.0 over.4) refl

pub step-breaks : (position : ℕ) (text : List ℕ) (fault : LexFault) → Breaks position text fault → StepsTo position text fault
step-breaks position text (faults.BadByte fault) (inl nothing) = (faults.BadByte 0, step-nothing text nothing.1, ap (λ (n : ℕ). faults.BadByte n) (omega (arith, nothing.0)))
step-breaks position text (faults.BadByte fault) (inr escape) = step-escape position text fault escape
step-breaks position text (faults.OpenString fault) breaks = (faults.OpenString 0, step-open_string text breaks.1, ap (λ (n : ℕ). faults.OpenString n) (omega (arith, breaks.0)))
step-breaks position text (faults.OpenComment fault) breaks = (faults.OpenComment 0, step-open_comment text breaks.1, ap (λ (n : ℕ). faults.OpenComment n) (omega (arith, breaks.0)))
step-breaks position text (faults.TooBig fault) breaks = (faults.TooBig 0, step-overlong text breaks.1, ap (λ (n : ℕ). faults.TooBig n) (omega (arith, breaks.0)))
step-breaks position text faults.Memory breaks = absurd breaks

-- ---- what the lexer finds is a part or a fault of the grammar

pub record IsPartAt (text : List ℕ) (step : LexStep) : Type 0 where
  pub part : TextPart
  pub after : List ℕ
  pub is : text ≡ part_bytes part ++ after
  pub fits : IsPart part after
  pub step_is : part_step part ≡ step

pub record IsFaultAt (text : List ℕ) (fault : LexFault) : Type 0 where
  pub breaks : (position : ℕ) → Breaks position text (moved position fault)
  pub inside : position_of fault ≤ length text

abbrev pub IsStepAt : List ℕ → Result LexStep LexFault → Type 0
IsStepAt text (Ok step) = IsPartAt text step
IsStepAt text (Err fault) = IsFaultAt text fault

-- If a comment begins the text, then the step is a comment or the fault of an unterminated comment.
step_at-comment : (more : List ℕ) → IsStepAt (40 ∷ 42 ∷ more) (gap_of (closing 0 more))
step_at-comment more = by_end (closing 0 more) refl
  where
    no_end : closing 0 more ≡ None → (inside : List Cut) (after : List ℕ) → IsInside inside after → part_bytes (Comment inside) ++ after ≢ 40 ∷ 42 ∷ more
    no_end none inside after is e =
        let same : (flat_map cut_bytes inside ++ 42 ∷ 41 ∷ []) ++ after ≡ more = cc in
        no_value (sym none ∙ ap (closing 0) (sym (sym (comment_regrouped inside after) ∙ same)) ∙ closing-inside inside 0 after is.0 is.1)

    by_end : (o : Option ℕ) → closing 0 more ≡ o → IsStepAt (40 ∷ 42 ∷ more) (gap_of o)
    by_end None e = record { breaks = λ position. (omega arith, ((more, refl), no_end e)); inside = omega arith }
    by_end (Some n) e =
        let end = inside-closing more 0 n e in
        record {
          part = Comment end.cuts;
          after = end.after;
          is = ap (λ t. 40 ∷ 42 ∷ t) (end.is ∙ sym (comment_regrouped end.cuts end.after));
          fits = (end.nests, end.cut);
          step_is = ap (λ n. steps.Gap n) (omega (arith, end.long, length-append (flat_map cut_bytes end.cuts) (42 ∷ 41 ∷ [])));
        }

-- If a form begins the text, then the step is the form's lexeme or the fault of an integer out of
-- range.
step_at-form : (text : List ℕ) (form : LexemeForm) → form_at text ≡ Some form → ((more : List ℕ) → text ≢ 40 ∷ 42 ∷ more) → IsStepAt text (word_of (found_at (Some form)))
step_at-form text form e free =
    let taken = taken-found text form e free in
    elim (cases_Bool (in_range form)) [
      | inl fits ↦ rw fits (record { part = Word form; after = taken.0; is = taken.1; fits = (taken.2, is-in_range form fits); step_is = refl })
      | inr big ↦ rw big (record { breaks = λ position. (omega arith, (form, taken.0, taken.1, taken.2, is-too_big form big)); inside = omega arith })
    ]

no_char-starts : (text : List ℕ) → char_at 34 text ≡ None → StartsNoChar text
no_char-starts text none c more is e = let both : None ≡ Some c = sym none ∙ ap (char_at 34) (sym e) ∙ char_at-form 34 c more is in no_value both

-- If no character of a string begins with a byte, and the byte is no backslash and no quote, then
-- the byte is a line feed.
none-line : (b : ℕ) (bs : List ℕ) → char_at 34 (b ∷ bs) ≡ None → eqb b 34 ≡ false → eqb b 92 ≡ false → b ≡ 10
unfolding char_at
none-line b bs none quote backslash =
    elim (cases_Bool (eqb b 10)) [
      | inl line ↦ eqb-true b 10 line
      | inr other ↦ let some : Some (Plain b) ≡ None = rw (backslash, quote, other) at none in absurd cc
    ]

-- If a string has no closing quote, then the text has the fault of the string.
string_faults : (bs : List ℕ) (chars : List CharForm) (rest : List ℕ) → OpensString (34 ∷ bs) rest → AllByRecursion (IsCharForm 34) chars → bs ≡ flat_map char_bytes chars ++ rest → char_at 34 rest ≡ None → begins_with 34 rest ≡ false → IsStepAt (34 ∷ bs) (word_of (ended_string chars rest))
string_faults bs chars [] opens each is none unclosed = record { breaks = λ position. (omega arith, inl opens); inside = omega arith }
string_faults bs chars (b ∷ after) opens each is none unclosed =
    elim (cases_Bool (eqb b 92)) [
      | inl backslash ↦
          let slash : b ≡ 92 = eqb-true b 92 backslash in
          let opens' : OpensString (34 ∷ bs) (92 ∷ after) = (chars, each, ap (λ t. 34 ∷ t) (is ∙ ap (λ (c : ℕ). flat_map char_bytes chars ++ c ∷ after) slash)) in
          let free : StartsNoChar (92 ∷ after) = no_char-starts (92 ∷ after) (ap (λ (c : ℕ). char_at 34 (c ∷ after)) (sym slash) ∙ none) in
          let long : length bs ≡ length (flat_map char_bytes chars) + suc (length after) = ap length is ∙ length-append (flat_map char_bytes chars) (b ∷ after) in
          rw (unclosed, backslash) (record { breaks = λ position. inr (after, opens', free, omega (arith, long)); inside = omega (arith, long) })
      | inr other ↦
          let line : b ≡ 10 = none-line b after none unclosed other in
          let opens' : OpensString (34 ∷ bs) (10 ∷ after) = (chars, each, ap (λ t. 34 ∷ t) (is ∙ ap (λ (c : ℕ). flat_map char_bytes chars ++ c ∷ after) line)) in
          rw (unclosed, other) (record { breaks = λ position. (omega arith, inr (after, opens')); inside = omega arith })
    ]

step_at-string : (bs : List ℕ) → IsStepAt (34 ∷ bs) (word_of (string_at bs))
unfolding string_at string_form form_at
step_at-string bs =
    let read = chars_of (length bs) bs in
    let are = chars_of-are (length bs) bs in
    let none = chars_of-stop (length bs) bs (omega arith) in
    elim (cases_Bool (begins_with 34 read.1)) [
      | inl closed ↦
          let form : string_form bs ≡ Some (Quoted read.0) = rw closed refl in
          subst (λ r. IsStepAt (34 ∷ bs) (word_of r)) (sym (string_form-at bs (Quoted read.0) form)) (step_at-form (34 ∷ bs) (Quoted read.0) form (λ more e. cc))
      | inr unclosed ↦ string_faults bs read.0 read.1 (read.0, are.0, ap (λ t. 34 ∷ t) are.1) are.0 are.1 none unclosed
    ]

step_at-nothing : (b : ℕ) (bs : List ℕ) → is_separator b ≡ false → b ≢ 34 → form_at (b ∷ bs) ≡ None → IsStepAt (b ∷ bs) (Err (faults.BadByte 0))
step_at-nothing b bs sep no_string none = record {
  breaks = λ position. inl (omega arith, record { byte = b; others = bs; is = refl; no_separator = sep; no_string = no_string; no_form = none-found (b ∷ bs) none });
  inside = omega arith;
}

step_at-lexeme : (b : ℕ) (bs : List ℕ) → is_separator b ≡ false → (eqb b 40 && begins_with 42 bs) ≡ false → IsStepAt (b ∷ bs) (word_of (lexeme_at (b ∷ bs)))
unfolding lexeme_at
step_at-lexeme b bs sep bracket =
    elim (cases_Bool (eqb b 34)) [
      | inl quote ↦ rw (quote, eqb-true b 34 quote) (step_at-string bs)
      | inr other ↦ by_form (eqb-false b 34 other) (form_at (b ∷ bs)) refl
    ]
  where
    by_form : b ≢ 34 → (o : Option LexemeForm) → form_at (b ∷ bs) ≡ o → IsStepAt (b ∷ bs) (word_of (lexeme_at (b ∷ bs)))
    by_form other None e = rw (lexeme-none b bs other e) (step_at-nothing b bs sep other e)
    by_form other (Some form) e = rw (lexeme-some (b ∷ bs) form e) (step_at-form (b ∷ bs) form e (λ more is. no_comment b bs more bracket is))

pub step_at-is : (b : ℕ) (bs : List ℕ) → IsStepAt (b ∷ bs) (step_at (b ∷ bs))
unfolding step_at
step_at-is b bs =
    elim (cases_Bool (is_separator b)) [
      | inl sep ↦ rw sep (record { part = Separator b; after = bs; is = refl; fits = sep; step_is = refl })
      | inr sep ↦ elim (cases_Bool (eqb b 40 && begins_with 42 bs)) [
        | inl bracket ↦
            let c = comment_test b bs bracket in
            let first : b ≡ 40 = cc in
            let others : bs ≡ 42 ∷ c.0 = cc in
            rw (sep, bracket, first, others) (step_at-comment c.0)
        | inr bracket ↦ rw (sep, bracket) (step_at-lexeme b bs sep bracket)
      ]
    ]

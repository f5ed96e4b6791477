-- Sequences of parts, and the proof that a text has only one reading.
use Rattle.std.proofs.Common.{◌≡◌, ◌≢◌, ℕ, ◌+◌, ◌-◌, ◌<◌, ◌≤◌, List, [], ◌∷◌, ◌++◌, length, drop, Some, Result, Ok, Err, refl, sym, ap, subst, ◌∙◌, arith, inl, inr, length-append, append_assoc, ◌⊎◌, zero, suc}
use Rattle.std.specs.Prelude.{IfOk, IfErr}
use Rattle.std.specs.Global.{Vec}
use Rattle.std.specs.List.{flat_map}
use Rattle.std.proofs.lemmas.List.{append-nil, drop_all, drop_at, drop-drop, length-drop, flat_map_more}
use Rattle.types_lex.specs.declared.lexeme.Lexeme.{Lexeme}
use Rattle.types_lex.specs.declared.lexeme.LexFault.{LexFault}
use Rattle.types_lex.specs.declared.lexeme.LexFault.TheVariants as faults
use Rattle.types_lex.specs.Lexeme.{LexemeForm, form_bytes, IsForm}
use Rattle.types_lex.specs.Lexemes.{Reached}
use Rattle.types_lex.specs.LexText.{TextPart, Separator, Comment, Word, part_bytes, IsPart, AreParts, lexemes_of, Breaks, Lexes, Faults, UnlessMemory, Answers, Outcome, HasOneOutcome, SpansWithin}
use Rattle.types_lex.specs.declared.found_lexeme.LexStep.{LexStep}
use Rattle.types_lex.specs.declared.found_lexeme.LexStep.TheVariants as steps
use Rattle.types_lex.specs.Lexer.{form_at, step_at, moved, position_of}
use Rattle.types_lex.proofs.CharLaws.{no_value}
use Rattle.types_lex.proofs.PrefixLaws.{form-found}
use Rattle.types_lex.proofs.StepLaws.{part_step, step-part}
use Rattle.types_lex.proofs.FaultLaws.{step-breaks, IsPartAt, IsFaultAt, IsStepAt, step_at-is}

-- ---- a part and its step

abbrev pub step_len : LexStep → ℕ
step_len (steps.Gap len) = len
step_len (steps.Word word) = word.len

abbrev pub step_lexemes : ℕ → LexStep → List Lexeme
step_lexemes position (steps.Gap len) = []
step_lexemes position (steps.Word word) = record { kind = word.kind; span = record { first = position; len = word.len } } ∷ []

step_len-part : (part : TextPart) → step_len (part_step part) ≡ length (part_bytes part)
step_len-part (Separator b) = refl
step_len-part (Comment inside) = refl
step_len-part (Word form) = refl

lexemes_of-cons : (position : ℕ) (part : TextPart) (parts : List TextPart) → lexemes_of position (part ∷ parts) ≡ step_lexemes position (part_step part) ++ lexemes_of (position + step_len (part_step part)) parts
lexemes_of-cons position (Separator b) parts = refl
lexemes_of-cons position (Comment inside) parts = refl
lexemes_of-cons position (Word form) parts = refl

-- The bytes of a valid form are not empty.
form-positive : (form : LexemeForm) → IsForm form → 0 < length (form_bytes form)
unfolding form_at
form-positive form is = by_bytes (form_bytes form) (form-found form [] is).1
  where
    by_bytes : (t : List ℕ) → form_at (t ++ []) ≡ Some (form-found form [] is).0 → 0 < length t
    by_bytes [] e = absurd (no_value e)
    by_bytes (b ∷ bs) e = omega arith

part-positive : (part : TextPart) (after : List ℕ) → IsPart part after → 0 < length (part_bytes part)
part-positive (Separator b) after is = omega arith
part-positive (Comment inside) after is = omega arith
part-positive (Word form) after is = form-positive form is.0.written

-- ---- one more part

bytes_push : (parts : List TextPart) (part : TextPart) (rest : List ℕ) → flat_map part_bytes (parts ++ part ∷ []) ++ rest ≡ flat_map part_bytes parts ++ (part_bytes part ++ rest)
bytes_push parts part rest = ap (λ t. t ++ rest) (sym (flat_map_more part_bytes [] parts part)) ∙ append_assoc (flat_map part_bytes parts) (part_bytes part) rest

are_push : (parts : List TextPart) (part : TextPart) (rest : List ℕ) → AreParts parts (part_bytes part ++ rest) → IsPart part rest → AreParts (parts ++ part ∷ []) rest
are_push [] part rest are is = (is, tt)
are_push (p ∷ parts) part rest are is = (subst (IsPart p) (sym (bytes_push parts part rest)) are.0, are_push parts part rest are.1 is)

lexemes_push : (position : ℕ) (parts : List TextPart) (part : TextPart) → lexemes_of position (parts ++ part ∷ []) ≡ lexemes_of position parts ++ step_lexemes (position + length (flat_map part_bytes parts)) (part_step part)
lexemes_push position [] part =
    lexemes_of-cons position part [] ∙ append-nil (step_lexemes position (part_step part)) ∙ ap (λ n. step_lexemes n (part_step part)) (omega arith)
lexemes_push position (p ∷ parts) part =
    let step = part_step p in
    let later : position + step_len step + length (flat_map part_bytes parts) ≡ position + length (part_bytes p ++ flat_map part_bytes parts) =
    omega (arith, step_len-part p, length-append (part_bytes p) (flat_map part_bytes parts)) in
    lexemes_of-cons position p (parts ++ part ∷ [])
    ∙ ap (λ t. step_lexemes position step ++ t) (lexemes_push (position + step_len step) parts part ∙ ap (λ n. lexemes_of (position + step_len step) parts ++ step_lexemes n (part_step part)) later)
    ∙ sym (append_assoc (step_lexemes position step) (lexemes_of (position + step_len step) parts) (step_lexemes (position + length (part_bytes p ++ flat_map part_bytes parts)) (part_step part)))
    ∙ ap (λ t. t ++ step_lexemes (position + length (part_bytes p ++ flat_map part_bytes parts)) (part_step part)) (sym (lexemes_of-cons position p parts))

step_len-is : (text : List ℕ) (step : LexStep) (p : IsPartAt text step) → step_len step ≡ length (part_bytes p.part)
step_len-is text step p = ap step_len (sym p.step_is) ∙ step_len-part p.part

-- If a step is taken, then the position advances by at least one byte.
pub reached_further : (text : List ℕ) (at : ℕ) (step : LexStep) → at ≤ length text → IsPartAt (drop at text) step → (0 < step_len step) × (at + step_len step ≤ length text)
reached_further text at step le p =
    let len = step_len-is (drop at text) step p in
    let positive = part-positive p.part p.after p.fits in
    (omega (arith, len, positive), omega (arith, len, ap length p.is, length-append (part_bytes p.part) p.after, length-drop at text))

pub reached_more : (text : List ℕ) (at : ℕ) (lexemes : List Lexeme) (step : LexStep) → Reached text at lexemes → IsPartAt (drop at text) step → Reached text (at + step_len step) (lexemes ++ step_lexemes at step)
reached_more text at lexemes step r p =
    let len = step_len-is (drop at text) step p in
    let rest : drop (at + step_len step) text ≡ p.after =
    sym (drop-drop (step_len step) at text) ∙ ap (drop (step_len step)) p.is ∙ drop_at (part_bytes p.part) p.after (step_len step) (sym len) in
    let are : AreParts (r.parts ++ p.part ∷ []) p.after = are_push r.parts p.part p.after (subst (AreParts r.parts) p.is r.are) p.fits in
    let bytes : flat_map part_bytes (r.parts ++ p.part ∷ []) ≡ flat_map part_bytes r.parts ++ part_bytes p.part = sym (flat_map_more part_bytes [] r.parts p.part) in
    record {
      parts = r.parts ++ p.part ∷ [];
      are = subst (AreParts (r.parts ++ p.part ∷ [])) (sym rest) are;
      is = r.is ∙ ap (λ t. flat_map part_bytes r.parts ++ t) p.is ∙ sym (bytes_push r.parts p.part p.after) ∙ ap (λ t. flat_map part_bytes (r.parts ++ p.part ∷ []) ++ t) (sym rest);
      long = omega (arith, len, r.long, ap length bytes, length-append (flat_map part_bytes r.parts) (part_bytes p.part));
      inside = (reached_further text at step r.inside p).1;
      found =
          ap (λ t. t ++ step_lexemes at step) r.found
          ∙ ap (λ s. lexemes_of 0 r.parts ++ step_lexemes at s) (sym p.step_is)
          ∙ ap (λ n. lexemes_of 0 r.parts ++ step_lexemes n (part_step p.part)) (omega (arith, r.long))
          ∙ sym (lexemes_push 0 r.parts p.part);
    }

pub reached_fault : (text : List ℕ) (at : ℕ) (lexemes : List Lexeme) (fault : LexFault) → Reached text at lexemes → IsFaultAt (drop at text) fault → Faults text (moved at fault)
reached_fault text at lexemes fault r f =
    (r.parts, drop at text, r.are, r.is, subst (λ position. Breaks position (drop at text) (moved at fault)) r.long (f.breaks at))

-- If parts reach the end of the text, then the lexemes among the parts are the lexemes of the text.
pub reached_end : (text : List ℕ) (at : ℕ) (lexemes : List Lexeme) → Reached text at lexemes → length text ≤ at → Lexes text lexemes
reached_end text at lexemes r end =
    let none : drop at text ≡ [] = drop_all at text end in
    (r.parts, subst (AreParts r.parts) none r.are, r.is ∙ ap (λ t. flat_map part_bytes r.parts ++ t) none ∙ append-nil (flat_map part_bytes r.parts), r.found)

-- ---- a text has one reading

-- No part begins at the start of the text.
abbrev Stops : List ℕ → Type 0
Stops text = (step : LexStep) → step_at text ≢ Ok step

record Same (ps qs : List TextPart) (r s : List ℕ) : Type 0 where
  bytes : length (flat_map part_bytes ps) ≡ length (flat_map part_bytes qs)
  lexemes : (position : ℕ) → lexemes_of position ps ≡ lexemes_of position qs
  rest : r ≡ s

same_parts : (ps qs : List TextPart) (r s : List ℕ) → AreParts ps r → AreParts qs s → flat_map part_bytes ps ++ r ≡ flat_map part_bytes qs ++ s → Stops r → Stops s → Same ps qs r s
same_parts [] [] r s are bre e stop ttop = record { bytes = refl; lexemes = λ position. refl; rest = e }
same_parts [] (q ∷ qs) r s are bre e stop ttop =
    absurd (stop (part_step q) (ap step_at (e ∙ append_assoc (part_bytes q) (flat_map part_bytes qs) s) ∙ step-part q (flat_map part_bytes qs ++ s) bre.0))
same_parts (p ∷ ps) [] r s are bre e stop ttop =
    absurd (ttop (part_step p) (ap step_at (sym e ∙ append_assoc (part_bytes p) (flat_map part_bytes ps) r) ∙ step-part p (flat_map part_bytes ps ++ r) are.0))
same_parts (p ∷ ps) (q ∷ qs) r s are bre e stop ttop =
    let left = append_assoc (part_bytes p) (flat_map part_bytes ps) r in
    let right = append_assoc (part_bytes q) (flat_map part_bytes qs) s in
    let texts : part_bytes p ++ (flat_map part_bytes ps ++ r) ≡ part_bytes q ++ (flat_map part_bytes qs ++ s) = sym left ∙ e ∙ right in
    let found : Ok (part_step p) ≡ Ok (part_step q) = sym (step-part p (flat_map part_bytes ps ++ r) are.0) ∙ ap step_at texts ∙ step-part q (flat_map part_bytes qs ++ s) bre.0 in
    let step : part_step p ≡ part_step q = cc in
    let long : length (part_bytes p) ≡ length (part_bytes q) = sym (step_len-part p) ∙ ap step_len step ∙ step_len-part q in
    let others : flat_map part_bytes ps ++ r ≡ flat_map part_bytes qs ++ s =
    sym (drop_at (part_bytes p) (flat_map part_bytes ps ++ r) (length (part_bytes p)) refl) ∙ ap (drop (length (part_bytes p))) texts ∙ drop_at (part_bytes q) (flat_map part_bytes qs ++ s) (length (part_bytes p)) (sym long) in
    let same = same_parts ps qs r s are.1 bre.1 others stop ttop in
    record {
      bytes = omega (arith, long, same.bytes, length-append (part_bytes p) (flat_map part_bytes ps), length-append (part_bytes q) (flat_map part_bytes qs));
      lexemes = λ position.
          lexemes_of-cons position p ps
          ∙ ap (λ t. step_lexemes position (part_step p) ++ t) (same.lexemes (position + step_len (part_step p)))
          ∙ ap (λ t. step_lexemes position t ++ lexemes_of (position + step_len t) qs) step
          ∙ sym (lexemes_of-cons position q qs);
      rest = same.rest;
    }

end_stops : Stops []
unfolding step_at
end_stops step e = absurd cc

fault_stops : (position : ℕ) (text : List ℕ) (fault : LexFault) → Breaks position text fault → Stops text
fault_stops position text fault breaks step e =
    let at = step-breaks position text fault breaks in
    let both : Err at.0 ≡ Ok step = sym at.1 ∙ e in
    absurd cc

-- The empty text has no fault.
no_end_fault : (position : ℕ) (fault : LexFault) → Breaks position [] fault → ⊥
no_end_fault position (faults.BadByte fault) (inl nothing) = let e = nothing.1.is in absurd cc
no_end_fault position (faults.BadByte fault) (inr escape) = let e = escape.1.2 in absurd cc
no_end_fault position (faults.OpenString fault) (at, inl opens) = let e = opens.2 in absurd cc
no_end_fault position (faults.OpenString fault) (at, inr opens) = let e = opens.1.2 in absurd cc
no_end_fault position (faults.OpenComment fault) breaks = let e = breaks.1.0.1 in absurd cc
no_end_fault position (faults.TooBig fault) breaks = let over = breaks.1 in omega (arith, ap length over.2, length-append (form_bytes over.0) over.1, form-positive over.0 over.3.written)
no_end_fault position faults.Memory breaks = breaks

pub one_list : (text : List ℕ) (xs ys : List Lexeme) → Lexes text xs → Lexes text ys → xs ≡ ys
one_list text xs ys x y =
    let same = same_parts x.0 y.0 [] [] x.1 y.1 (ap (λ t. t ++ []) (sym x.2 ∙ y.2)) end_stops end_stops in
    x.3 ∙ same.lexemes 0 ∙ sym y.3

pub list_or_fault : (text : List ℕ) (xs : List Lexeme) (fault : LexFault) → Lexes text xs → Faults text fault → ⊥
list_or_fault text xs fault x f =
    let same = same_parts x.0 f.0 [] f.1 x.1 f.2 (append-nil (flat_map part_bytes x.0) ∙ sym x.2 ∙ f.3) end_stops (fault_stops _ f.1 fault f.4) in
    no_end_fault (length (flat_map part_bytes f.0)) fault (subst (λ t. Breaks (length (flat_map part_bytes f.0)) t fault) (sym same.rest) f.4)

pub one_fault : (text : List ℕ) (f g : LexFault) → Faults text f → Faults text g → f ≡ g
one_fault text f g x y =
    let same = same_parts x.0 y.0 x.1 y.1 x.2 y.2 (sym x.3 ∙ y.3) (fault_stops _ x.1 f x.4) (fault_stops _ y.1 g y.4) in
    let left = step-breaks (length (flat_map part_bytes x.0)) x.1 f x.4 in
    let right = step-breaks (length (flat_map part_bytes y.0)) y.1 g y.4 in
    let errs : Err left.0 ≡ Err right.0 = sym left.1 ∙ ap step_at same.rest ∙ right.1 in
    let found : left.0 ≡ right.0 = cc in
    sym left.2 ∙ ap (λ n. moved n left.0) same.bytes ∙ ap (moved (length (flat_map part_bytes y.0))) found ∙ right.2

-- ---- the result is the one reading

pub answers_list : (text : List ℕ) (r : Result (Vec Lexeme) LexFault) → IfOk r (λ v. Lexes text v.items) → IfErr r (UnlessMemory (Faults text)) → (xs : List Lexeme) → Lexes text xs → Answers {Y = List Lexeme} (λ v. v.items) r (Ok xs)
answers_list text (Ok v) ok err xs is = ap (λ (l : List Lexeme). Ok l) (one_list text xs v.items is ok)
answers_list text (Err faults.Memory) ok err xs is = tt
answers_list text (Err (faults.BadByte p)) ok err xs is = absurd (list_or_fault text xs (faults.BadByte p) is err)
answers_list text (Err (faults.OpenString p)) ok err xs is = absurd (list_or_fault text xs (faults.OpenString p) is err)
answers_list text (Err (faults.OpenComment p)) ok err xs is = absurd (list_or_fault text xs (faults.OpenComment p) is err)
answers_list text (Err (faults.TooBig p)) ok err xs is = absurd (list_or_fault text xs (faults.TooBig p) is err)

pub answers_fault : (text : List ℕ) (r : Result (Vec Lexeme) LexFault) → IfOk r (λ v. Lexes text v.items) → IfErr r (UnlessMemory (Faults text)) → (fault : LexFault) → Faults text fault → Answers {Y = List Lexeme} (λ v. v.items) r (Err fault)
answers_fault text (Ok v) ok err fault is = absurd (list_or_fault text v.items fault ok is)
answers_fault text (Err faults.Memory) ok err fault is = tt
answers_fault text (Err (faults.BadByte p)) ok err fault is = ap (λ (f : LexFault). Err f) (one_fault text fault (faults.BadByte p) is err)
answers_fault text (Err (faults.OpenString p)) ok err fault is = ap (λ (f : LexFault). Err f) (one_fault text fault (faults.OpenString p) is err)
answers_fault text (Err (faults.OpenComment p)) ok err fault is = ap (λ (f : LexFault). Err f) (one_fault text fault (faults.OpenComment p) is err)
answers_fault text (Err (faults.TooBig p)) ok err fault is = ap (λ (f : LexFault). Err f) (one_fault text fault (faults.TooBig p) is err)

-- ---- the steps of the loop

pub part_here : (text : List ℕ) (at : ℕ) (step : LexStep) → at < length text → step_at (drop at text) ≡ Ok step → IsPartAt (drop at text) step
part_here text at step lt e = by_text (drop at text) (omega (arith, length-drop at text)) e
  where
    by_text : (t : List ℕ) → 0 < length t → step_at t ≡ Ok step → IsPartAt t step
    by_text [] long e = absurd (omega arith)
    by_text (b ∷ bs) long e = subst (IsStepAt (b ∷ bs)) e (step_at-is b bs)

fault_here : (text : List ℕ) (at : ℕ) (fault : LexFault) → at < length text → step_at (drop at text) ≡ Err fault → IsFaultAt (drop at text) fault
fault_here text at fault lt e = by_text (drop at text) (omega (arith, length-drop at text)) e
  where
    by_text : (t : List ℕ) → 0 < length t → step_at t ≡ Err fault → IsFaultAt t fault
    by_text [] long e = absurd (omega arith)
    by_text (b ∷ bs) long e = subst (IsStepAt (b ∷ bs)) e (step_at-is b bs)

-- The fault is the result of the step at position `at`, unless memory ran out.
abbrev pub Known : List ℕ → ℕ → LexFault → Type 0
Known text at fault = UnlessMemory (λ f. step_at (drop at text) ≡ Err f) fault

known_here : (text : List ℕ) (at : ℕ) (fault : LexFault) → at < length text → Known text at fault → UnlessMemory (IsFaultAt (drop at text)) fault
known_here text at faults.Memory lt known = tt
known_here text at (faults.BadByte p) lt known = fault_here text at _ lt known
known_here text at (faults.OpenString p) lt known = fault_here text at _ lt known
known_here text at (faults.OpenComment p) lt known = fault_here text at _ lt known
known_here text at (faults.TooBig p) lt known = fault_here text at _ lt known

pub known_inside : (text : List ℕ) (at : ℕ) (fault : LexFault) → at < length text → Known text at fault → position_of fault + at ≤ length text
known_inside text at fault lt known = by_fault fault (known_here text at fault lt known)
  where
    by_fault : (f : LexFault) → UnlessMemory (IsFaultAt (drop at text)) f → position_of f + at ≤ length text
    by_fault faults.Memory here = omega arith
    by_fault (faults.BadByte p) here = omega (arith, here.inside, length-drop at text)
    by_fault (faults.OpenString p) here = omega (arith, here.inside, length-drop at text)
    by_fault (faults.OpenComment p) here = omega (arith, here.inside, length-drop at text)
    by_fault (faults.TooBig p) here = omega (arith, here.inside, length-drop at text)

pub known_fault : (text : List ℕ) (at : ℕ) (lexemes : List Lexeme) (fault : LexFault) → Reached text at lexemes → at < length text → Known text at fault → UnlessMemory (Faults text) (moved at fault)
known_fault text at lexemes fault r lt known = by_fault fault (known_here text at fault lt known)
  where
    by_fault : (f : LexFault) → UnlessMemory (IsFaultAt (drop at text)) f → UnlessMemory (Faults text) (moved at f)
    by_fault faults.Memory here = tt
    by_fault (faults.BadByte p) here = reached_fault text at lexemes _ r here
    by_fault (faults.OpenString p) here = reached_fault text at lexemes _ r here
    by_fault (faults.OpenComment p) here = reached_fault text at lexemes _ r here
    by_fault (faults.TooBig p) here = reached_fault text at lexemes _ r here

pub goes_down : (text : List ℕ) (at len : ℕ) → (0 < len) × (at + len ≤ length text) → length text - (at + len) < length text - at
goes_down text at len on = omega (arith, on.0, on.1)

-- ---- spans

-- If the spans lie after a bound, then the spans lie after each smaller bound.
spans_earlier : (low from : ℕ) (xs : List Lexeme) (end : ℕ) → low ≤ from → SpansWithin from xs end → SpansWithin low xs end
spans_earlier low from [] end le spans = omega (arith, spans)
spans_earlier low from (x ∷ xs) end le spans = (omega (arith, spans.0), spans.1, spans.2)

spans_of : (position : ℕ) (parts : List TextPart) (rest : List ℕ) → AreParts parts rest → SpansWithin position (lexemes_of position parts) (position + length (flat_map part_bytes parts))
spans_of position [] rest are = omega arith
spans_of position (Separator b ∷ parts) rest are =
    let later = spans_of (position + 1) parts rest are.1 in
    let end : position + 1 + length (flat_map part_bytes parts) ≡ position + suc (length (flat_map part_bytes parts)) = omega arith in
    spans_earlier position (position + 1) _ _ (omega arith) (subst (SpansWithin (position + 1) (lexemes_of (position + 1) parts)) end later)
spans_of position (Comment inside ∷ parts) rest are =
    let len = length (part_bytes (Comment inside)) in
    let later = spans_of (position + len) parts rest are.1 in
    let end : position + len + length (flat_map part_bytes parts) ≡ position + length (part_bytes (Comment inside) ++ flat_map part_bytes parts) = omega (arith, length-append (part_bytes (Comment inside)) (flat_map part_bytes parts)) in
    spans_earlier position (position + len) (lexemes_of (position + len) parts) _ (omega arith) (subst (SpansWithin (position + len) (lexemes_of (position + len) parts)) end later)
spans_of position (Word form ∷ parts) rest are =
    let len = length (form_bytes form) in
    let later = spans_of (position + len) parts rest are.1 in
    let end : position + len + length (flat_map part_bytes parts) ≡ position + length (form_bytes form ++ flat_map part_bytes parts) = omega (arith, length-append (form_bytes form) (flat_map part_bytes parts)) in
    (omega arith, form-positive form are.0.0.written, subst (SpansWithin (position + len) (lexemes_of (position + len) parts)) end later)

-- A text has at most as many lexemes as bytes.
pub few_lexemes : (text : List ℕ) (lexemes : List Lexeme) → Lexes text lexemes → length lexemes ≤ length text
few_lexemes text lexemes is = omega (arith, ap length is.3, ap length is.2, few 0 _ _ (spans_of 0 is.0 [] is.1))
  where
    few : (from : ℕ) (xs : List Lexeme) (end : ℕ) → SpansWithin from xs end → from + length xs ≤ end
    few from [] end spans = omega (arith, spans)
    few from (x ∷ xs) end spans = omega (arith, spans.0, spans.1, few (x.span.first + x.span.len) xs end spans.2)

pub spans_within : (text : List ℕ) (r : Result (Vec Lexeme) LexFault) → IfOk r (λ v. Lexes text v.items) → IfOk r (λ v. SpansWithin 0 v.items (length text))
spans_within text (Ok v) is =
    let spans = spans_of 0 is.0 [] is.1 in
    subst (λ l. SpansWithin 0 l (length text)) (sym is.3) (subst (SpansWithin 0 (lexemes_of 0 is.0)) (omega (arith, ap length is.2)) spans)
spans_within text (Err fault) is = tt

-- ---- each text has an outcome

-- The text is a sequence of parts that ends at the end of the text or at a fault.
record Read (text : List ℕ) : Type 0 where
  parts : List TextPart
  rest : List ℕ
  are : AreParts parts rest
  is : text ≡ flat_map part_bytes parts ++ rest
  ending : (rest ≡ []) ⊎ ((fault : LexFault) × IsFaultAt rest fault)

read_more : (part : TextPart) (after : List ℕ) → IsPart part after → Read after → Read (part_bytes part ++ after)
read_more part after is read = record {
  parts = part ∷ read.parts;
  rest = read.rest;
  are = (subst (IsPart part) read.is is, read.are);
  is = ap (λ t. part_bytes part ++ t) read.is ∙ sym (append_assoc (part_bytes part) (flat_map part_bytes read.parts) read.rest);
  ending = read.ending;
}

-- A text of at most `n` bytes has a reading.
read : (n : ℕ) (text : List ℕ) → length text ≤ n → Read text
read n [] le = record { parts = []; rest = []; are = tt; is = refl; ending = inl refl }
read zero (b ∷ bs) le = absurd (omega arith)
read (suc n) (b ∷ bs) le = by_step (λ t fits. read n t fits) (step_at (b ∷ bs)) (step_at-is b bs)
  where
    by_step : ((t : List ℕ) → length t ≤ n → Read t) → (r : Result LexStep LexFault) → IsStepAt (b ∷ bs) r → Read (b ∷ bs)
    by_step others (Err fault) at = record { parts = []; rest = b ∷ bs; are = tt; is = refl; ending = inr (fault, at) }
    by_step others (Ok step) at =
        let shorter : length at.after ≤ n = omega (arith, ap length at.is, length-append (part_bytes at.part) at.after, part-positive at.part at.after at.fits) in
        subst Read (sym at.is) (read_more at.part at.after at.fits (others at.after shorter))

outcome_of : (text : List ℕ) → Read text → (outcome : Result (List Lexeme) LexFault) × Outcome text outcome
outcome_of text r =
    elim r.ending [
      | inl end ↦ (Ok (lexemes_of 0 r.parts), (r.parts, subst (AreParts r.parts) end r.are, r.is ∙ ap (λ t. flat_map part_bytes r.parts ++ t) end ∙ append-nil (flat_map part_bytes r.parts), refl))
      | inr fault ↦ (Err (moved (length (flat_map part_bytes r.parts)) fault.0), (r.parts, r.rest, r.are, r.is, fault.1.breaks (length (flat_map part_bytes r.parts))))
    ]

same_outcome : (text : List ℕ) (o other : Result (List Lexeme) LexFault) → Outcome text o → Outcome text other → other ≡ o
same_outcome text (Ok xs) (Ok ys) is other = ap (λ (l : List Lexeme). Ok l) (one_list text ys xs other is)
same_outcome text (Ok xs) (Err f) is other = absurd (list_or_fault text xs f is other)
same_outcome text (Err f) (Ok xs) is other = absurd (list_or_fault text xs f other is)
same_outcome text (Err f) (Err g) is other = ap (λ (l : LexFault). Err l) (one_fault text g f other is)

pub has_one_outcome : (text : List ℕ) → HasOneOutcome text
has_one_outcome text =
    let o = outcome_of text (read (length text) text (omega arith)) in
    (o.0, o.1, λ other is. same_outcome text o.0 other o.1 is)

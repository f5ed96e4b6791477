-- The lines of a text one after another, and the proof that a text has exactly one answer.
use Rattle.std.proofs.Common.{ℕ, suc, ◌+◌, ◌≡◌, ◌<◌, ◌≤◌, ◌∙◌, ⊎_elim, Bool, false, eqb, List, [], ◌∷◌, ◌++◌, length, take, drop, Option, Some, None, refl, sym, ap, subst, arith, append_assoc, append-nil}
use Rattle.std.specs.Prelude.{Result, Ok, Err, IfOk, IfErr, not, option_to_list}
use Rattle.std.specs.List.{position_or_len}
use Rattle.std.proofs.lemmas.Bool.{cases_lt}
use Rattle.std.proofs.lemmas.List.Elements.{All-from_get_or}
use Rattle.std.proofs.lemmas.List.Splits.{slice_split_none, slice_split_first}
use Rattle.std.proofs.lemmas.List.{drop-drop}
use Rattle.std.proofs.lemmas.List.Sums.{fails_before_first, prefix_len-le-length}
use Rattle.std.proofs.Math.Seq.{take-length}
use Rattle.text_path.specs.ScriptAnswer.{LineAnswer, IsLineAnswer, lines_of, AreAnswers, ScriptEdits, in_prefix, edits_of, AreEdits, edits_in, IsScriptAnswer, HasOneScriptAnswer, UnlessMemory, ReportsScript}
use Rattle.text_path.specs.declared.edits.ScriptLine.{ScriptLine}
use Rattle.text_path.specs.declared.edits.Script.{Script}
use Rattle.text_path.specs.declared.edits.ScriptFault.{ScriptFault}
use Rattle.text_path.specs.declared.edits.ScriptFault.TheVariants as faults
use Rattle.text_path.proofs.LineAnswers.{one_line_answer, some_line_answer}

-- ---- each text has one answer

pub all_answers : (number : ℕ) (lines : List (List ℕ)) → (answers : List LineAnswer) × AreAnswers number lines answers
all_answers number [] = ([], tt)
all_answers number (line ∷ lines) =
    let first = some_line_answer number line in
    let rest = all_answers (suc number) lines in
    (first.0 ∷ rest.0, (first.1, rest.1))

same_answers : (number : ℕ) (lines : List (List ℕ)) (one other : List LineAnswer) → AreAnswers number lines one → AreAnswers number lines other → one ≡ other
same_answers number [] [] [] a b = refl
same_answers number [] [] (y ∷ ys) a b = absurd b
same_answers number [] (x ∷ xs) ys a b = absurd a
same_answers number (line ∷ lines) [] ys a b = absurd a
same_answers number (line ∷ lines) (x ∷ xs) [] a b = absurd b
same_answers number (line ∷ lines) (x ∷ xs) (y ∷ ys) (a, others) (b, more) =
    ap (λ z. z ∷ xs) (one_line_answer number line x y a b) ∙ ap (λ zs. y ∷ zs) (same_answers (suc number) lines xs ys others more)

abbrev script_from : ScriptEdits → Result Script ScriptFault
script_from (Ok lines) = Ok (record { lines = lines })
script_from (Err fault) = Err fault

in_from : (all : ScriptEdits) → edits_in (script_from all) ≡ all
in_from (Ok lines) = refl
in_from (Err fault) = refl

from_in : (answer : Result Script ScriptFault) → script_from (edits_in answer) ≡ answer
from_in (Ok script) = refl
from_in (Err fault) = refl

at_most_one : (text : List ℕ) (one other : Result Script ScriptFault) → IsScriptAnswer text one → IsScriptAnswer text other → one ≡ other
at_most_one text one other (xs, a, e) (ys, b, f) =
    let same : edits_in one ≡ edits_in other = sym e ∙ ap edits_of (same_answers 1 (lines_of text) xs ys a b) ∙ f in
    sym (from_in one) ∙ ap script_from same ∙ from_in other

pub one_script_answer : (text : List ℕ) → HasOneScriptAnswer text
one_script_answer text =
    let all = all_answers 1 (lines_of text) in
    let answer = script_from (edits_of all.0) in
    let is : IsScriptAnswer text answer = (all.0, all.1, sym (in_from (edits_of all.0))) in
    (answer, is, λ other so. at_most_one text other answer so is)

pub reports_script : (text : List ℕ) (result : Result Script ScriptFault) → IfOk result (λ script. IsScriptAnswer text (Ok script))
    → IfErr result (UnlessMemory (λ fault. IsScriptAnswer text (Err fault)))
    → (answer : Result Script ScriptFault) → IsScriptAnswer text answer → ReportsScript result answer
reports_script text (Ok script) s f answer is = at_most_one text answer (Ok script) is s
reports_script text (Err (faults.Lex line fault)) s f answer is = at_most_one text answer (Err (faults.Lex line fault)) is f
reports_script text (Err (faults.Syntax line position)) s f answer is = at_most_one text answer (Err (faults.Syntax line position)) is f
reports_script text (Err (faults.Later line)) s f answer is = at_most_one text answer (Err (faults.Later line)) is f
reports_script text (Err faults.Memory) s f answer is = tt

-- ---- the first line of the rest

abbrev pub is_feed : ℕ → Bool
is_feed b = eqb b 10

abbrev pub first_len : List ℕ → ℕ
first_len text = position_or_len is_feed text

pub last_line : (text : List ℕ) → first_len text ≡ length text → lines_of text ≡ text ∷ []
last_line text e =
    slice_split_none is_feed text
    (All-from_get_or (λ b. is_feed b ≡ false) text 0 (λ k h. fails_before_first is_feed text k 0 (subst (λ n. k < n) (sym e) h)))

first_line : (text : List ℕ) → (others : List (List ℕ)) × (lines_of text ≡ take (first_len text) text ∷ others)
first_line text = ⊎_elim {C = (others : List (List ℕ)) × (lines_of text ≡ take (first_len text) text ∷ others)}
    (λ l. (lines_of (drop (first_len text + 1) text), slice_split_first is_feed text 0 l))
    (λ l. let e : first_len text ≡ length text = omega (arith, prefix_len-le-length (λ b. not (is_feed b)) text) in
    ([], last_line text e ∙ ap (λ line. line ∷ []) (sym (take-length text) ∙ ap (λ n. take n text) (sym e))))
    (cases_lt (first_len text) (length text))

-- ---- the loop

abbrev pub after : List ScriptLine → ScriptEdits → ScriptEdits
after lines (Ok more) = Ok (lines ++ more)
after lines (Err fault) = Err fault

-- The edits of the text from the offset `at` on, after the lines `lines`, are the edits of the
-- whole text.
abbrev pub Continues : List ℕ → ℕ → ℕ → List ScriptLine → Type 0
Continues text at number lines = (rest : ScriptEdits) → AreEdits number (drop at text) rest → AreEdits 1 text (after lines rest)

module _ (text : List ℕ) (number : ℕ) where
  begins_with : (answer : LineAnswer) → IsLineAnswer number (take (first_len text) text) answer → (others : List (List ℕ)) →
      lines_of text ≡ take (first_len text) text ∷ others → (answers : List LineAnswer) → AreAnswers (suc number) others answers → AreEdits number text (edits_of (answer ∷ answers))
  begins_with answer is others e answers rest =
      (answer ∷ answers, subst (λ lines. AreAnswers number lines (answer ∷ answers)) (sym e) (is, rest), refl)

  faulty : (fault : ScriptFault) → IsLineAnswer number (take (first_len text) text) (Err fault) → AreEdits number text (Err fault)
  faulty fault is =
      let lines = first_line text in
      let others = all_answers (suc number) lines.0 in
      begins_with (Err fault) is lines.0 lines.1 others.0 others.1

  last_read : (line : Option ScriptLine) → IsLineAnswer number (take (first_len text) text) (Ok line) → first_len text ≡ length text → AreEdits number text (in_prefix line (Ok []))
  last_read line is e =
      begins_with (Ok line) is [] (last_line text e ∙ ap (λ l. l ∷ []) (sym (take-length text) ∙ ap (λ n. take n text) (sym e))) [] tt

  more_read : (line : Option ScriptLine) → IsLineAnswer number (take (first_len text) text) (Ok line) → first_len text < length text →
      (rest : ScriptEdits) → AreEdits (suc number) (drop (first_len text + 1) text) rest → AreEdits number text (in_prefix line rest)
  more_read line is h rest (answers, are, e) =
      subst (λ all. AreEdits number text (in_prefix line all)) e
      (begins_with (Ok line) is (lines_of (drop (first_len text + 1) text)) (slice_split_first is_feed text 0 h) answers are)

after_prefix : (lines : List ScriptLine) (line : Option ScriptLine) (rest : ScriptEdits) → after lines (in_prefix line rest) ≡ after (lines ++ option_to_list line) rest
after_prefix lines None (Ok more) = ap (λ l. Ok (l ++ more)) (sym (append-nil lines))
after_prefix lines None (Err fault) = refl
after_prefix lines (Some line) (Ok more) = ap (λ l. Ok l) (sym (append_assoc lines (line ∷ []) more))
after_prefix lines (Some line) (Err fault) = refl

module _ (text : List ℕ) (at number : ℕ) (lines : List ScriptLine) (before : Continues text at number lines)
    (rest : List ℕ) (is_rest : rest ≡ drop at text) (len : ℕ) (is_len : len ≡ first_len rest) where
  going : (all : ScriptEdits) → AreEdits number rest all → AreEdits 1 text (after lines all)
  going all are = before all (subst (λ left. AreEdits number left all) is_rest are)

  module _ (line : LineAnswer) (is : IsLineAnswer number (take len rest) line) where
    at_first : IsLineAnswer number (take (first_len rest) rest) line
    at_first = subst (λ n. IsLineAnswer number (take n rest) line) is_len is

  pub stops_at : (fault : ScriptFault) → UnlessMemory (λ f. IsLineAnswer number (take len rest) (Err f)) fault → UnlessMemory (λ f. AreEdits 1 text (Err f)) fault
  stops_at (faults.Lex line fault) is = going (Err (faults.Lex line fault)) (faulty rest number (faults.Lex line fault) (at_first (Err (faults.Lex line fault)) is))
  stops_at (faults.Syntax line position) is = going (Err (faults.Syntax line position)) (faulty rest number (faults.Syntax line position) (at_first (Err (faults.Syntax line position)) is))
  stops_at (faults.Later line) is = going (Err (faults.Later line)) (faulty rest number (faults.Later line) (at_first (Err (faults.Later line)) is))
  stops_at faults.Memory is = tt

  module _ (line : Option ScriptLine) (is : IsLineAnswer number (take len rest) (Ok line)) (more : List ScriptLine) (e : more ≡ lines ++ option_to_list line) where
    pub ends_here : len ≡ length rest → AreEdits 1 text (Ok more)
    ends_here h =
        let whole : after lines (in_prefix line (Ok [])) ≡ Ok more =
        after_prefix lines line (Ok []) ∙ ap (λ l. Ok l) (append-nil (lines ++ option_to_list line) ∙ sym e) in
        subst (AreEdits 1 text) whole (going (in_prefix line (Ok [])) (last_read rest number line (at_first (Ok line) is) (sym is_len ∙ h)))

    pub goes_on : len < length rest → Continues text (at + (len + 1)) (number + 1) more
    goes_on h all are =
        let here : drop (at + (len + 1)) text ≡ drop (first_len rest + 1) rest =
        sym (drop-drop (len + 1) at text) ∙ ap (drop (len + 1)) (sym is_rest) ∙ ap (λ n. drop (n + 1) rest) is_len in
        let next : number + 1 ≡ suc number = omega arith in
        let moved : AreEdits (suc number) (drop (first_len rest + 1) rest) all =
        subst (λ xs. AreEdits (suc number) xs all) here (subst (λ n. AreEdits n (drop (at + (len + 1)) text) all) next are) in
        let whole : after lines (in_prefix line all) ≡ after more all = after_prefix lines line all ∙ ap (λ l. after l all) (sym e) in
        subst (AreEdits 1 text) whole
        (going (in_prefix line all) (more_read rest number line (at_first (Ok line) is) (subst (λ n. n < length rest) is_len h) all moved))

    pub shorter : (len ≡ length rest → ⊥) → len < length rest
    shorter h = let below : len ≤ length rest = subst (λ n. n ≤ length rest) (sym is_len) (prefix_len-le-length (λ b. not (is_feed b)) rest) in omega arith

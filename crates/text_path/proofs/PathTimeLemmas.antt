-- The lines of a script copy from values that come before the edited values.
use Rattle.std.proofs.Common.{ℕ, suc, ◌≡◌, List, [], ◌∷◌, Some, None, refl, subst}
use Rattle.std.specs.Prelude.{Ok, Err}
use Rattle.text_path.specs.ScriptAnswer.{LineAnswer, IsInTime, AreInTime, IsLineAnswer, AreAnswers, ScriptEdits, in_prefix, edits_of, AreEdits}
use Rattle.text_path.specs.declared.edits.ScriptLine.{ScriptLine}

one_in_time : (number : ℕ) (line : List ℕ) (read : ScriptLine) → IsLineAnswer number line (Ok (Some read)) → IsInTime read.value read.action
one_in_time number line read (Ok lexemes, lexed, is) = is.2
one_in_time number line read (Err fault, lexed, is) = absurd (cc is)

all_in_time : (number : ℕ) (lines : List (List ℕ)) (answers : List LineAnswer) (all : List ScriptLine)
    → AreAnswers number lines answers → edits_of answers ≡ Ok all → AreInTime all
all_in_time number [] [] all are e = let same : [] ≡ all = cc e in subst AreInTime same tt
all_in_time number (line ∷ lines) [] all are e = absurd are
all_in_time number [] (answer ∷ answers) all are e = absurd are
all_in_time number (line ∷ lines) (Ok None ∷ answers) all are e = all_in_time (suc number) lines answers all are.1 e
all_in_time number (line ∷ lines) (Err fault ∷ answers) all are e = absurd (cc e)
all_in_time number (line ∷ lines) (Ok (Some read) ∷ answers) all are e =
    at (λ more same. all_in_time (suc number) lines answers more are.1 same) (edits_of answers) refl e where
      at : ((more : List ScriptLine) → edits_of answers ≡ Ok more → AreInTime more)
          → (rest : ScriptEdits) → edits_of answers ≡ rest → in_prefix (Some read) rest ≡ Ok all → AreInTime all
      at later (Err fault) same e = absurd (cc e)
      at later (Ok more) same e =
          let parts : read ∷ more ≡ all = cc e in
          subst AreInTime parts (one_in_time number line read are.0, later more same)

-- If lines are the edits of a text, then each line copies only from values before the edited value.
pub lines_in_time : (text : List ℕ) (lines : List ScriptLine) → AreEdits 1 text (Ok lines) → AreInTime lines
lines_in_time text lines (answers, are, e) = all_in_time 1 _ answers lines are e

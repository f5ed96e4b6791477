-- The result for the plain script, with original offsets, is the answer of the original text.
use Rattle.std.proofs.Common.{ℕ, ◌≡◌, ◌∙◌, List, map, Ok, Err, sym, ap, subst}
use Rattle.text_path.specs.ScriptAnswer.{ScriptEdits, AreEdits, UnlessMemory}
use Rattle.text_path.specs.declared.edits.ScriptLine.{ScriptLine}
use Rattle.text_path.specs.declared.edits.ScriptFault.{ScriptFault}
use Rattle.text_path.specs.declared.edits.ScriptFault.TheVariants as faults
use Rattle.text_decimal.specs.declared.scripts.plain_scripts.PlainScript.{PlainScript}
use Rattle.text_decimal.specs.scripts.Scripts.{given_line, given_fault, AreGivenEdits}
use Rattle.text_decimal.specs.scripts.PlainScripts.{IsPlainScript}

module _ (text : List ℕ) (plain : PlainScript) (is : IsPlainScript text plain) where
  pub lines_read : (lines given : List ScriptLine) → AreEdits 1 plain.text.items (Ok lines) → given ≡ map (given_line plain.decimals.items) lines
      → AreGivenEdits text (Ok given)
  lines_read lines given read e =
      (Ok lines, subst (λ t. AreEdits 1 t (Ok lines)) is.text_is read, ap {B = ScriptEdits} (λ ls. Ok ls) (e ∙ ap (λ ds. map (given_line ds) lines) is.decimals_are))

  at_fault : (fault : ScriptFault) → AreEdits 1 plain.text.items (Err fault) → AreGivenEdits text (Err (given_fault plain.decimals.items fault))
  at_fault fault read =
      (Err fault, subst (λ t. AreEdits 1 t (Err fault)) is.text_is read, ap {B = ScriptEdits} (λ ds. Err (given_fault ds fault)) is.decimals_are)

  pub fault_read : (fault given : ScriptFault) → UnlessMemory (λ f. AreEdits 1 plain.text.items (Err f)) fault → given ≡ given_fault plain.decimals.items fault
      → UnlessMemory (λ f. AreGivenEdits text (Err f)) given
  fault_read fault given read e = subst (UnlessMemory (λ f. AreGivenEdits text (Err f))) (sym e) (at fault read) where
    at : (fault : ScriptFault) → UnlessMemory (λ f. AreEdits 1 plain.text.items (Err f)) fault
        → UnlessMemory (λ f. AreGivenEdits text (Err f)) (given_fault plain.decimals.items fault)
    at (faults.Lex number fault) read = at_fault (faults.Lex number fault) read
    at (faults.Syntax number position) read = at_fault (faults.Syntax number position) read
    at (faults.Later number) read = at_fault (faults.Later number) read
    at faults.Memory read = tt

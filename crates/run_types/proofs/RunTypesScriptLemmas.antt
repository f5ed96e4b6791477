-- A parsed SCRIPT copies only parts of earlier values, with decimals or without.
use Rattle.std.proofs.Common.{◌≡◌, ℕ, Bool, true, false, List, Ok, Err, map, sym, subst}
use Rattle.text_path.specs.ScriptAnswer.{AreEdits, AreInTime}
use Rattle.text_path.specs.declared.edits.ScriptLine.{ScriptLine}
use Rattle.text_decimal.specs.scripts.Scripts.{plain_script, decimals_of, given_line}
use Rattle.text_decimal.proofs.scripts.DecimalScriptTimeLemmas.{given_in_time}
use Rattle.run_types.specs.Language.{ReadsScript}

pub script_in_time : ((text : List ℕ) (lines : List ScriptLine) → AreEdits 1 text (Ok lines) → AreInTime lines)
    → (lines decimal : Bool) (text : List ℕ) (edits : List ScriptLine) → ReadsScript lines decimal text (Ok edits) → AreInTime edits
script_in_time in_time lines false text edits is = in_time text edits is
script_in_time in_time lines true text edits (Err fault, is, e) = absurd (cc e)
script_in_time in_time lines true text edits (Ok plain, is, e) =
    let same : edits ≡ map (given_line (decimals_of text)) plain = cc e in
    subst AreInTime (sym same) (given_in_time (decimals_of text) plain (in_time (plain_script text) plain is))

-- The result that the code returns for a value and the value's certificate entry.
use Rattle.std.specs.Prelude.{ℕ, ◌≡◌, ◌⊎◌, Bool, List, [], ◌++◌, slice_get, Some, None, Result, Ok}
use Rattle.std.specs.Prelude.{Err, codes}
use Rattle.base_data.specs.declared.model.value.Val.{Val}
use Rattle.base_data.specs.declared.model.value.Obj.{Obj}
use Rattle.cert_format.specs.declared.section.Section.{Section}
use Rattle.base_io.specs.Sink.{Writes, WritesPart}
use Rattle.base_io.specs.StreamState.{ByteState, Change}
use Rattle.cli_spec.specs.Outcome.{line}
use Rattle.cli_spec.specs.declared.exit.Exit.TheVariants.{Uncertified as uncertified_value}
use Rattle.cli_errors.specs.declared.exit_line.Error.{Error}
use Rattle.cli_errors.specs.declared.exit_line.Error.TheVariants as aborts
use Rattle.run_types.specs.Checked.{OrMemory}
use Rattle.run_types.specs.Language.{TypeOver}
use Rattle.cmd_verify.specs.spec.Verification.{Shown, shows, rejects}
use Rattle.cmd_verify.specs.declared.command.verified_value.VerifiedValue.{VerifiedValue}
use Rattle.cmd_verify.specs.declared.command.verified_value.VerifiedValue.TheVariants.{Line}
use Rattle.cmd_verify.specs.declared.command.verified_value.VerifiedValue.TheVariants.{Uncertified}
use Rattle.cmd_verify.specs.command.VerifiedSections.{IsShownAt}

-- The result for a value by one certificate entry.
abbrev pub Judges : TypeOver → Section → List Obj → Val → VerifiedValue → Type 0
Judges t section graph v (Line text ok) =
    (output : List ℕ) × IsShownAt t section graph v (shows output ok) × (text ≡ line output)
Judges t section graph v (Uncertified reason) =
    (why : List ℕ) × IsShownAt t section graph v (rejects why)
    × (reason ≡ codes "certificate " ++ why)

-- The certificate entry with number `number` gives the result `shown` for the value.
abbrev pub IsShownBy : TypeOver → List Section → ℕ → List Obj → Val → Shown → Type 0
IsShownBy t sections number graph v shown =
    (section : Section) × (slice_get sections number ≡ Some section)
    × IsShownAt t section graph v shown

-- There is no certificate entry with number `number`, or the entry is rejected for the reason.
abbrev pub IsUncertifiedBy : TypeOver → List Section → ℕ → List Obj → Val → List ℕ → Type 0
IsUncertifiedBy t sections number graph v reason =
    ((slice_get sections number ≡ None) × (reason ≡ codes "no section"))
    ⊎ ((why : List ℕ) × IsShownBy t sections number graph v (rejects why)
    × (reason ≡ codes "certificate " ++ why))

abbrev pub JudgesAt : TypeOver → List Section → ℕ → List Obj → Val → VerifiedValue → Type 0
JudgesAt t sections number graph v (Line text ok) =
    (output : List ℕ) × IsShownBy t sections number graph v (shows output ok) × (text ≡ line output)
JudgesAt t sections number graph v (Uncertified reason) =
    IsUncertifiedBy t sections number graph v reason

-- How the output for a value is written. Case `Ok`: the line is written. Case `Exit`: the value is
-- not certified or memory ran out, and nothing is written. The last case is that writing the output
-- fails.
abbrev pub WritesShown : TypeOver → List Section → ℕ → List Obj → Val → Change ByteState
    → Result Bool Error → Type 0
WritesShown t sections number graph v out (Ok ok) =
    (output : List ℕ) × IsShownBy t sections number graph v (shows output ok)
    × Writes out (line output)
WritesShown t sections number graph v out (Err (aborts.Exit exit)) =
    OrMemory (λ exit. (reason : List ℕ) × IsUncertifiedBy t sections number graph v reason
    × (exit ≡ uncertified_value number reason)) exit
    × Writes out []
WritesShown t sections number graph v out (Err aborts.WriteFault) =
    (output : List ℕ) × (ok : Bool) × IsShownBy t sections number graph v (shows output ok)
    × WritesPart out (line output)

-- Exit status specification of the command `scan`:
--
-- - 0: The positions up to the end of the input are reported, also if the input contains no value.
-- - 2: The arguments are invalid.
--
-- Neither the input nor a file causes any other status. The meanings of 6, 7, 9 and 10 for the
-- input, for out and for memory do not depend on the command; run_spec::runs defines them.
use Rattle.std.specs.Prelude.{ℕ, ◌≡◌, ◌≢◌}
use Rattle.cli_spec.specs.declared.status.Status.TheVariants.{AllOk, No, Types, Value, Script}
use Rattle.cli_spec.specs.declared.status.Status.TheVariants.{OpenFault, Compat, Certificate}
use Rattle.run_spec.specs.runs.Call.{Call}
use Rattle.run_spec.specs.exit_causes.Causes.{Tables}

-- Neither arguments nor files nor the input end the run early: each input ends without errors.
abbrev pub searching_tables : Tables ℕ
searching_tables = record {
  BadArguments = λ request. ⊥;
  Bar = λ request files status. ⊥;
  ExitWith = λ limit bytes status. ⊥;
  EndWith = λ limit bytes status. status ≡ AllOk;
}

-- Statuses 1, 3, 4, 5, 8, 11 and 12 never occur.
pub record IsNeverStopped (call : Call) : Type 0 where
  pub no : call.status ≢ No
  pub types : call.status ≢ Types
  pub value : call.status ≢ Value
  pub script : call.status ≢ Script
  pub open_fault : call.status ≢ OpenFault
  pub compat : call.status ≢ Compat
  pub certificate : call.status ≢ Certificate

-- Exit status specification with `--only`, for a selected item:
--
-- - 0: The selected item is without errors, whatever follows the item.
-- - 1: The selected item has an error, whatever follows the item.
-- - 4: The input ends before the selected item is complete.
-- - The status of an exit reason: the run of the command ends before the selected item or within
--   it.
use Rattle.std.specs.Prelude.{ℕ, ◌≤◌, ◌≡◌, ◌⊎◌, List, [], ◌∷◌, ◌++◌, length, Option, Some, None}
use Rattle.std.specs.Prelude.{if◌then◌else◌}
use Rattle.cli_spec.specs.declared.status.Status.{Status}
use Rattle.cli_spec.specs.declared.status.Status.TheVariants.{AllOk, No}
use Rattle.cli_spec.specs.Outcome.{status_of, Output, Reply, replies, ending_of}
use Rattle.cli_spec.specs.declared.exit.Exit.{Exit}
use Rattle.run_spec.specs.runs.Commands.{Item, Commands, OutputsFirst, HaveExit}
use Rattle.run_spec.specs.runs.RunSpec.{HoldEnd}
use Rattle.run_spec.specs.exit_causes.Causes.{Tables}
use Rattle.opt_skip_only.specs.only_spec.OnlyCommand.{missing}

module _ {A : Type 0} (c : Commands A) (k : ℕ) (a : A) (bytes : List ℕ) (status : Status) where
  -- The run of the command ends before the selected item or inside the selected item.
  pub record ExitUpTo : Type 0 where
    pub exit : Exit
    pub is : status_of exit ≡ status
    pub holds : HaveExit c a bytes exit
    pub few : length holds.items ≤ k

  -- The selected item exists, and the command's output for the selected item determines the status.
  pub record HaveItem : Type 0 where
    pub items : List Item
    pub earlier : List Output
    pub output : Output
    pub rest : List ℕ
    pub first : OutputsFirst c a bytes items (earlier ++ output ∷ []) rest
    pub number : length earlier ≡ k
    pub is : (if output.ok then AllOk else No) ≡ status

  -- The input ends before the selected item, or inside the selected item.
  pub record EndBefore : Type 0 where
    pub output : List Output
    pub reply : Reply
    pub holds : HoldEnd c a bytes output reply
    pub few : length holds.items ≤ k
    pub is : (ending_of (replies [] (missing (length holds.items) reply))).status ≡ status

module _ {A : Type 0} (c : Commands A) (tables : Tables A) where
  abbrev pub ExitBy : Option ℕ → A → List ℕ → Status → Type 0
  ExitBy None a bytes status = tables.ExitWith a bytes status
  ExitBy (Some k) a bytes status = ExitUpTo c k a bytes status ⊎ HaveItem c k a bytes status

  abbrev pub EndBy : Option ℕ → A → List ℕ → Status → Type 0
  EndBy None a bytes status = tables.EndWith a bytes status
  EndBy (Some k) a bytes status = EndBefore c k a bytes status

  abbrev pub only_command_tables : Tables (Option ℕ × A)
  only_command_tables = record {
    BadArguments = tables.BadArguments;
    Bar = tables.Bar;
    ExitWith = λ act. ExitBy act.0 act.1;
    EndWith = λ act. EndBy act.0 act.1;
  }

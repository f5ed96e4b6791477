-- Exit status specification with `--skip`. Each status is that of the commands for the bytes after
-- the skipped bytes. If the input has fewer bytes than the option skips, the status is 4.
use Rattle.std.specs.Prelude.{◌<◌, ◌≤◌, ◌≡◌, ◌⊎◌, length, drop}
use Rattle.cli_spec.specs.declared.status.Status.TheVariants.{Value}
use Rattle.run_spec.specs.exit_causes.Causes.{Tables}
use Rattle.opt_skip_only.specs.skip_spec.Skipping.{SkippedBytes}

abbrev pub skipping_tables : {A : Type 0} → Tables A → Tables (SkippedBytes × A)
skipping_tables tables = record {
  BadArguments = tables.BadArguments;
  Bar = tables.Bar;
  ExitWith = λ act bytes status.
      (act.0.bytes ≤ length bytes)
      × tables.ExitWith act.1 (drop act.0.bytes bytes) status;
  EndWith = λ act bytes status.
      ((length bytes < act.0.bytes) × (status ≡ Value))
      ⊎ ((act.0.bytes ≤ length bytes)
      × tables.EndWith act.1 (drop act.0.bytes bytes) status);
}

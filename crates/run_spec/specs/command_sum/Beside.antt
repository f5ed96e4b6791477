-- Commands that extend a command set by an additional part of the task, which the arguments
-- determine. The extended commands request the files of the original ones and find the tasks of the
-- original ones.
use Rattle.std.specs.Prelude.{◌≡◌, Result, Ok, Err}
use Rattle.cli_spec.specs.Outcome.{Request}
use Rattle.cli_spec.specs.declared.exit.Exit.{Exit}
use Rattle.run_spec.specs.runs.Commands.{Fetches, Commands}

module _ {A B : Type 0} (part_by : Request → B) (c : Commands A) where
  -- The task of the original commands, together with the additional part.
  abbrev pub Finds : Request → Fetches → Result (B × A) Exit → Type 0
  Finds request files (Ok act) = (act.0 ≡ part_by request) × c.Finds request files (Ok act.1)
  Finds request files (Err exit) = c.Finds request files (Err exit)

-- If the tasks of total commands are total with an additional part, then the extended commands are
-- total.
use Rattle.std.proofs.Common.{Result, Ok, Err, refl}
use Rattle.cli_spec.specs.Outcome.{Request}
use Rattle.cli_spec.specs.declared.exit.Exit.{Exit}
use Rattle.run_spec.specs.runs.Commands.{Fetches, Commands}
use Rattle.run_spec.specs.command_sum.Beside.{Finds}
use Rattle.thm_outcome.specs.Total.{NotNone, AreTotalAt, AreTotal}

module _ {A B : Type 0} (part_by : Request → B) (c : Commands A) (d : Commands (B × A)) where
  -- The commands that find the tasks of `c` and have the outputs of `d`.
  abbrev beside : Commands (B × A)
  beside = record {
    Wants = c.Wants;
    Finds = Finds part_by c;
    Reads = d.Reads;
    IsFirst = d.IsFirst;
    Outputs = d.Outputs;
    Exits = d.Exits;
    Ends = d.Ends;
  }

  beside_finds : (request : Request) (files : Fetches) → NotNone (c.Finds request files)
      → NotNone (Finds part_by c request files)
  beside_finds request files some none = some by where
    by : (found : Result A Exit) → c.Finds request files found → ⊥
    by (Ok a) h = none (Ok (part_by request, a)) (refl, h)
    by (Err exit) h = none (Err exit) h

  module _ (total_at : (part : B) (a : A) → AreTotalAt c a → AreTotalAt beside (part, a)) where
    pub total_beside : (Of : Request → Type 0) → AreTotal c Of → AreTotal beside Of
    total_beside Of total = record {
      finds_some = λ request of files. beside_finds request _ (total.finds_some request of files);
      at = λ request of files act found. total_at act.0 act.1 (total.at request of files act.1 found.1);
    }

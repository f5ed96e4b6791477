-- The laws of the command `scan`.
use Rattle.std.specs.Prelude.{ℕ, ◌≡◌, List, Option, Some, None}
use Rattle.base_data.specs.model.Bytes.{AreBytes}
use Rattle.cli_spec.specs.Outcome.{whole, Request, Replies, ending_of}
use Rattle.run_spec.specs.command_sum.CommandSum.{IsIdleAt, AreDisjoint}
use Rattle.cmd_scan.specs.found_positions.ValuePositions.{ValuePosition, ArePositions, lines_of}
use Rattle.run_spec.specs.runs.Commands.{Commands, Answers}
use Rattle.cmd_scan.specs.spec.Searching.{searching}

module _ (limit_by : Request → Option ℕ) where
  -- The command does nothing for a request that is no search.
  abbrev pub IsIdleElsewhere : Type 0
  IsIdleElsewhere =
      (request : Request) → limit_by request ≡ None → IsIdleAt (searching limit_by) request

  -- The output for a whole input is the lines of the positions of the input's values.
  abbrev pub ReportsPositions : Type 0
  ReportsPositions = (limit : ℕ) (input : List ℕ) (all : Replies) → AreBytes input
      → Answers (searching limit_by) limit (whole input) all
      → (positions : List ValuePosition) × ArePositions limit input positions
      × ((ending_of all).out ≡ lines_of positions)

  -- The command and a command set that does nothing for searches are disjoint.
  abbrev pub StandsDisjointFrom : {A : Type 0} → Commands A → Type 0
  StandsDisjointFrom c =
      ((request : Request) (limit : ℕ) → limit_by request ≡ Some limit → IsIdleAt c request)
      → AreDisjoint c (searching limit_by)

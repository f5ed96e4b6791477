-- The input that the small commands have consumed.
use Rattle.std.specs.Prelude.{ℕ, ◌≡◌, true, List, [], length}
use Rattle.cli_spec.specs.Outcome.{Output, all_ok}
use Rattle.run_spec.specs.runs.Commands.{Item, OutputsFirst}
use Rattle.run_loop.specs.examples.SmallCommands.{IsUnbroken, lines, bytes_but}

-- The bytes consist of complete lines, whose outputs are `output`, and the bytes `rest`. The bytes
-- `rest` contain no line feed.
pub record HasLines (rest bytes : List ℕ) (output : List Output) : Type 0 where
  pub items : List Item
  pub first : OutputsFirst lines tt bytes items output rest
  pub unbroken : IsUnbroken rest
  pub ok : all_ok output ≡ true

-- The command has copied `count` bytes to the output.
pub record HasBytes (refused count : ℕ) (bytes : List ℕ) (output : List Output) : Type 0 where
  pub items : List Item
  pub first : OutputsFirst bytes_but refused bytes items output []
  pub counted : count ≡ length items
  pub ok : all_ok output ≡ true

-- The command `scan` in the general form of `Commands`. An item is the bytes of several parts. An
-- item ends as soon as the bytes after it determine its parts. The output for an item is the lines
-- of the positions in the item. The final output is the lines for the remaining bytes, in which a
-- truncated value is no value.
use Rattle.std.specs.Prelude.{ℕ, ◌+◌, ◌≡◌, true, List, [], ◌∷◌, ◌++◌, length, Option, Some, Result}
use Rattle.std.specs.Prelude.{Ok}
use Rattle.cli_spec.specs.Outcome.{Request, Output, Reply, outputs, exits}
use Rattle.cli_spec.specs.declared.exit.Exit.{Exit}
use Rattle.cmd_scan.specs.found_positions.InputParts.{InputPart, bytes_of, BeginNoValue, AreParts}
use Rattle.cmd_scan.specs.found_positions.InputParts.{IsStretch}
use Rattle.cmd_scan.specs.found_positions.ValuePositions.{positions_of, lines_of}
use Rattle.run_spec.specs.runs.Commands.{Item, value, text, Fetches, Commands}

-- The number of bytes in the items.
abbrev pub bytes_in : List Item → ℕ
bytes_in [] = 0
bytes_in (value tree ∷ items) = bytes_in items
bytes_in (text bytes ∷ items) = length bytes + bytes_in items

module _ (limit : ℕ) where
  -- The item consists of the parts of the first stretch. The bytes after the item are the stretch's
  -- prefix of a value and the bytes that follow the stretch.
  pub record IsFirstStretch (bytes : List ℕ) (item : Item) (more : List ℕ) : Type 0 where
    pub parts : List InputPart
    pub pending : List ℕ
    pub later : List ℕ
    pub is : item ≡ text (bytes_of parts)
    pub more_is : more ≡ pending ++ later
    pub bytes_are : bytes ≡ bytes_of parts ++ more
    pub stretch : IsStretch limit parts pending

  -- The output is the lines of the positions in these bytes, which follow the items.
  pub record OutputsPositions (items : List Item) (bytes : List ℕ) (output : Output) : Type 0 where
    pub parts : List InputPart
    pub bytes_are : bytes ≡ bytes_of parts
    pub are : AreParts limit (BeginNoValue limit) parts []
    pub text_is : output.text ≡ lines_of (positions_of (bytes_in items) parts)
    pub ok : output.ok ≡ true

  abbrev pub OutputsStretch : List Item → Item → Output → Type 0
  OutputsStretch items item output =
      (bytes : List ℕ) × (item ≡ text bytes) × OutputsPositions items bytes output

  -- The reply at the end of the input outputs the lines of the positions in the remaining bytes.
  -- The run never ends before the end of its input.
  abbrev pub EndsWithPositions : List Item → List ℕ → Reply → Type 0
  EndsWithPositions items bytes (outputs output) = OutputsPositions items bytes output
  EndsWithPositions items bytes (exits exit) = ⊥

-- The limit, if the request is a search.
module _ (limit_by : Request → Option ℕ) where
  abbrev pub Finds : Request → Fetches → Result ℕ Exit → Type 0
  Finds request files result =
      (limit : ℕ) × (limit_by request ≡ Some limit) × (result ≡ Ok limit)

  abbrev pub searching : Commands ℕ
  searching = record {
    Wants = λ request files turn name. ⊥;
    Finds = Finds;
    Reads = λ limit. Unit {0};
    IsFirst = λ limit items. IsFirstStretch limit;
    Outputs = OutputsStretch;
    Exits = λ limit items bytes exit. ⊥;
    Ends = EndsWithPositions;
  }

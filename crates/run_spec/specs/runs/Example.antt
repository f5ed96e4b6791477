-- An example of lawful commands. The command reads a file. If the file is empty, the command reads
-- no input and prints a line. If the file is not empty, the command repeats each line of the input
-- up to a line that begins with byte 255, which the command refuses. At the end of the input, the
-- command prints the bytes after the last line feed.
use Rattle.std.specs.Prelude.{ℕ, ◌≡◌, ◌≢◌, Bool, true, false, IsTrue, List, [], ◌∷◌, ◌++◌, length}
use Rattle.std.specs.Prelude.{Ok, codes}
use Rattle.cli_spec.specs.Outcome.{Output, Reply, outputs, replies, Taken, whole, Then, ReadsFile}
use Rattle.cli_spec.specs.declared.exit.Exit.{Exit}
use Rattle.cli_spec.specs.declared.exit.Exit.TheVariants.{Value as value}
use Rattle.run_spec.specs.runs.Commands.{Item, text, Commands, Answers}

-- The name of the file that the example reads.
abbrev pub example_name : List ℕ
example_name = codes "example"

-- The list has at least one byte.
abbrev pub has_bytes : List ℕ → Bool
has_bytes [] = false
has_bytes (b ∷ more) = true

-- An output without errors.
abbrev pub ok_output : List ℕ → Output
ok_output bytes = record { text = bytes; ok = true }

-- The bytes are the line `line`, a line feed, and the bytes `more`.
abbrev pub IsLine : List ℕ → List ℕ → List ℕ → Type 0
IsLine [] line more = ⊥
IsLine (b ∷ bytes) [] more = (b ≡ 10) × (bytes ≡ more)
IsLine (b ∷ bytes) (c ∷ line) more = (b ≡ c) × (b ≢ 10) × IsLine bytes line more

abbrev pub IsFirstLine : List ℕ → Item → List ℕ → Type 0
IsFirstLine bytes item more = (line : List ℕ) × IsLine bytes line more × (item ≡ text line)

-- The line does not begin with byte 255.
abbrev pub IsFine : List ℕ → Type 0
IsFine [] = Unit {0}
IsFine (b ∷ line) = b ≢ 255

-- The command repeats a line that does not begin with byte 255.
abbrev pub OutputsLine : Item → Output → Type 0
OutputsLine item output =
    (line : List ℕ) × IsFine line × (item ≡ text line) × (output ≡ ok_output (line ++ 10 ∷ []))

-- The command refuses a line that begins with byte 255.
abbrev pub ExitsAtLine : List Item → List ℕ → Exit → Type 0
ExitsAtLine items bytes exit =
    (more : List ℕ) × (bytes ≡ 255 ∷ more) × (exit ≡ value (length items) (codes "Example"))

-- The final output: the remaining bytes, or `unread` if no input is read.
abbrev pub last_output : Bool → List ℕ → Reply
last_output true bytes = outputs (ok_output bytes)
last_output false bytes = outputs (ok_output (codes "unread"))

abbrev pub example : Commands Bool
example = record {
  Wants = λ request files turn name. (turn ≡ 0) × (name ≡ example_name);
  Finds = λ request files.
      Then (ReadsFile example_name (files 0 example_name)) (λ text found.
      found ≡ Ok (has_bytes text));
  Reads = λ reads. IsTrue reads;
  IsFirst = λ reads items. IsFirstLine;
  Outputs = λ reads items. OutputsLine;
  Exits = λ reads. ExitsAtLine;
  Ends = λ reads items bytes last. last ≡ last_output reads bytes;
}

-- If no input is read, then there is one reply, whatever the input is.
abbrev pub OutputsUnread : Type 0
OutputsUnread = (input : Taken) → Answers example false input (replies [] (last_output false []))

-- For `a`, a line feed, and `b`, the command prints the line and then the rest.
abbrev pub OutputsRest : Type 0
OutputsRest =
    Answers example true (whole (97 ∷ 10 ∷ 98 ∷ []))
    (replies (ok_output (97 ∷ 10 ∷ []) ∷ []) (outputs (ok_output (98 ∷ []))))

-- Three small commands: one reads no input, one reads lines, and one reads bytes and refuses one
-- byte value.
use Rattle.std.specs.Prelude.{ℕ, ◌≡◌, ◌≢◌, true, List, [], ◌∷◌, ◌++◌, length, Ok, codes}
use Rattle.std.specs.List.{AllByRecursion}
use Rattle.base_data.specs.declared.model.refusal.ReadRefusal.TheVariants.{Compressed}
use Rattle.cli_spec.specs.Outcome.{Output, nothing_output, outputs}
use Rattle.cli_spec.specs.RefusalText.{refusal_text}
use Rattle.cli_spec.specs.declared.exit.Exit.{Exit}
use Rattle.cli_spec.specs.declared.exit.Exit.TheVariants.{Value as value}
use Rattle.run_spec.specs.runs.Commands.{Item, text, Commands}

-- An output without errors.
abbrev pub fine : List ℕ → Output
fine output = record { text = output; ok = true }

-- ---- the command writes a text and reads no input

abbrev pub reporting : Commands (List ℕ)
reporting = record {
  Wants = λ request files turn name. ⊥;
  Finds = λ request files found. found ≡ Ok (codes "told");
  Reads = λ a. ⊥;
  IsFirst = λ a items bytes item more. ⊥;
  Outputs = λ a items item output. ⊥;
  Exits = λ a items bytes exit. ⊥;
  Ends = λ a items bytes last. last ≡ outputs (fine a);
}

-- ---- the command copies each line; a last line without a line feed gets one

-- The bytes contain no line feed.
abbrev pub IsUnbroken : List ℕ → Type 0
IsUnbroken bytes = AllByRecursion (λ b. b ≢ 10) bytes

-- The bytes are a line with its line feed, followed by the bytes `more`.
pub record IsFirstLine (bytes : List ℕ) (item : Item) (more : List ℕ) : Type 0 where
  pub line : List ℕ
  pub unbroken : IsUnbroken line
  pub bytes_are : bytes ≡ line ++ 10 ∷ more
  pub is : item ≡ text line

abbrev pub OutputsLine : Item → Output → Type 0
OutputsLine item output =
    (line : List ℕ) × (item ≡ text line) × (output ≡ fine (line ++ 10 ∷ []))

-- The output for the bytes after the last line feed.
abbrev pub last_line : List ℕ → Output
last_line [] = nothing_output
last_line (b ∷ rest) = fine ((b ∷ rest) ++ 10 ∷ [])

abbrev pub lines : Commands (Unit {0})
lines = record {
  Wants = λ request files turn name. ⊥;
  Finds = λ request files found. found ≡ Ok tt;
  Reads = λ a. Unit {0};
  IsFirst = λ a items. IsFirstLine;
  Outputs = λ a items. OutputsLine;
  Exits = λ a items bytes exit. ⊥;
  Ends = λ a items bytes last. last ≡ outputs (last_line bytes);
}

-- ---- the command copies each byte, and refuses one byte value

-- The bytes are one byte, which is the item, followed by the bytes `more`.
abbrev pub IsFirstByte : List ℕ → Item → List ℕ → Type 0
IsFirstByte bytes item more = (b : ℕ) × (bytes ≡ b ∷ more) × (item ≡ text (b ∷ []))

abbrev pub OutputsByte : ℕ → Item → Output → Type 0
OutputsByte refused item output =
    (b : ℕ) × (b ≢ refused) × (item ≡ text (b ∷ [])) × (output ≡ fine (b ∷ []))

-- The next byte is the refused byte, and the exit reason reports the number of the byte.
abbrev pub ExitsAtByte : ℕ → List Item → List ℕ → Exit → Type 0
ExitsAtByte refused items bytes exit =
    (more : List ℕ) × (bytes ≡ refused ∷ more)
    × (exit ≡ value (length items) (refusal_text Compressed))

abbrev pub bytes_but : Commands ℕ
bytes_but = record {
  Wants = λ request files turn name. ⊥;
  Finds = λ request files found. found ≡ Ok 255;
  Reads = λ a. Unit {0};
  IsFirst = λ a items. IsFirstByte;
  Outputs = λ a items. OutputsByte a;
  Exits = ExitsAtByte;
  Ends = λ a items bytes last. last ≡ outputs nothing_output;
}

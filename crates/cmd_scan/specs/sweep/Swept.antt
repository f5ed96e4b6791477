-- The processing of buffered bytes: parts are consumed, the lines of values are appended, and the
-- reader holds bytes that may still become a value.
use Rattle.std.specs.Prelude.{ℕ, ◌<◌, ◌≡◌, ◌≢◌, List, [], ◌++◌, length, Result, Ok, Err}
use Rattle.base_data.specs.declared.model.refusal.ReadRefusal.{ReadRefusal}
use Rattle.base_data.specs.declared.model.refusal.ReadRefusal.TheVariants as refusals
use Rattle.marshal_spec.specs.format.Prefix.{IsPrefix}
use Rattle.marshal_heap.specs.heap.Heap.{heap_words}
use Rattle.marshal_read.specs.declared.reader.Reader.{Reader}
use Rattle.marshal_read.specs.declared.returned_value.Value.{Value}
use Rattle.marshal_read.specs.Reader.{LeadsReader}
use Rattle.types_spec.specs.types.VerdictText.{kind_text}
use Rattle.cmd_scan.specs.found_positions.InputParts.{InputPart, bytes_of, BeginNoValue, AreRefused}
use Rattle.cmd_scan.specs.found_positions.InputParts.{AreParts}
use Rattle.cmd_scan.specs.found_positions.ValuePositions.{ValuePosition, positions_of, lines_of}
use Rattle.cmd_scan.specs.declared.sweep.next_part.NextPart.{NextPart}
use Rattle.cmd_scan.specs.declared.sweep.next_part.NextPart.TheVariants as nexts
use Rattle.cmd_scan.specs.declared.sweep.next_part.NextPart.TheVariants.{Decided, Waits}
use Rattle.cmd_scan.specs.declared.sweep.input_parts.Swept.{Swept}

-- The position of a value that was read from `size` bytes at offset `at`.
abbrev pub position_read : ℕ → ℕ → Value → ValuePosition
position_read at size value = record {
  offset = at;
  size = size;
  words = heap_words value.heap;
  objects = length value.heap;
  kind = kind_text value.heap value.root;
}

-- The bytes consist of parts followed by `rest`, and the lines of the parts' positions were
-- appended. `at` is the offset of the bytes in the input.
pub record WritesParts (limit : ℕ) (None : List ℕ → Type 0) (at : ℕ) (bytes rest old new : List ℕ)
    : Type 0 where
  pub parts : List InputPart
  pub bytes_are : bytes ≡ bytes_of parts ++ rest
  pub are : AreParts limit None parts rest
  pub text_is : new ≡ old ++ lines_of (positions_of at parts)

-- One byte is skipped, or memory ran out.
abbrev pub PassesOne : {E : Type 0} → ReadRefusal → Result NextPart E → Type 0
PassesOne refusal (Ok next) = (next ≡ nexts.Decided 1) × (refusal ≢ refusals.Memory)
PassesOne refusal (Err e) = Unit {0}

-- The length of the next part, if no more bytes follow.
abbrev pub IsLast : NextPart → ℕ → Type 0
IsLast (Decided n) last = last ≡ n
IsLast (Waits reader) last = last ≡ 1

module _ (limit at : ℕ) (bytes old new : List ℕ) where
  -- The bytes begin with parts of `n` bytes, followed by `rest`, and the lines of the parts were
  -- appended.
  abbrev pub Takes : (List ℕ → Type 0) → ℕ → List ℕ → Type 0
  Takes None n rest =
      (writes : WritesParts limit None at bytes rest old new) × (n ≡ length (bytes_of writes.parts))

  -- The bytes may still become a value, and the reader has consumed them.
  abbrev pub AreWaiting : Reader → List ℕ → Type 0
  AreWaiting reader prefix = IsPrefix limit prefix × LeadsReader limit prefix reader

  -- Either determined parts are consumed, or the reader has taken all bytes, or memory ran out.
  abbrev pub IsNext : {E : Type 0} → Result NextPart E → Type 0
  IsNext (Ok (Decided n)) = (0 < n) × (rest : List ℕ) × Takes (AreRefused limit) n rest
  IsNext (Ok (Waits reader)) = AreWaiting reader bytes × (new ≡ old)
  IsNext (Err e) = Unit {0}

  -- Either some of the bytes are parts if no more bytes follow, or memory ran out.
  abbrev pub IsLastPart : {E : Type 0} → Result ℕ E → Type 0
  IsLastPart (Ok n) = (0 < n) × (rest : List ℕ) × Takes (BeginNoValue limit) n rest
  IsLastPart (Err e) = Unit {0}

  -- Either determined parts are consumed and the reader has taken the remaining bytes, or memory
  -- ran out.
  abbrev pub Sweeps : {E : Type 0} → Result Swept E → Type 0
  Sweeps (Ok swept) =
      (rest : List ℕ) × Takes (AreRefused limit) swept.decided rest × AreWaiting swept.reader rest
  Sweeps (Err e) = Unit {0}

  -- Either all bytes are parts, if no more bytes follow, or memory ran out.
  abbrev pub SweepsAll : {U E : Type 0} → Result U E → Type 0
  SweepsAll (Ok unit) = WritesParts limit (BeginNoValue limit) at bytes [] old new
  SweepsAll (Err e) = Unit {0}

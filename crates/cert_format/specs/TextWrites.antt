-- Writing of a text to a sink through a buffer.
use Rattle.std.specs.Prelude.{ℕ, ◌≡◌, List, ◌++◌, Result, MatchResult}
use Rattle.base_io.specs.StreamState.{ByteState, Change}
use Rattle.base_io.specs.Sink.{Writes, WritesPart}

-- A prefix of the text was written, and `rest` is the remaining text.
pub record LeavesText (sink : Change ByteState) (text rest : List ℕ) : Type 0 where
  pub prefix : List ℕ
  pub whole : text ≡ prefix ++ rest
  pub write : Writes sink prefix

-- Either a prefix was written and `rest` remains, or a call failed and a proper prefix was written.
abbrev pub WritesPrefix : {A E : Type 0} → Change ByteState → List ℕ → List ℕ → Result A E → Type 0
WritesPrefix sink text rest result =
    MatchResult result (λ _. LeavesText sink text rest) (λ _. WritesPart sink text)

-- Either the whole text was written, or a call failed and a proper prefix was written.
abbrev pub WritesAll : {A E : Type 0} → Change ByteState → List ℕ → Result A E → Type 0
WritesAll sink text result = MatchResult result (λ _. Writes sink text) (λ _. WritesPart sink text)

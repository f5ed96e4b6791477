-- How a text is written to a sink through a buffer.
use Rattle.std.specs.Prelude.{ℕ, ◌≡◌, List, ◌++◌, Result, MatchResult}
use Rattle.base_io.specs.StreamState.{ByteState, change}
use Rattle.base_io.specs.Sink.{Writes, WritesPart}

-- A prefix of the text was written to the sink, and the buffer holds the remainder of the text.
pub record Carries (before now : ByteState) (buffer text : List ℕ) : Type 0 where
  pub prefix : List ℕ
  pub whole : prefix ++ buffer ≡ text
  pub writes : Writes (change before now) prefix

-- The text in the sink and in the buffer was extended by `chunk`.
abbrev pub AddsAll : ByteState → ByteState → List ℕ → List ℕ → List ℕ → Type 0
AddsAll old new buffer buffer' chunk =
    (before : ByteState) (text : List ℕ) → Carries before old buffer text
    → Carries before new buffer' (text ++ chunk)

-- A call failed, and a proper prefix of the text extended by `chunk` was written.
abbrev pub AddsPart : ByteState → ByteState → List ℕ → List ℕ → Type 0
AddsPart old new buffer chunk =
    (before : ByteState) (text : List ℕ) → Carries before old buffer text
    → WritesPart (change before new) (text ++ chunk)

abbrev pub Adds : {A E : Type 0} → ByteState → ByteState → List ℕ → List ℕ → List ℕ → Result A E
    → Type 0
Adds old new buffer buffer' chunk result =
    MatchResult result (λ _. AddsAll old new buffer buffer' chunk)
    (λ _. AddsPart old new buffer chunk)

-- The room that remains for the next tokens, and how a token reduces it.
use Rattle.std.specs.Prelude.{ℕ, ◌≡◌, ◌+◌, ◌*◌, ◌^◌, ◌<◌, ◌≤◌, false, List, Option, if◌then◌else◌}
use Rattle.base_data.specs.declared.model.header.Head.{Head}
use Rattle.base_data.specs.declared.model.code.Measure.{Measure}
use Rattle.marshal_spec.specs.format.Words.{of_object, fields, words32, words64}
use Rattle.marshal_read.specs.declared.read_totals.ReadTotals.{ReadTotals}
use Rattle.marshal_read.specs.declared.remaining_room.RemainingRoom.{RemainingRoom}
use Rattle.marshal_read.specs.declared.remaining_room.Run.{Run}
use Rattle.marshal_read.specs.Build.{Bounded}
use Rattle.marshal_read.specs.Reading.{BuildsGraph, TakesOne}
use Rattle.marshal_read.specs.Chunks.{TakesCommon}

-- The number of words on 32 bits that a header allows. A big header states no words on 32 bits.
abbrev pub limit_of : Head → ℕ
limit_of head = if head.big then 2 ^ 62 else head.w32

-- `left` is the room that remains at `position`, which is `n` bytes after `first`.
pub record LeavesRoom (first : ReadTotals) (n : ℕ) (position : ReadTotals)
    (left : RemainingRoom) : Type 0 where
  pub head : position.head ≡ first.head
  pub start : position.start ≡ first.start
  pub taken : position.taken ≡ first.taken + n
  pub slack : left.slack + (position.taken + position.pending) ≡ position.head.length
  pub pending : left.pending ≡ position.pending
  pub w32 : left.w32 + position.w32 ≡ limit_of position.head
  pub w64 : left.w64 + position.w64 ≡ position.head.w64

-- A token of `n` bytes whose object has this measure reduces the room from `old` to `new`.
pub record SpendsRoom (old : RemainingRoom) (n : ℕ) (measure : Option Measure)
    (new : RemainingRoom) : Type 0 where
  pub slack : new.slack + (n + of_object fields measure) ≡ old.slack + 1
  pub pending : new.pending + 1 ≡ old.pending + of_object fields measure
  pub w32 : new.w32 + of_object words32 measure ≡ old.w32
  pub w64 : new.w64 + of_object words64 measure ≡ old.w64

-- No room remains. If the header states a number of objects, then the stated number is `objects`.
pub record IsSpent (head : Head) (objects : ℕ) (left : RemainingRoom) : Type 0 where
  pub slack : left.slack ≡ 0
  pub w32 : head.big ≡ false → left.w32 ≡ 0
  pub w64 : left.w64 ≡ 0
  pub count : 0 < head.objects → head.objects ≡ objects

-- `position` is `n` bytes after `first`, `left` is the room that remains at `position`, and the
-- tokens before `position` build `state`.
pub record StandsInRun (first : ReadTotals) (n : ℕ) (header : List ℕ) (before : List (List ℕ))
    (position : ReadTotals) (left : RemainingRoom) (state : Bounded) : Type 0 where
  pub leaves : LeavesRoom first n position left
  pub builds : BuildsGraph header before position state

-- One token of `k` bytes is read and leads to the new state, or `k` is 0 and nothing changes.
abbrev pub TakesLeft : ReadTotals → ℕ → List ℕ → List (List ℕ) → List ℕ → ReadTotals → RemainingRoom
    → Bounded → RemainingRoom
    → Bounded → ℕ → Type 0
TakesLeft first n header before bytes position left state left' state' k =
    (k ≡ 0 → (left' ≡ left) × (state' ≡ state))
    × (0 < k
    → (next : ReadTotals) × LeavesRoom first (n + k) next left'
    × TakesOne header before bytes position state next state' k)

-- Tokens of `k` bytes in total are read and lead to the new state.
abbrev pub TakesAll : ReadTotals → ℕ → ℕ → List ℕ → List ℕ → RemainingRoom → Bounded → ℕ → Type 0
TakesAll first n limit taken bytes left' state' k =
    (next : ReadTotals) × LeavesRoom first (n + k) next left'
    × TakesCommon limit taken bytes next state' k

-- ---- runs

-- At least `k` remains of the data bytes, of the words on 32 bits and of the words on 64 bits.
abbrev pub AtLeast : ℕ → RemainingRoom → Type 0
AtLeast k left = (k ≤ left.slack) × (k ≤ left.w32) × (k ≤ left.w64)

-- The room suffices for one common token.
abbrev pub HasEnough : RemainingRoom → Type 0
HasEnough left = AtLeast 1024 left

-- The room suffices for all common tokens that begin in `most` bytes.
abbrev pub HasPlenty : RemainingRoom → ℕ → Type 0
HasPlenty left most = AtLeast (16 * most + 1024) left

-- A token of `k` bytes reduces the room by at most what a common token of `k` bytes can need.
pub record KeepsRoom (old : RemainingRoom) (k : ℕ) (new : RemainingRoom) : Type 0 where
  pub slack : old.slack ≤ new.slack + 16 * k
  pub w32 : old.w32 ≤ new.w32 + 16 * k
  pub w64 : old.w64 ≤ new.w64 + 16 * k

-- `from` is the room at the beginning of the run, `left` is the current room, and `run` is the
-- state of the run.
pub record RunsTokens (from left : RemainingRoom) (run : Run) : Type 0 where
  pub pending : left.pending ≡ run.pending
  pub short : from.w32 < 2 ^ 64
  pub fewer : left.w64 ≤ from.w64
  pub extra : from.w32 + left.w64 ≡ from.w64 + (left.w32 + run.extra)

-- After a token whose object has this measure, a value is still pending in the run.
pub record StaysPending (old : Run) (measure : Option Measure) (new : Run) : Type 0 where
  pub some : 0 < new.pending
  pub pending : new.pending + 1 ≡ old.pending + of_object fields measure
  pub extra : new.extra + of_object words64 measure ≡ old.extra + of_object words32 measure

-- One token of `k` bytes is read, leads to the new state, and leaves a value pending; or `k` is 0
-- and nothing changes.
abbrev pub RunsOn : ReadTotals → ℕ → List ℕ → List (List ℕ) → List ℕ → ReadTotals → RemainingRoom
    → RemainingRoom → Run
    → Bounded → Run → Bounded → ℕ → Type 0
RunsOn first n header before bytes position from left run state run' state' k =
    (k ≡ 0 → (run' ≡ run) × (state' ≡ state))
    × (0 < k
    → (next : ReadTotals) × (left' : RemainingRoom) × LeavesRoom first (n + k) next left'
    × RunsTokens from left' run'
    × KeepsRoom left k left' × (0 < run'.pending)
    × TakesOne header before bytes position state next state' k)

-- Tokens of `k` bytes in total are read in a run.
abbrev pub RunsAll : ReadTotals → ℕ → List ℕ → List ℕ → RemainingRoom → Run → Bounded → ℕ → Type 0
RunsAll first limit taken bytes from run state' k =
    (next : ReadTotals) × (left : RemainingRoom) × LeavesRoom first (0 + k) next left
    × RunsTokens from left run
    × TakesCommon limit taken bytes next state' k

-- The run consumed `n` bytes and `spent` words on 64 bits.
pub record IsAfter (from left : RemainingRoom) (run : Run) (n spent : ℕ) : Type 0 where
  pub runs : RunsTokens from left run
  pub taken : left.slack + left.pending + n ≡ from.slack + from.pending
  pub words : left.w64 + spent ≡ from.w64

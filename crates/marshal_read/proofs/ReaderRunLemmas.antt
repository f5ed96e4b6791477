-- Runs of common tokens.
use Rattle.std.proofs.Common.{ℕ, zero, suc, ◌≡◌, ◌+◌, ◌*◌, ◌-◌, ◌^◌, ◌<◌, ◌≤◌, List, [], Option, Some, true, arith, refl, ap}
use Rattle.marshal_spec.specs.format.Raw.{block_measure}
use Rattle.marshal_spec.specs.format.Words.{of_object, fields, words32, words64}
use Rattle.marshal_read.specs.declared.read_totals.ReadTotals.{ReadTotals}
use Rattle.marshal_read.specs.declared.remaining_room.RemainingRoom.{RemainingRoom}
use Rattle.marshal_read.specs.declared.remaining_room.Run.{Run}
use Rattle.base_data.specs.declared.model.code.Measure.{Measure}
use Rattle.marshal_read.specs.Totals.{AreFew, Advances}
use Rattle.marshal_read.specs.Build.{Bounded}
use Rattle.base_data.specs.declared.model.header.Head.{Head}
use Rattle.marshal_heap.specs.heap.Heap.{heap_words}
use Rattle.marshal_read.specs.Chunks.{TakesCommon, LeadsAs}
use Rattle.marshal_read.proofs.ReaderNextLemmas.{words_built}
use Rattle.marshal_read.specs.Left.{LeavesRoom, SpendsRoom, RunsTokens, StaysPending, KeepsRoom, HasEnough, AtLeast, IsAfter}
use Rattle.marshal_read.proofs.ReaderLeftLemmas.{goes_on}

-- A block of fewer than eight fields has fewer than eight fields in its measure.
pub few_fields : (size : ℕ) → size < 8 → of_object fields (block_measure size) < 8
few_fields zero h = omega arith
few_fields (suc n) h = omega arith

-- The number of fields of a block is the block's size.
pub all_fields : (size : ℕ) → of_object fields (block_measure size) ≡ size
all_fields zero = refl
all_fields (suc n) = refl

-- ---- a token of a run

module _ (first position : ReadTotals) (n k : ℕ) (from left : RemainingRoom) (old new : Run) (measure : Option Measure) (leaves : LeavesRoom first n position left) (runs : RunsTokens from left old) (enough : HasEnough left)
    (is_open : 0 < old.pending) (some : 0 < k) (room : 3 * k + of_object fields measure ≤ 1024) (few : of_object fields measure ≤ 12 * k) (goes : StaysPending old measure new)
    (few32 : AreFew words32 measure k) (few64 : AreFew words64 measure k) where
  spent : RemainingRoom
  spent = record {
    slack = left.slack - (k - 1 + of_object fields measure);
    pending = left.pending - 1 + of_object fields measure;
    w32 = left.w32 - of_object words32 measure;
    w64 = left.w64 - of_object words64 measure;
    short = omega (arith, left.short, enough.0, runs.pending);
  }

  spends : SpendsRoom left k measure spent
  unfolding spent
  spends = record {
    slack = omega (arith, enough.0);
    pending = omega (arith, runs.pending);
    w32 = omega (arith, enough.1, few32);
    w64 = omega (arith, enough.2, few64);
  }

  pub run_goes_on : (next : ReadTotals) × (left' : RemainingRoom) × LeavesRoom first (n + k) next left' × RunsTokens from left' new × KeepsRoom left k left' × Advances position k measure next true
  unfolding spent
  run_goes_on =
      let m = goes_on first position n k left spent measure leaves (omega (arith, runs.pending)) some spends (λ last. absurd (omega (arith, runs.pending, goes.pending, goes.some, last))) few32 few64 in (
        m.0,
        spent,
        m.1,
        record {
          pending = omega (arith, runs.pending, goes.pending);
          short = runs.short;
          fewer = omega (arith, runs.fewer);
          extra = omega (arith, runs.extra, goes.extra, enough.1, enough.2, few32, few64);
        },
        record { slack = omega arith; w32 = omega (arith, few32); w64 = omega (arith, few64) },
        m.2,
      )

-- If a token's words are within the remaining room, then adding the words to the run's excess does
-- not overflow.
pub extra_room : (from left : RemainingRoom) (run : Run) (words : ℕ) → RunsTokens from left run → words ≤ left.w32 → run.extra + words < 2 ^ 64
extra_room from left run words h le = omega (arith, h.extra, h.fewer, h.short)

-- Tokens of `k` bytes are read in a run, and the room suffices for all tokens that begin in the
-- first `most` bytes.
abbrev pub IsUnderway : ReadTotals → ℕ → List ℕ → List ℕ → RemainingRoom → Run → Bounded → ℕ → ℕ → Type 0
IsUnderway first limit taken bytes from run state k most =
    (next : ReadTotals) × (left : RemainingRoom) × LeavesRoom first (0 + k) next left × RunsTokens from left run × AtLeast (16 * most + 1024 - 16 * k) left × TakesCommon limit taken bytes next state k

-- ---- the beginning and the end of a run

pub run_begins : (from : RemainingRoom) → from.w32 < 2 ^ 64 → RunsTokens from from (record { pending = from.pending; extra = 0 })
run_begins from short = record { pending = refl; short = short; fewer = omega arith; extra = omega arith }

-- If a run ends, then the remaining room and the state of the run determine the room that the run
-- consumed.
pub run_ends : (first next : ReadTotals) (n limit : ℕ) (taken before : List ℕ) (from left : RemainingRoom) (run : Run) (state state' : Bounded) → LeadsAs (Some first) limit before state [] → LeadsAs (Some next) limit taken state' []
    → LeavesRoom first 0 first from → LeavesRoom first (0 + n) next left → RunsTokens from left run
    → (heap_words state.built.objects ≤ heap_words state'.built.objects)
    × IsAfter from left run n (heap_words state'.built.objects - heap_words state.built.objects)
run_ends first next n limit taken before from left run state state' l l' leaves leaves' runs =
    let words = words_built l.0 l.1 first state l.2.builds in
    let words' = words_built l'.0 l'.1 next state' l'.2.builds in
    let sum = l.2.builds.sums.w64 in
    let sum' = l'.2.builds.sums.w64 in
    let stated : next.head.w64 ≡ first.head.w64 = ap (λ (h : Head). h.w64) leaves'.head in
    let whole : next.head.length ≡ first.head.length = ap (λ (h : Head). h.length) leaves'.head in (
      omega (arith, words, words', sum, sum', stated, leaves.w64, leaves'.w64, runs.fewer),
      record {
        runs = runs;
        taken = omega (arith, leaves.slack, leaves.pending, leaves'.slack, leaves'.pending, leaves'.taken, whole);
        words = omega (arith, words, words', sum, sum', stated, leaves.w64, leaves'.w64, runs.fewer);
      },
    )

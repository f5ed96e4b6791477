-- The result of a check on the bytes of a value.
use Rattle.std.specs.Prelude.{ℕ, ◌+◌, ◌<◌, ◌≤◌, ◌≡◌, true, List, length, drop, Option, Some}
use Rattle.types_spec.specs.types.Table.{Table}
use Rattle.marshal_spec.specs.format.Prefix.{IsPrefix}
use Rattle.check_stream.specs.truncated.Truncated.{IsTruncated}
use Rattle.check_stream.specs.theory.OnePass.{IsTypedPrefix}
use Rattle.check_stream.specs.checker.CheckerState.{IsUnderway}
use Rattle.check_stream.specs.mismatch_search.Find.{IsFound, IsSought}
use Rattle.check_stream.specs.declared.mismatch_search.mismatch.FoundMismatch.{FoundMismatch}
use Rattle.check_stream.specs.declared.chunk_check.value_inspection.Inspecting.{Inspecting}
use Rattle.check_stream.specs.declared.chunk_check.value_inspection.CheckResult.{CheckResult}
use Rattle.check_stream.specs.declared.chunk_check.value_inspection.CheckResult.TheVariants as shown

-- If the pass has begun, then the bytes lead to the state of the pass. If the search has begun,
-- then the bytes lead to the state of the search.
pub record IsInspecting (table : Table) (limit : ℕ) (bytes : List ℕ) (inspecting : Inspecting)
    : Type 0 where
  pub underway : inspecting.begun ≡ true → IsUnderway table limit bytes inspecting.passing
  pub sought : inspecting.sought ≡ true → IsSought table limit bytes inspecting.seeking

-- The mismatch that the search found last, or `None`.
abbrev pub missed_in : Inspecting → Option FoundMismatch
missed_in inspecting = inspecting.seeking.finding.found

-- What each `CheckResult` implies for all bytes of the value so far, and for the state of the
-- check.
abbrev pub IsShown : Table → ℕ → List ℕ → Inspecting → CheckResult → Type 0
IsShown table limit bytes inspecting (shown.Typed n) = IsTypedPrefix table limit n bytes
IsShown table limit bytes inspecting (shown.Missed n) =
    (found : FoundMismatch) × (missed_in inspecting ≡ Some found)
    × IsFound table limit n bytes found × (found.ty < length table.nodes)
IsShown table limit bytes inspecting shown.More =
    IsPrefix limit bytes × IsInspecting table limit bytes inspecting
IsShown table limit bytes inspecting shown.Inconclusive = Unit {0}

-- After `n` bytes there is a part of a token. A header that states `stated` data bytes has room for
-- the whole token and for `most` pending values.
pub record HasRoomAfter
    (stated start n few32 few64 : ℕ) (bytes : List ℕ) (most : ℕ)
    : Type 0 where
  pub long : ℕ
  pub truncated : IsTruncated long few32 few64 (drop n bytes)
  pub room : n + long + most ≤ start + stated + 1

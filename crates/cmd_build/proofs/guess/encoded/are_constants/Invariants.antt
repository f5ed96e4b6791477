use Rattle.std.proofs.Common.{ℕ, ◌≡◌, ◌<◌, List, Some, length}
use Rattle.std.specs.Prelude.{slice_get}
use Rattle.text_roundtrip.specs.literal_texts.Readable.{IsConstantName}
use Rattle.cmd_build.proofs.guess.encoded.are_constants.Given as goal

-- The constants before index `i` are readable.
abbrev pub invariant-loop-i : goal.invariant-loop-i
invariant-loop-i l =
    (l.i-end ≡ length l.names.constants)
    × ((j : ℕ) (name : List ℕ) → j < l.i → slice_get l.names.constants j ≡ Some name → IsConstantName l.names j name)

use Rattle.std.proofs.Common.{ℕ, ◌≡◌, ◌<◌, length}
use Rattle.text_print.specs.show.TableShapes.{shape_in, names_in}
use Rattle.cmd_build.specs.guess.ReadableNames.{IsEncoded}
use Rattle.cmd_build.proofs.guess.encoded.is_encoded.Given as goal

-- The names of the types before index `i` are readable.
abbrev pub invariant-loop-i : goal.invariant-loop-i
invariant-loop-i l =
    (l.i-end ≡ length l.table.nodes) × ((j : ℕ) → j < l.i → IsEncoded (shape_in l.table j) (names_in l.table j))

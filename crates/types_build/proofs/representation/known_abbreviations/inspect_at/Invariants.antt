use Rattle.std.proofs.Common.{◌+◌, ◌-◌, ◌*◌, ◌<◌, length, vec_len}
use Rattle.std.specs.Prelude.{All}
use Rattle.indexmap.specs.IndexMap.{index_map_len}
use Rattle.types_table.specs.store.Held.{Grows}
use Rattle.types_build.specs.representation.AbbreviationWay.{AreKnown}
use Rattle.types_build.proofs.representation.known_abbreviations.inspect_at.Given as goal

abbrev pub invariant-loop-next : goal.invariant-loop-next
invariant-loop-next l =
    All (λ j. j < length l.decls) l.waiting.items × Grows l.fn.types l.types × AreKnown l.decls l.group l.known

abbrev pub decreases-loop-next : goal.decreases-loop-next
decreases-loop-next l = 2 * (length l.decls - index_map_len l.known) + vec_len l.waiting

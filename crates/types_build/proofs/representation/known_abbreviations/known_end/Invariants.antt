use Rattle.std.proofs.Common.{ℕ, ◌<◌, length, Option}
use Rattle.types_spec.specs.types.TypeNodes.{type_at}
use Rattle.types_build.specs.representation.AbbreviationWay.{AreKnown, EachLeads}
use Rattle.types_build.proofs.representation.known_abbreviations.known_end.Given as goal

abbrev pub invariant-loop-next : goal.invariant-loop-next
invariant-loop-next l =
    (l.at < length l.t.types.now)
    × ((group : Option ℕ) → AreKnown l.decls group l.known → EachLeads l.decls group (type_at l.t.types.now l.t.number) (type_at l.t.types.now l.at))

abbrev pub decreases-loop-next : goal.decreases-loop-next
decreases-loop-next l = l.at

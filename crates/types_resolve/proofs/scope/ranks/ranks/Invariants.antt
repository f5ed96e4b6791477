use Rattle.types_resolve.specs.scope.Ranks.{AreRanks, RanksBelow}
use Rattle.types_resolve.proofs.scope.ranks.ranks.Given as goal

abbrev pub invariant-loop-turn : goal.invariant-loop-turn
invariant-loop-turn l = AreRanks l.graph l.marks.items × RanksBelow l.marks.items l.turn

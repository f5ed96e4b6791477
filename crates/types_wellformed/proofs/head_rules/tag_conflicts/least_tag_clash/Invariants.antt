use Rattle.types_resolve.specs.scope.Least.{IsLeast}
use Rattle.types_resolve.proofs.scope.ScopeLeastLemmas.{Before, AtItem}
use Rattle.types_wellformed.specs.brackets.TagItems.{ConflictsIn}
use Rattle.types_wellformed.proofs.head_rules.tag_conflicts.least_tag_clash.Given as goal

abbrev pub invariant-loop-items : goal.invariant-loop-items
invariant-loop-items l = IsLeast (Before (AtItem l.brackets ConflictsIn) l.items-index) l.best

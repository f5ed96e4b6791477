use Rattle.std.specs.Prelude.{IfSome}
use Rattle.types_resolve.specs.scope.Least.{IsLeast}
use Rattle.types_resolve.proofs.scope.ScopeLeastLemmas.{Before, AtItem}
use Rattle.types_wellformed.specs.brackets.Collisions.{position_of}
use Rattle.types_wellformed.specs.brackets.TagItems.{CollidesIn}
use Rattle.types_wellformed.specs.head_rules.Rules.{CollideAmong}
use Rattle.types_wellformed.proofs.head_rules.tag_conflicts.least_hash_clash.Given as goal

abbrev pub invariant-loop-items : goal.invariant-loop-items
invariant-loop-items l = record {
  least : IsLeast (Before (AtItem l.brackets CollidesIn) l.items-index) (position_of l.best);
  names : IfSome l.best (λ c. CollideAmong l.brackets c.position c.one.now c.other.now);
}

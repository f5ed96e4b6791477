use Rattle.std.proofs.Common.{◌≡◌, ◌++◌, length, []}
use Rattle.types_spec.specs.types.TypeNodes.{types_of}
use Rattle.types_resolve.specs.declared.scope.site.Site.{Site}
use Rattle.types_resolve.specs.occurrences.Adds.{Adds}
use Rattle.types_resolve.specs.scope.TypeBrackets.{brackets_known, brackets_among}
use Rattle.types_resolve.specs.occurrences.Walk.{task_seen, stack_seen, stack_weight, AreBelow}
use Rattle.types_resolve.proofs.occurrences.walk.walk.Given as goal

-- The remaining tasks add to the current result what completes the additions of the first task to
-- the first result.
abbrev pub invariant-loop-task : goal.invariant-loop-task
invariant-loop-task l = record {
  below : AreBelow (length l.nodes) l.tasks.items;
  left :
      (last : Site) → Adds l.site last [] [] (stack_seen (types_of l.nodes) l.marks l.tasks.items)
      → Adds l.initial.site last [] [] (task_seen (types_of l.nodes) l.marks l.fn.top);
  known :
      brackets_known (types_of l.nodes) l.brackets
      ++ brackets_among (stack_seen (types_of l.nodes) l.marks l.tasks.items)
      ≡ brackets_known (types_of l.nodes) l.initial.brackets
      ++ brackets_among (task_seen (types_of l.nodes) l.marks l.fn.top);
}

abbrev pub decreases-loop-task : goal.decreases-loop-task
decreases-loop-task l = stack_weight (types_of l.nodes) l.tasks.items

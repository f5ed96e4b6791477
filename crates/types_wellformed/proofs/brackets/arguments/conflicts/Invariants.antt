use Rattle.std.proofs.Common.{ℕ, List, take}
use Rattle.types_spec.specs.declared.types.head.TagOf.{TagOf}
use Rattle.types_wellformed.specs.brackets.TagTables.{AreArguments, SomeConflicts}
use Rattle.types_wellformed.proofs.brackets.arguments.conflicts.Given as goal

abbrev pub invariant-loop-tag : goal.invariant-loop-tag
invariant-loop-tag l =
    (seen : List (TagOf ℕ)) → AreArguments seen l.table → ¬ SomeConflicts seen (take l.tag-index l.tags)

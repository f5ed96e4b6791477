use Rattle.std.proofs.Common.{ℕ, ◌++◌, List, take}
use Rattle.types_spec.specs.declared.types.head.TagOf.{TagOf}
use Rattle.types_wellformed.specs.brackets.TagTables.{AreArguments}
use Rattle.types_wellformed.proofs.brackets.arguments.add_arguments.Given as goal

abbrev pub invariant-loop-tag : goal.invariant-loop-tag
invariant-loop-tag l =
    (seen : List (TagOf ℕ)) → AreArguments seen l.initial.table
    → AreArguments (seen ++ take l.tag-index l.tags) l.table

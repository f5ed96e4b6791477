use Rattle.std.proofs.Common.{ℕ, List, take}
use Rattle.types_spec.specs.declared.types.head.TagOf.{TagOf}
use Rattle.types_wellformed.specs.brackets.TagTables.{AreTagNames, AreColliding}
use Rattle.types_wellformed.proofs.brackets.tag_names.find_collision.Given as goal

abbrev pub invariant-loop-tag : goal.invariant-loop-tag
invariant-loop-tag l =
    (seen : List (TagOf ℕ)) → AreTagNames seen l.table → (one other : List ℕ)
    → ¬ AreColliding seen (take l.tag-index l.tags) one other

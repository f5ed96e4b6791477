use Rattle.std.proofs.Common.{◌≡◌, ◌++◌}
use Rattle.types_build.specs.representation.Tags.{tags_of_entries}
use Rattle.types_build.proofs.representation.bracket.listed.Given as goal

abbrev pub invariant-loop-name : goal.invariant-loop-name
invariant-loop-name l = l.found.items ++ tags_of_entries l.name-iterator ≡ tags_of_entries l.fn.tags.entries

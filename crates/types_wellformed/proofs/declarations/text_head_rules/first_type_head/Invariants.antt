use Rattle.std.proofs.Common.{false}
use Rattle.types_resolve.specs.occurrences.Counted.{in_type}
use Rattle.types_wellformed.proofs.declarations.text_head_rules.first_type_head.Given as goal

abbrev pub ghost-first_of_type : goal.ghost-first_of_type
ghost-first_of_type a = in_type a._marks.now false a._ty.now

use Rattle.std.proofs.Common.{false}
use Rattle.types_resolve.specs.occurrences.Counted.{in_type}
use Rattle.types_wellformed.proofs.declarations.text_name_rules.first_type_break.Given as goal

abbrev pub ghost-first_of_type_site : goal.ghost-first_of_type_site
ghost-first_of_type_site a = in_type a._marks.now false a._ty.now

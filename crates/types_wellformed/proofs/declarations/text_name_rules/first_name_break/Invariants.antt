use Rattle.types_resolve.specs.occurrences.CountedFile.{counted_file}
use Rattle.types_wellformed.proofs.declarations.text_name_rules.first_name_break.Given as goal

abbrev pub ghost-first_of_sites : goal.ghost-first_of_sites
ghost-first_of_sites a = counted_file a._marks.now a.decls.now

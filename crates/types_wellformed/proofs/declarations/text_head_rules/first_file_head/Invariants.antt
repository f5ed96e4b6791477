use Rattle.types_resolve.specs.occurrences.CountedFile.{counted_file}
use Rattle.types_wellformed.proofs.declarations.text_head_rules.first_file_head.Given as goal

abbrev pub ghost-first_of_file : goal.ghost-first_of_file
ghost-first_of_file a = counted_file a._marks.now a.decls.now

use Rattle.std.proofs.Common.{drop}
use Rattle.types_resolve.proofs.occurrences.OccurrenceFileLemmas.{FileFollows, BracketsFollow}
use Rattle.types_resolve.proofs.occurrences.file_occurrences.file_sites.Given as goal

abbrev pub invariant-loop-decl : goal.invariant-loop-decl
invariant-loop-decl l = record {
  sites : FileFollows l.marks l.decls l.names l.sites l.rest (drop l.decl-index l.decls);
  brackets : BracketsFollow l.marks l.decls l.brackets l.rest (drop l.decl-index l.decls);
}

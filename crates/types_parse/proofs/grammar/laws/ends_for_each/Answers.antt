use Rattle.types_parse.proofs.grammar.LawLemmas.{ends_for_each}
use Rattle.types_parse.proofs.grammar.AloneTable.{type_table}
use Rattle.types_parse.proofs.grammar.FileTable.{file_table}
use Rattle.types_parse.proofs.grammar.laws.ends_for_each.Goals as goal

pub returns : goal.returns
returns c = record { types = ends_for_each type_table; files = ends_for_each file_table }

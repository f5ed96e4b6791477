use Rattle.types_parse.proofs.grammar.LawLemmas.{one_tree}
use Rattle.types_parse.proofs.grammar.AloneTable.{type_table}
use Rattle.types_parse.proofs.grammar.FileTable.{file_table}
use Rattle.types_parse.proofs.grammar.laws.one_tree.Goals as goal

pub returns : goal.returns
returns c = record { types = one_tree type_table; files = one_tree file_table }

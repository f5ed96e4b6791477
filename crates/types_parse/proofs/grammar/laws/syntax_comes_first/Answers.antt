use Rattle.types_parse.proofs.grammar.LawLemmas.{syntax_first}
use Rattle.types_parse.proofs.grammar.AloneTable.{type_table}
use Rattle.types_parse.proofs.grammar.FileTable.{file_table}
use Rattle.types_parse.proofs.grammar.laws.syntax_comes_first.Goals as goal

pub returns : goal.returns
returns c = record { types = syntax_first type_table; files = syntax_first file_table }

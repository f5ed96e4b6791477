use Rattle.types_parse.proofs.grammar.LawLemmas.{no_syntax}
use Rattle.types_parse.proofs.grammar.AloneTable.{type_table}
use Rattle.types_parse.proofs.grammar.FileTable.{file_table}
use Rattle.types_parse.proofs.grammar.laws.no_syntax_in_texts.Goals as goal

pub returns : goal.returns
returns c = record { types = no_syntax type_table; files = no_syntax file_table }

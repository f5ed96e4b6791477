use Rattle.types_parse.proofs.grammar.LawLemmas.{text_or_syntax}
use Rattle.types_parse.proofs.grammar.AloneTable.{type_table}
use Rattle.types_parse.proofs.grammar.FileTable.{file_table}
use Rattle.types_parse.proofs.grammar.laws.text_or_syntax.Goals as goal

pub returns : goal.returns
returns c = record { types = text_or_syntax type_table; files = text_or_syntax file_table }

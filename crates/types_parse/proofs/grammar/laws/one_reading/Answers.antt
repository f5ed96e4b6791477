use Rattle.types_parse.proofs.grammar.LawLemmas.{one_reading}
use Rattle.types_parse.proofs.grammar.AloneTable.{type_table}
use Rattle.types_parse.proofs.grammar.FileTable.{file_table}
use Rattle.types_parse.proofs.grammar.laws.one_reading.Goals as goal

pub returns : goal.returns
returns c = record { types = one_reading type_table; files = one_reading file_table }

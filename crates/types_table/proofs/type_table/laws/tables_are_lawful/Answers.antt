use Rattle.types_table.proofs.type_table.TypeTableMadeLemmas.{made_is_lawful}
use Rattle.types_table.proofs.type_table.laws.tables_are_lawful.Goals as goal

pub returns : goal.returns
returns c decls t table well sound is = made_is_lawful decls t table well sound is

use Rattle.types_theory.proofs.equality.EqualityTableLemmas.{table_is_lawful}
use Rattle.types_theory.proofs.equality.table_types.tables_are_lawful.Goals as goal

pub returns : goal.returns
returns c decls t types table sound reached hashed made =
    table_is_lawful decls sound t types reached hashed table made

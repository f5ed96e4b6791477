use Rattle.types_theory.proofs.equality.EqualityTableLemmas.{fault_forth, fault_back, least_forth, least_back}
use Rattle.types_theory.proofs.equality.table_types.tables_have_the_faults.Goals as goal

pub returns-clause-all : goal.returns-clause-all
returns-clause-all c decls types table made graph v i u is fault = (
  fault_forth decls types table made graph v i u is fault,
  fault_back decls types table made graph v i u is fault,
)

pub returns-clause-least : goal.returns-clause-least
returns-clause-least c decls types table made graph v i u is fault = (
  least_forth decls types table made graph v i u is fault,
  least_back decls types table made graph v i u is fault,
)

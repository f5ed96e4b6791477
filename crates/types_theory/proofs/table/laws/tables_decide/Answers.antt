use Rattle.types_theory.proofs.table.TableDecideLemmas.{root_is_first, has_forth, has_back}
use Rattle.types_theory.proofs.table.laws.tables_decide.Goals as goal

pub returns-clause-root : goal.returns-clause-root
returns-clause-root c = root_is_first

pub returns-clause-decide : goal.returns-clause-decide
returns-clause-decide c decls t types table all graph v i u is = (
  has_forth decls types table all.made graph v i u is,
  has_back decls t types table all graph v i
      u is,
)

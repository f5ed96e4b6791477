use Rattle.types_theory.proofs.equality.EqualityReachedLemmas.{root_listed, reached_listed}
use Rattle.types_theory.proofs.equality.EqualitySoundLemmas.{all_reached_sound}
use Rattle.types_theory.proofs.table.TableDecideLemmas.{root_is_first, has_forth, has_back}
use Rattle.types_theory.proofs.type_variables.VariableStandLemmas.{stands_for_all, faults_are_of_instances}
use Rattle.types_theory.proofs.type_variables.laws.variables_stand_for_all.Goals as goal

pub returns-clause-types : goal.returns-clause-types
returns-clause-types c = stands_for_all

pub returns-clause-faults : goal.returns-clause-faults
returns-clause-faults c = faults_are_of_instances

pub returns-clause-numbers : goal.returns-clause-numbers
returns-clause-numbers c decls t types table made graph v =
    let first = root_is_first decls t types made.reached in
    let stands = stands_for_all decls t types made.well made.sound made.reached graph v in (
      λ has. stands.0 (has_forth decls types table made.made graph v 0 t first has),
      λ each. has_back decls t types table made graph v 0 t first (stands.1 each),
    )

pub returns-clause-closed : goal.returns-clause-closed
returns-clause-closed c decls t types well sound none reached = record {
  no_variables = none;
  types = types;
  own = root_listed decls t types reached;
  sound = λ u among. all_reached_sound decls well t sound types reached u among;
  reached = λ u a among has. reached_listed decls t types reached u a among has;
}

use Rattle.std.specs.Prelude.{Contains}
use Rattle.types_spec.specs.types.Equal.{declared_shapes}
use Rattle.types_spec.proofs.types.TypeFaultLemmas.{fault_excludes_type}
use Rattle.types_theory.proofs.equality.EqualityLawfulLemmas.{reached_lawful}
use Rattle.types_theory.proofs.equality.EqualityReachedLemmas.{root_listed}
use Rattle.types_theory.proofs.equality.EqualitySoundLemmas.{known_by_hash}
use Rattle.types_theory.proofs.table.TableDecideLemmas.{type_or_fault_lem}
use Rattle.types_theory.proofs.table.laws.type_or_fault.Goals as goal

pub returns-clause-one : goal.returns-clause-one
returns-clause-one c decls t types table all graph v i u is =
    type_or_fault_lem decls t types table all graph v i u is

pub returns-clause-never_both : goal.returns-clause-never_both
returns-clause-never_both c decls t types well sound reached graph v fault =
    fault_excludes_type (declared_shapes decls) (λ u. Contains types u)
    (reached_lawful decls well.sound t types reached
    (known_by_hash decls well t sound types reached))
    graph v t fault (root_listed decls t types reached)

use Rattle.types_spec.specs.types.Table.{table_shapes}
use Rattle.types_spec.specs.types.LawfulShapes.{Everything}
use Rattle.types_spec.proofs.types.TypeFaultLemmas.{fault_excludes_type}
use Rattle.cert_verify.proofs.certificate.EntryAcceptedLemmas.{accepted_has_type, accepted_hold_paths}
use Rattle.cert_verify.proofs.certificate.laws.accepted_sections_are_right.Goals as goal

pub returns-clause-pairs : goal.returns-clause-pairs
returns-clause-pairs c table lawful graph root t pairs accepted = accepted_has_type (table_shapes table) lawful graph root t pairs accepted

pub returns-clause-reached : goal.returns-clause-reached
returns-clause-reached c table lawful graph root t pairs accepted path o u leads =
    accepted_hold_paths (table_shapes table) lawful graph root t pairs accepted path o u leads

pub returns-clause-paths : goal.returns-clause-paths
returns-clause-paths c table lawful graph root t fault is has = fault_excludes_type (table_shapes table) Everything lawful graph root t fault tt is has

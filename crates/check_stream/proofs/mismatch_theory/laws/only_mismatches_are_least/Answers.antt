use Rattle.types_spec.specs.types.Table.{table_shapes}
use Rattle.check_stream.proofs.mismatch_theory.MismatchWayLemmas.{root_mismatch, only_ways, hole_at, only_mismatch}
use Rattle.check_stream.proofs.mismatch_theory.laws.only_mismatches_are_least.Goals as goal

pub returns-clause-root : goal.returns-clause-root
returns-clause-root c table graph root t not = root_mismatch (table_shapes table) graph root t not

pub returns-clause-many : goal.returns-clause-many
returns-clause-many c table lawful graph pairs holes root t path are mismatch each =
    only_ways (table_shapes table) lawful graph pairs holes root t are path mismatch each

pub returns-clause-one : goal.returns-clause-one
returns-clause-one c table lawful graph pairs root t trail o u i w a are way only stepped not = (
  hole_at (table_shapes table) lawful graph pairs root t trail o i u a w are way only stepped,
  only_mismatch (table_shapes table) lawful graph pairs root t trail o i u a w are way only stepped not,
)

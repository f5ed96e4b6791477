use Rattle.std.specs.Prelude.{◌≡◌, map, drop}
use Rattle.types_spec.specs.types.Predeclared.{predeclared_from}
use Rattle.types_spec.specs.types.PredeclaredCode.{table_row}
use Rattle.types_spec.proofs.types.predeclared.meaning_of.Given as goal

abbrev pub invariant-loop-k : goal.invariant-loop-k
invariant-loop-k l =
    predeclared_from l.k (map table_row (drop l.k l.rows)) l.name
    ≡ predeclared_from 0 (map table_row l.rows) l.name

use Rattle.std.proofs.Common.{◌≡◌, map, take}
use Rattle.types_build.specs.representation.Representation.{constr_row}
use Rattle.types_build.proofs.representation.representation_names.plain_constrs.Given as goal

abbrev pub invariant-loop-row : goal.invariant-loop-row
invariant-loop-row l = l.names.items ≡ map constr_row (take l.row-index l.rows)

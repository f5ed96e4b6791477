use Rattle.std.proofs.Common.{◌≡◌, map, take, Some}
use Rattle.std.specs.Prelude.{slice_get}
use Rattle.types_spec.specs.types.Ty.{named}
use Rattle.types_spec.specs.types.TypeNodes.{type_at}
use Rattle.types_spec.specs.types.Predeclared.{applied}
use Rattle.types_table.specs.store.Held.{Grows}
use Rattle.types_build.proofs.representation.sum.itself.Given as goal

abbrev pub invariant-loop-part : goal.invariant-loop-part
invariant-loop-part l = record {
  grown : Grows l.fn.types l.types;
  whole : slice_get l.types l.whole ≡ Some (applied (named l.name) (map (type_at l.fn.types) (take l.part-index l.parts)));
}

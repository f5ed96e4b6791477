use Rattle.std.proofs.Common.{◌≡◌, ◌++◌, map, take}
use Rattle.std.specs.Prelude.{slice_index}
use Rattle.types_table.proofs.partition.signature.add_classes.Given as goal

abbrev pub invariant-loop-part : goal.invariant-loop-part
invariant-loop-part l = l.signature.items ≡ l.initial.signature.items ++ map (slice_index l.class) (take l.part-index l.parts)

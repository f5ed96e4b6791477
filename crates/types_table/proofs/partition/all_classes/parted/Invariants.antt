use Rattle.types_table.specs.partition.Start.{IsUnderWayAt, KeepsEqual}
use Rattle.types_table.proofs.partition.all_classes.parted.Given as goal

abbrev pub invariant-loop-turn : goal.invariant-loop-turn
invariant-loop-turn l = IsUnderWayAt l.forms l.refinement × KeepsEqual l.forms l.refinement.class.items

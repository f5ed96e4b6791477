use Rattle.std.proofs.Common.{◌≡◌, ◌++◌, take}
use Rattle.marshal_write.specs.graft.Renamed.{blanks}
use Rattle.marshal_write.proofs.graft.blank.append_blanks.Given as goal

abbrev pub invariant-loop-k : goal.invariant-loop-k
invariant-loop-k l = l.heap ≡ l.initial.heap ++ blanks l.from (take l.k-index l.objects)

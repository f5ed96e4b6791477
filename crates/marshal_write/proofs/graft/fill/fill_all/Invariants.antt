use Rattle.std.proofs.Common.{◌≡◌, take}
use Rattle.marshal_write.specs.write.Marks.{marks_of}
use Rattle.marshal_write.proofs.graft.FillLemmas.{filled}
use Rattle.marshal_write.proofs.graft.fill.fill_all.Given as goal

abbrev pub invariant-loop-j : goal.invariant-loop-j
invariant-loop-j l = l.heap ≡ filled l.base (marks_of l.numbers.marks) l.from (take l.base l.initial.heap) l.objects l.j

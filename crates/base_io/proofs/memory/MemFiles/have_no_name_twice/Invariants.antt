use Rattle.base_io.specs.Fakes.{files_of}
use Rattle.base_io.proofs.Lookup.{AreApart}
use Rattle.base_io.proofs.memory.MemFiles.have_no_name_twice.Given as goal

abbrev pub invariant-loop-i : goal.invariant-loop-i
invariant-loop-i l = AreApart (files_of l.pairs) l.i

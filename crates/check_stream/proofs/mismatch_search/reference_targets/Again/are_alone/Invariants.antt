use Rattle.std.proofs.Common.{take}
use Rattle.std.specs.Prelude.{All}
use Rattle.check_stream.specs.mismatch_search.Find.{IsAlone}
use Rattle.check_stream.proofs.mismatch_search.reference_targets.Again.are_alone.Given as goal

-- No reference leads back to the blocks of the links that were tested.
abbrev pub invariant-links : goal.invariant-links
invariant-links l = All (IsAlone l.self.marks.items) (take l.link-index l.links)

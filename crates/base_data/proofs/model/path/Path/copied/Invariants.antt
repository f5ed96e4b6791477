use Rattle.std.proofs.Common.{◌≡◌, take}
use Rattle.base_data.proofs.model.path.Path.copied.Given as goal

abbrev pub invariant-loop-i : goal.invariant-loop-i
invariant-loop-i l = l.copy ≡ take l.i l.self

use Rattle.std.proofs.Common.{◌≡◌, length, ◌-◌}
use Rattle.base_io.proofs.Write.{HasWritten}
use Rattle.base_io.proofs.sink.write_all.Given as goal

abbrev pub invariant-loop-at : goal.invariant-loop-at
invariant-loop-at g l = HasWritten (g.K.Sink.state l.initial.sink) (g.K.Sink.state l.sink) l.bytes l.at × (l.at ≡ 0 → l.sink ≡ l.initial.sink)

abbrev pub decreases-loop-at : goal.decreases-loop-at
decreases-loop-at g l = length l.bytes - l.at

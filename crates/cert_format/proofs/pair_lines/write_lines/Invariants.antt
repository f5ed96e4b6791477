use Rattle.std.proofs.Common.{◌≤◌, ◌++◌, take, vec_capacity}
use Rattle.std.specs.Prelude.{map}
use Rattle.base_io.specs.StreamState.{change}
use Rattle.cert_format.specs.Format.{pair_line, text_of}
use Rattle.cert_format.specs.TextWrites.{LeavesText}
use Rattle.cert_format.proofs.pair_lines.write_lines.Given as goal

abbrev pub invariant-loop-i : goal.invariant-loop-i
invariant-loop-i g l = record {
  leaves : LeavesText (change (g.K.Sink.state l.initial.out) (g.K.Sink.state l.out))
      (l.initial.text.items ++ text_of (map pair_line (take l.i l.pairs))) l.text.items;
  room : 64 ≤ vec_capacity l.text;
}

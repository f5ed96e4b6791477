use Rattle.std.proofs.Common.{◌≡◌, ◌≤◌, drop}
use Rattle.text_pretty.specs.Fit.{to_close}
use Rattle.text_pretty.proofs.FitLemmas.{more}
use Rattle.text_pretty.proofs.fit.bytes_to_close.Given as goal

abbrev pub invariant-loop-i : goal.invariant-loop-i
invariant-loop-i l = record {
  depth : l.depth ≤ l.i;
  found : to_close l.fn.break_point 0 l.bytes ≡ more l.i (to_close l.here l.depth (drop l.i l.bytes));
}

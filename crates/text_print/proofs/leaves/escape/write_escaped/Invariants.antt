use Rattle.std.proofs.Common.{◌≡◌, ◌≤◌, ◌++◌, take}
use Rattle.std.specs.List.{flat_map, slice_range}
use Rattle.text_print.specs.leaves.LeafTexts.{escaped}
use Rattle.text_print.proofs.leaves.escape.write_escaped.Given as goal

-- The bytes from `start` on are not yet appended.
abbrev pub invariant-loop-i : goal.invariant-loop-i
invariant-loop-i l = record {
  behind : l.start ≤ l.i;
  write : l.text.items ++ slice_range l.bytes l.start l.i ≡ l.fn.text.items ++ flat_map (escaped l.quote) (take l.i l.bytes);
}

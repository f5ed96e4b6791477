use Rattle.std.proofs.Common.{◌≡◌, ◌+◌, ◌≤◌, take}
use Rattle.base_data.specs.lines.Lines.{line_after, column_after}
use Rattle.base_data.proofs.lines.line_column.spot_after.Given as goal

abbrev pub invariant-loop-b : goal.invariant-loop-b
invariant-loop-b l = record {
  line : l.line ≡ line_after (take l.b-index l.before);
  column : l.column ≡ column_after (take l.b-index l.before);
  few_lines : l.line ≤ l.b-index + 1;
  few_columns : l.column ≤ l.b-index + 1;
}

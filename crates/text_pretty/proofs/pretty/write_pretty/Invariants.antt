use Rattle.std.proofs.Common.{◌≡◌, ◌++◌, drop}
use Rattle.text_pretty.specs.PrettyLines.{laid, pretty}
use Rattle.text_pretty.proofs.pretty.write_pretty.Given as goal

abbrev pub invariant-loop-i : goal.invariant-loop-i
invariant-loop-i l = l.text.items ++ laid l.layout (drop l.i l.plain) ≡ l.fn.text.items ++ pretty l.plain

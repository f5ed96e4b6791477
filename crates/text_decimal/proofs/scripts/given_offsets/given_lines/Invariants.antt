use Rattle.std.proofs.Common.{◌≡◌, map, take}
use Rattle.text_decimal.specs.scripts.Scripts.{given_line}
use Rattle.text_decimal.proofs.scripts.given_offsets.given_lines.Given as goal

abbrev pub invariant-loop-line : goal.invariant-loop-line
invariant-loop-line l = l.given ≡ map (given_line l.all) (take l.line-index l.lines)

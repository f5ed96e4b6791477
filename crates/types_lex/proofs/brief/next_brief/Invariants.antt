use Rattle.std.proofs.Common.{◌-◌, ◌≤◌, List, length}
use Rattle.types_lex.specs.declared.lexeme.Lexeme.{Lexeme}
use Rattle.types_lex.specs.Lexemes.{Reached}
use Rattle.types_lex.proofs.brief.next_brief.Given as goal

abbrev pub invariant-loop-at : goal.invariant-loop-at
invariant-loop-at l =
    (l.from ≤ l.at) × (l.at ≤ length l.text)
    × ((prefix : List Lexeme) → Reached l.text l.from prefix → Reached l.text l.at prefix)

abbrev pub decreases-loop-at : goal.decreases-loop-at
decreases-loop-at l = length l.text - l.at

-- The first token of a text lies within the text.
use Rattle.std.proofs.Common.{◌≡◌, ℕ, ◌<◌, ◌≤◌, List, length, Ok, arith}
use Rattle.types_lex.specs.declared.found_lexeme.LexStep.{LexStep}
use Rattle.types_lex.specs.Lexer.{step_at}
use Rattle.types_lex.proofs.PartLaws.{step_len, reached_further, part_here}

pub step_within : (text : List ℕ) (step : LexStep) → 0 < length text → step_at text ≡ Ok step → (0 < step_len step) × (step_len step ≤ length text)
step_within text step some is =
    let r = reached_further text 0 step (omega arith) (part_here text 0 step some is) in (r.0, omega (arith, r.1))

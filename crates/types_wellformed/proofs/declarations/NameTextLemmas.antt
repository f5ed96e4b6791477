-- The first lexeme of a text lies within the text.
use Rattle.std.proofs.Common.{◌≡◌, ℕ, ◌≤◌, List, [], ◌∷◌, length, Result, Ok, Err, arith}
use Rattle.types_lex.specs.declared.lexeme.LexFault.{LexFault}
use Rattle.types_lex.specs.declared.lexeme.LexFault.TheVariants as faults
use Rattle.types_lex.specs.declared.found_lexeme.LexStep.{LexStep}
use Rattle.types_lex.specs.Lexer.{step_at}
use Rattle.types_lex.proofs.PartLaws.{step_len, reached_further, part_here}

pub step_within : (text : List ℕ) (step : LexStep) → step_at text ≡ Ok step → step_len step ≤ length text
unfolding step_at
step_within [] step is = absurd (let h : ◌≡◌ {A = Result LexStep LexFault} (Err (faults.BadByte 0)) (Ok step) = is in cc)
step_within (b ∷ bs) step is =
    let further = reached_further (b ∷ bs) 0 step (omega arith) (part_here (b ∷ bs) 0 step (omega arith) is) in
    omega (arith, further.1)

use Rattle.std.proofs.Common.{◌≡◌, ◌+◌, ◌*◌, ◌-◌, ◌^◌, min, get_or, ◌∙◌}
use Rattle.types_lex.specs.Lexeme.{value_of_digit}
use Rattle.types_lex.proofs.NumberLaws.{number_in-more}
use Rattle.types_lex.proofs.numbers.number_in.Goals as goal

pub loop-digit-preserved : goal.loop-digit-preserved
loop-digit-preserved c =
    let number : c.saturating_add-number.result ≡ min (min (c.loop-digit.number * c.args.base) (2 ^ 64 - 1) + value_of_digit (get_or c.args.digits.now c.loop-digit.digit-index 0)) (2 ^ 64 - 1) =
    cc (c.saturating_mul.ensures, c.saturating_add-number.ensures, c.digit_value.ensures.value, c.from.ensures) in
    number ∙ number_in-more c.args.base c.args.digits.now c.loop-digit.digit-index c.loop-digit.number c.loop-digit-test.true c.loop-digit.invariant

use Rattle.hex.specs.Hex.{encode_with}
use Rattle.cli_errors.proofs.refusal_text.code_text.Goals as goal

pub returns : goal.returns
unfolding encode_with
returns c = rw (← c.in_ok-digits.ensures, ← c.as_str.ensures.value) c.digits_text.ensures

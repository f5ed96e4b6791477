use Rattle.std.proofs.Common.{rules, append_assoc}
use Rattle.hex.specs.Hex.{encode_with}
use Rattle.cli_errors.proofs.refusal_text.magic_text.Goals as goal

pub returns : goal.returns
unfolding encode_with
returns c = search (rules, append_assoc)

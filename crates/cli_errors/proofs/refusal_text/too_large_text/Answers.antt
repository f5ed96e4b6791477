use Rattle.std.proofs.Common.{rules, append_assoc}
use Rattle.cli_errors.proofs.refusal_text.too_large_text.Goals as goal

pub returns : goal.returns
returns c = search (rules, append_assoc)

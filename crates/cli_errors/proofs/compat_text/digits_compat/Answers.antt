use Rattle.std.proofs.Common.{rules, append_assoc}
use Rattle.cli_errors.proofs.compat_text.digits_compat.Goals as goal

pub returns : goal.returns
returns c = search (rules, append_assoc)

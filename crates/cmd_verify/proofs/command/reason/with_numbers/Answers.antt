use Rattle.std.proofs.Common.{rules, append_assoc}
use Rattle.cmd_verify.proofs.command.reason.with_numbers.Goals as goal

pub returns : goal.returns
returns c = search (rules, append_assoc)

use Rattle.std.proofs.Common.{[]}
use Rattle.cmd_scan.proofs.command.LastLemmas.{prefix_taken}
use Rattle.cmd_scan.proofs.command.last.take_prefix.Goals as goal

pub returns-in-Ok : goal.returns-in-Ok
returns-in-Ok c = λ limit leads prefix. (
  c.in-Ok.ensures.reader,
  prefix_taken limit c.args.bytes.now c.feed.new.self c.in-Ok.field-0
      (c.in-Ok.ensures.feeds limit [] leads) prefix,
)

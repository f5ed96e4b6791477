use Rattle.check_stream.proofs.checker.AgainLemmas.{inspected}
use Rattle.check_stream.proofs.checker.reread.inspect.Goals as goal

pub returns : goal.returns
returns g c = inspected c.args.bytes.now c.in-Token.seen c.in-Token.len c.in-Token.ensures.0

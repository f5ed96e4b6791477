use Rattle.std.proofs.Common.{sym, take_all, arith}
use Rattle.marshal_read.proofs.chunks.joined.Goals as goal

pub returns-then-bytes-lt-JOINED : goal.returns-then-bytes-lt-JOINED
returns-then-bytes-lt-JOINED c = sym (take_all 4096 c.args.bytes.now (omega arith))

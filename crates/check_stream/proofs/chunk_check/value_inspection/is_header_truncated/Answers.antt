use Rattle.check_stream.proofs.chunk_check.StreamCheckLemmas.{header_prefix}
use Rattle.check_stream.proofs.chunk_check.value_inspection.is_header_truncated.Goals as goal

pub returns-in-Ok-More : goal.returns-in-Ok-More
returns-in-Ok-More c = let e = rw c.in-Ok-More.field-0-is at c.in-Ok-More.ensures.says in header_prefix c.args.bytes.now _ e.0 e.1 e.2

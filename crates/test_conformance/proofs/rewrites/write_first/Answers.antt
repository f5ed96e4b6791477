use Rattle.std.proofs.Common.{[]}
use Rattle.test_conformance.proofs.rewrites.write_first.Goals as goal

pub write-requires : goal.write-requires
write-requires g c = (c.finish-value.ensures _ _ (c.in-Ok.ensures.feeds _ [] c.new-reader.ensures.leads).leads).is_value.valid

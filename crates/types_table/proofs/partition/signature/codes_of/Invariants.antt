use Rattle.std.proofs.Common.{take}
use Rattle.std.specs.Prelude.{slice_index}
use Rattle.types_table.specs.partition.Signature.{AreCodes}
use Rattle.types_table.proofs.partition.signature.codes_of.Given as goal

abbrev pub invariant-loop-tag : goal.invariant-loop-tag
invariant-loop-tag l = AreCodes (slice_index l.class) (take l.tag-index l.tags) l.codes.items

use Rattle.std.proofs.Common.{◌≡◌, take}
use Rattle.types_spec.specs.types.PredeclaredCode.{texts_of}
use Rattle.types_build.proofs.representation.representation_names.texts.Given as goal

abbrev pub invariant-loop-bytes : goal.invariant-loop-bytes
invariant-loop-bytes l = l.copies.items ≡ texts_of (take l.bytes-index l.from)

-- The effect of a call that writes a value.
use Rattle.std.specs.Prelude.{◌≡◌, None, Result, Ok, Err, IsSomeAnd}
use Rattle.marshal_spec.specs.format.Canonical.{canon}
use Rattle.marshal_spec.specs.format.Compat.{too_large_for_32}
use Rattle.marshal_spec.specs.format.Tree.{Tree}
use Rattle.base_io.specs.StreamState.{ByteState, Change}
use Rattle.base_io.specs.Sink.{Writes, WritesPart}
use Rattle.marshal_write.specs.write.Reports.{Reports}
use Rattle.marshal_write.specs.declared.write.writer32.Write32Error.{Write32Error}
use Rattle.marshal_write.specs.declared.write.writer32.Write32Error.TheVariants as errors32

-- If a 32-bit reader can hold the value, then the effect is `WritesOrFails` of the value's
-- canonical bytes. If not, then the result is the item that is too large.
abbrev pub Writes32 : {A : Type 0} → Change ByteState → Tree → Result A Write32Error → Type 0
Writes32 sink tree (Ok done) = (too_large_for_32 tree ≡ None) × Writes sink (canon tree)
Writes32 sink tree (Err (errors32.Compat compat)) =
    IsSomeAnd (too_large_for_32 tree) (λ large. Reports large compat)
Writes32 sink tree (Err errors32.Fault) =
    (too_large_for_32 tree ≡ None) × WritesPart sink (canon tree)
Writes32 sink tree (Err errors32.Memory) = Unit {0}

-- If a call returns this error, then the call has written nothing.
abbrev pub IsEarly : Write32Error → Type 0
IsEarly (errors32.Compat compat) = Unit {0}
IsEarly errors32.Fault = ⊥
IsEarly errors32.Memory = Unit {0}

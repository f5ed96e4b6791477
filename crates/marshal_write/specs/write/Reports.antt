-- How a report describes an item that is too large for a 32-bit reader.
use Rattle.std.specs.Prelude.{◌≡◌, length}
use Rattle.base_data.specs.declared.model.value.Obj.TheVariants as objects
use Rattle.marshal_spec.specs.format.Token.{integer, block, leaf}
use Rattle.marshal_spec.specs.format.Compat.{TooLargeFor32, token, header}
use Rattle.marshal_write.specs.declared.write.compat.Compat.{Compat}
use Rattle.marshal_write.specs.declared.write.compat.Compat.TheVariants as compats

abbrev pub Reports : TooLargeFor32 → Compat → Type 0
Reports (token (integer z)) compat = compat ≡ compats.Int z
Reports (token (block tag size)) compat = compat ≡ compats.Block size
Reports (token (leaf (objects.Bytes bytes))) compat = compat ≡ compats.Bytes (length bytes)
Reports (token (leaf (objects.Doubles all))) compat = compat ≡ compats.Doubles (length all)
Reports (token (leaf (objects.Native z))) compat = compat ≡ compats.Native z
Reports (header n) compat = compat ≡ compats.Header n
Reports other compat = ⊥

use Rattle.std.proofs.Common.{take, ◌<◌, arith}
use Rattle.std.proofs.lemmas.List.{length-take}
use Rattle.std.proofs.lemmas.List.Elements.{All-take}
use Rattle.base_data.proofs.model.Numbers.{are_bytes, number_fits}
use Rattle.marshal_codec.proofs.headers.parsing.parse.Goals as goal

-- Four bytes encode a number of 32 bits.
pub overflow_cast-big_endian : goal.overflow_cast-big_endian
overflow_cast-big_endian c =
    omega (arith, c.big_endian.ensures, number_fits (take 4 c.args.bytes.now) 4 (All-take (λ b. b < 256) 4 c.args.bytes.now (are_bytes _ c.type_inv.bytes)) (omega (arith, length-take 4 c.args.bytes.now)))

use Rattle.std.proofs.Common.{arith, length}
use Rattle.std.proofs.lemmas.Int.{ints}
use Rattle.base_data.proofs.model.Numbers.{are_bytes, number_below, half_shifted, half_fits, twos_complement-low, twos_complement-high}
use Rattle.base_data.proofs.model.bytes.signed.Goals as goal

pub overflow_sub-result-else-value-half-2 : goal.overflow_sub-result-else-value-half-2
overflow_sub-result-else-value-half-2 c =
    omega (arith, half_shifted (length c.args.bytes.now) c.requires.some c.requires.few, number_below c.args.bytes.now (are_bytes _ c.type_inv.bytes))

pub returns-then-value-half : goal.returns-then-value-half
returns-then-value-half c =
    let twice = half_shifted (length c.args.bytes.now) c.requires.some c.requires.few in
    let fits = half_fits (length c.args.bytes.now) c.requires.some c.requires.few in
    rw (← c.big_endian-value.ensures, twos_complement-low _ _ c.big_endian-value.result twice (omega arith)) (omega (arith, ints))

pub returns-else-value-half : goal.returns-else-value-half
returns-else-value-half c =
    let twice = half_shifted (length c.args.bytes.now) c.requires.some c.requires.few in
    let fits = half_fits (length c.args.bytes.now) c.requires.some c.requires.few in
    rw (← c.big_endian-value.ensures, twos_complement-high _ _ c.big_endian-value.result twice (omega arith)) (omega (arith, ints))

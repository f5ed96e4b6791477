use Rattle.std.proofs.Common.{◌≡◌, ◌+◌, ◌*◌, ◌-◌, ◌^◌, ap, ◌∙◌, arith}
use Rattle.std.specs.Ordering.{nat_cmp}
use Rattle.text_decimal.specs.decimal.Doubles.{double_units, decimal_units}
use Rattle.text_decimal.proofs.decimal.DecimalRoomLemmas.{room, room_of_ten, room_of_two, room_of_both, double_is}
use Rattle.text_decimal.proofs.decimal.nearest.against_halfway.Goals as goal

pub times_two_to-requires : goal.times_two_to-requires
times_two_to-requires c =
    let p = c.parts_of-significand in
    room_of_two c.new-double.result (p.result.1 + 1) (omega (arith, c.new-double.ensures, p.ensures.small)) (omega (arith, p.ensures.small))

pub times_ten_to-requires : goal.times_ten_to-requires
times_ten_to-requires c =
    let p = c.parts_of-significand in
    rw c.times_two_to.ensures
    (room_of_both c.new-double.result c.saturating_sub.result (p.result.1 + 1) (omega (arith, c.new-double.ensures, p.ensures.small)) (omega (arith, c.saturating_sub.ensures)) (omega (arith, p.ensures.small)))

pub mul_add-requires : goal.mul_add-requires
mul_add-requires c = omega (arith, c.new-decimal.ensures, c.ranges.digits.fits, room_of_ten (c.new-decimal.result * 2 + 1) 0 (omega (arith, c.new-decimal.ensures, c.ranges.digits.fits)) (omega arith))

pub times_ten_to-requires-2 : goal.times_ten_to-requires-2
times_ten_to-requires-2 c =
    room_of_ten c.mul_add.new.self c.saturating_sub-2.result (omega (arith, c.mul_add.ensures, c.new-decimal.ensures, c.ranges.digits.fits)) (omega (arith, c.saturating_sub-2.ensures, c.requires.small))

pub times_two_to-requires-2 : goal.times_two_to-requires-2
times_two_to-requires-2 c =
    rw c.times_ten_to-2.ensures
    (room c.mul_add.new.self c.saturating_sub-2.result 1074 (omega (arith, c.mul_add.ensures, c.new-decimal.ensures, c.ranges.digits.fits)) (omega (arith, c.saturating_sub-2.ensures, c.requires.small)) (omega arith))

pub returns : goal.returns
returns c =
    let p = c.parts_of-significand in
    let a = c.args in
    let twice : a.digits * 2 + 1 ≡ 2 * a.digits + 1 = omega arith in
    let d : c.times_ten_to.new.self ≡ 2 * double_units a.size.bits a.power = rw (c.times_ten_to.ensures, c.times_two_to.ensures, c.new-double.ensures, c.saturating_sub.ensures) (double_is a.size.bits a.power p.result.0 p.result.1 p.ensures.value) in
    let e : c.times_two_to-2.new.self ≡ decimal_units (2 * a.digits + 1) a.power =
    rw (c.times_two_to-2.ensures, c.times_ten_to-2.ensures, c.mul_add.ensures, c.new-decimal.ensures, c.saturating_sub-2.ensures) (ap (λ n. n * 10 ^ (a.power - 342) * 2 ^ 1074) twice) in
    c.compare.ensures ∙ (λ i. nat_cmp (d i) (e i))

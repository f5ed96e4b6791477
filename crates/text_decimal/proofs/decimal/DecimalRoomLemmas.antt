-- The compared numbers fit into the limbs, and are the units of the double and of the decimal.
use Rattle.std.proofs.Common.{◌≡◌, ℕ, ◌+◌, ◌-◌, ◌*◌, ◌^◌, ◌<◌, ◌≤◌, ap, ◌∙◌, arith, add-one}
use native.Mathlib.Nat.{mul-le-mul, lt_of_le_of_lt, pow-le-pow_right, pow-suc}
use lib.Dec.{lit<}
use lib.Pow.{pow_mono}
use Rattle.text_decimal.specs.decimal.Limbs.{limb_weight}
use Rattle.text_decimal.specs.decimal.Doubles.{units_of, double_units}

most : 2 ^ 65 * 10 ^ 400 * 2 ^ 2100 < limb_weight 74
unfolding limb_weight
most = lit< tt

pub room : (m x y : ℕ) → m ≤ 2 ^ 65 → x ≤ 400 → y ≤ 2100 → m * 10 ^ x * 2 ^ y < limb_weight 74
room m x y M X Y = lt_of_le_of_lt (mul-le-mul (mul-le-mul M (pow-le-pow_right (lit< tt) X)) (pow_mono Y)) most

pub room_of_ten : (m x : ℕ) → m ≤ 2 ^ 65 → x ≤ 400 → m * 10 ^ x < limb_weight 74
room_of_ten m x M X = omega (arith, room m x 0 M X (omega arith))

pub room_of_two : (m y : ℕ) → m ≤ 2 ^ 65 → y ≤ 2100 → m * 2 ^ y < limb_weight 74
room_of_two m y M Y = omega (arith, room m 0 y M (omega arith) Y)

pub room_of_both : (m x y : ℕ) → m ≤ 2 ^ 65 → x ≤ 400 → y ≤ 2100 → m * 2 ^ y * 10 ^ x < limb_weight 74
room_of_both m x y M X Y = omega (arith, room m x y M X Y)

pub double_is : (size power m k : ℕ) → m * 2 ^ k ≡ units_of size → m * 2 ^ (k + 1) * 10 ^ (342 - power) ≡ 2 * double_units size power
double_is size power m k e =
    let p : 2 ^ (k + 1) ≡ 2 ^ k * 2 = ap (λ n. 2 ^ n) (add-one k) ∙ pow-suc 2 k in
    omega (arith, ap (λ n. m * n * 10 ^ (342 - power)) p, ap (λ n. 2 * (n * 10 ^ (342 - power))) e)

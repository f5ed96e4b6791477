-- Lemmas on the low bits of a number, for the ranks of offsets.
use Rattle.std.proofs.Common.{◌≡◌, ℕ, ◌+◌, ◌-◌, ◌*◌, ◌/◌, ◌%◌, ◌^◌, ◌<◌, ◌≤◌, count_ones, sym, ap, ◌∙◌, arith, pow_mono, mod-eq_of_lt, zero-mul}
use Rattle.std.proofs.lemmas.Nat.{pow-add, pow_pos, shr_split, mod_low, ones_cat, zero_from_ones, mod_below}
use Rattle.std.proofs.Math.Pow.{mod-mod-pow}
use lib.Count.{ones-ones}

-- If `c` is at most `b`, then the low `c` bits of a number are the low `c` bits of its low `b`
-- bits.
pub mod-mod_low : (n b c : ℕ) → c ≤ b → n % 2 ^ b % 2 ^ c ≡ n % 2 ^ c
mod-mod_low n b c low =
    let e : b ≡ (b - c) + c = omega arith in
    ap (λ (k : ℕ). n % 2 ^ k % 2 ^ c) e ∙ mod-mod-pow n (b - c) c

pub pow_le : (b c : ℕ) → c ≤ b → 2 ^ b ≡ 2 ^ (b - c) * 2 ^ c
pow_le b c low =
    let e : b ≡ (b - c) + c = omega arith in
    ap (λ (k : ℕ). 2 ^ k) e ∙ pow-add 2 (b - c) c

pub pow_more : (b c : ℕ) → b < c → 2 ^ b + 2 ^ b ≤ 2 ^ c
pow_more b c more =
    let h : b + 1 ≤ c = omega arith in
    omega (arith, pow-add 2 b 1, pow_mono h)

-- If a bit at position `c` or higher is added, then the low `c` bits do not change.
pub bit_above : (n b c : ℕ) → c ≤ b → (n + 2 ^ b) % 2 ^ c ≡ n % 2 ^ c
bit_above n b c low =
    let e : n + 2 ^ b ≡ (n / 2 ^ c + 2 ^ (b - c)) * 2 ^ c + n % 2 ^ c = omega (arith, shr_split n c, pow_le b c low) in
    ap (λ (k : ℕ). k % 2 ^ c) e ∙ mod_low (n / 2 ^ c + 2 ^ (b - c)) c (n % 2 ^ c) (mod_below n (2 ^ c) (pow_pos c))

-- If a bit above all bits of a number is added, then the count of ones increases by one.
pub ones-bit_below : (n b c : ℕ) → n < 2 ^ b → b < c → count_ones ((n + 2 ^ b) % 2 ^ c) ≡ count_ones (n % 2 ^ c) + 1
ones-bit_below n b c small below =
    let more = pow_more b c below in
    let whole : (n + 2 ^ b) % 2 ^ c ≡ 1 * 2 ^ b + n = mod-eq_of_lt (omega arith) ∙ omega arith in
    let old : n % 2 ^ c ≡ n = mod-eq_of_lt (omega arith) in
    ap count_ones whole ∙ ones_cat b 1 n small ∙ omega (arith, ones-ones 1, ap count_ones old)

-- If the low `c` bits of a number contain all ones of the number, then the number is less than 2 ^
-- `c`.
pub low_from_ones : (n c : ℕ) → count_ones (n % 2 ^ c) ≡ count_ones n → n < 2 ^ c
low_from_ones n c same =
    let low : n % 2 ^ c < 2 ^ c = mod_below n (2 ^ c) (pow_pos c) in
    let split : count_ones n ≡ count_ones (n / 2 ^ c) + count_ones (n % 2 ^ c) =
    ap count_ones (sym (shr_split n c)) ∙ ones_cat c (n / 2 ^ c) (n % 2 ^ c) low in
    let none : n / 2 ^ c ≡ 0 = zero_from_ones (n / 2 ^ c) (omega arith) in
    let gone : n / 2 ^ c * 2 ^ c ≡ 0 = ap (λ (k : ℕ). k * 2 ^ c) none ∙ zero-mul (2 ^ c) in
    omega (arith, shr_split n c)

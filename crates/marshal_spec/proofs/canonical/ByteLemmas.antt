-- The bytes of a number encode that number.
use Rattle.std.proofs.Common.{ℕ, zero, suc, ◌≡◌, ◌+◌, ◌-◌, ◌*◌, ◌/◌, ◌%◌, ◌^◌, ◌<◌, ◌∙◌, true, List, [], ◌∷◌, length, refl, sym, ap, arith, pos, negsuc, ℤ}
use Rattle.std.specs.Prelude.{flat_map, All}
use Rattle.std.specs.Int.{byte_at, bytes_high_first, bytes_low_first}
use Rattle.std.proofs.Math.Nat.{pow-suc, mul_comm, mod-eq_of_lt, div-div-eq-div-mul}
use Rattle.std.proofs.lemmas.List.Elements.{All-head, All-tail}
use lib.Arith.{mod-mul}
use Rattle.base_data.specs.model.Bytes.{number, little_number, twos_complement, signed, EncodesDoubles}
use Rattle.base_data.specs.model.Graph.{IsSigned}
use Rattle.base_data.proofs.model.Numbers.{half_of, twos_complement-low, twos_complement-high}
use Rattle.marshal_spec.specs.format.Canonical.{signed_bytes, double_bytes}

-- ---- most significant byte first

pub byte_at-is : (i n : ℕ) → byte_at i n ≡ n / 256 ^ i % 256
byte_at-is zero n = let e : n / 1 ≡ n = omega arith in sym (ap (λ m. m % 256) e)
byte_at-is (suc i) n = refl

pub length-bytes : (k n : ℕ) → length (bytes_high_first k n) ≡ k
length-bytes zero n = refl
length-bytes (suc k) n = ap suc (length-bytes k n)

power-positive : (k : ℕ) → 0 < 256 ^ k
power-positive zero = omega arith
power-positive (suc k) = rw (pow-suc 256 k) (omega (arith, power-positive k))

-- The number `n` modulo 256 ^ (`k` + 1) is digit `k` times 256 ^ `k`, plus `n` modulo 256 ^ `k`.
mod-more : (n k : ℕ) → n % 256 ^ suc k ≡ (n / 256 ^ k % 256) * 256 ^ k + n % 256 ^ k
mod-more n k = ap (λ m. n % m) (pow-suc 256 k ∙ mul_comm (256 ^ k) 256) ∙ mod-mul n (omega arith) (power-positive k)

number-mod : (k n : ℕ) → number (bytes_high_first k n) ≡ n % 256 ^ k
number-mod zero n = omega arith
number-mod (suc k) n = rw (length-bytes k n, number-mod k n, byte_at-is k n) (sym (mod-more n k))

pub number-bytes : (k n : ℕ) → n < 256 ^ k → number (bytes_high_first k n) ≡ n
number-bytes k n small = number-mod k n ∙ mod-eq_of_lt small

-- ---- two's complement

pub length-signed_bytes : (k : ℕ) (z : ℤ) → length (signed_bytes k z) ≡ k
length-signed_bytes k (pos n) = length-bytes k n
length-signed_bytes k (negsuc n) = length-bytes k (256 ^ k - suc n)

signed-number : (k n : ℕ) → n < 256 ^ k → signed (bytes_high_first k n) ≡ twos_complement (256 ^ k) n
signed-number k n small = rw (length-bytes k n, number-bytes k n small) refl

pub signed-signed_bytes : (k : ℕ) (z : ℤ) → IsSigned (8 * suc k - 1) z → signed (signed_bytes (suc k) z) ≡ z
signed-signed_bytes k (pos n) h =
    let half = half_of k in
    signed-number (suc k) n (omega arith) ∙ twos_complement-low (256 ^ suc k) (2 ^ (8 * suc k - 1)) n half h
signed-signed_bytes k (negsuc n) h =
    let half = half_of k in
    let m = 256 ^ suc k in
    let back : 2 ^ (8 * suc k - 1) - 1 - (m - suc n - 2 ^ (8 * suc k - 1)) ≡ n = omega arith in
    signed-number (suc k) (m - suc n) (omega arith)
    ∙ twos_complement-high m (2 ^ (8 * suc k - 1)) (m - suc n) half (omega arith)
    ∙ ap negsuc back

-- ---- least significant byte first

next_digit : (i n : ℕ) → n / 256 ^ suc i ≡ n / 256 ^ i / 256
next_digit i n = ap (λ m. n / m) (pow-suc 256 i) ∙ sym (div-div-eq-div-mul n (256 ^ i) 256)

low-mod : (i k n : ℕ) → little_number (bytes_low_first i k n) ≡ n / 256 ^ i % 256 ^ k
low-mod i zero n = omega arith
low-mod i (suc k) n =
    let split : n / 256 ^ i % (256 ^ k * 256) ≡ (n / 256 ^ i / 256 % 256 ^ k) * 256 + n / 256 ^ i % 256 = mod-mul (n / 256 ^ i) (power-positive k) (omega arith) in
    rw (low-mod (suc i) k n, next_digit i n, byte_at-is i n, pow-suc 256 k, split) (omega arith)

pub little-double_bytes : (bits : ℕ) → bits < 2 ^ 64 → little_number (double_bytes bits) ≡ bits
little-double_bytes bits small =
    let whole : bits / 1 ≡ bits = omega arith in
    low-mod 0 8 bits ∙ ap (λ m. m % 256 ^ 8) whole ∙ mod-eq_of_lt small

pub EncodesDoubles-double_bytes : (all : List ℕ) → All (λ bits. bits < 2 ^ 64) all → EncodesDoubles true all (flat_map double_bytes all)
EncodesDoubles-double_bytes [] h = refl
EncodesDoubles-double_bytes (d ∷ ds) h = (
  omega arith,
  sym (little-double_bytes d (All-head (λ bits. bits < 2 ^ 64) d ds h)),
  EncodesDoubles-double_bytes ds (All-tail (λ bits. bits < 2 ^ 64) d ds h),
)

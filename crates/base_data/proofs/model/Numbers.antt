-- Lemmas on the numbers that bytes encode: concatenations, prefixes, suffixes, and bounds.
use Rattle.std.proofs.Common.{◌≡◌, ℕ, zero, suc, ◌+◌, ◌-◌, ◌*◌, ◌%◌, ◌^◌, ◌<◌, ◌≤◌, List, [], ◌∷◌, ◌++◌, length, get_or, take, drop, Fits, w8, refl, pos, negsuc, arith, ◌⊎◌, ⊎_elim, inl, inr}
use Rattle.std.proofs.Math.Nat.{pow-suc, mul-le-mul_right, pow-le-pow_right}
use Rattle.std.proofs.lemmas.Nat.{pow-add, one_shl}
use Rattle.std.proofs.lemmas.Bool.{cases_order}
use Rattle.std.proofs.lemmas.Bool.Decides.{nat_tests}
use Rattle.std.proofs.lemmas.List.{length-append, length-take, length-drop, take_more, drop_more}
use Rattle.std.proofs.lemmas.List.Elements.{All-head, All-tail, All-take, All-drop, All-from_get_or}
use Rattle.base_data.specs.model.Bytes.{AreBytes, number, little_number, twos_complement}

pub less_same_more : (m n : ℕ) → (m < n) ⊎ ((m ≡ n) ⊎ (n < m))
less_same_more m n = ⊎_elim
    (λ same. inr (inl same))
    (λ other. ⊎_elim (λ less. inl less) (λ more. inr (inr more)) other)
    (cases_order m n)

pub number-append : (xs ys : List ℕ) → number (xs ++ ys) ≡ number xs * 256 ^ length ys + number ys
number-append [] ys = omega arith
number-append (x ∷ xs) ys = rw (length-append xs ys, number-append xs ys, pow-add 256 (length xs) (length ys)) (omega arith)

-- The number of a prefix of `i` + 1 bytes is the number of the prefix of `i` bytes times 256, plus
-- byte `i`.
pub number_more : (bytes : List ℕ) (i : ℕ) → i < length bytes → number (take (i + 1) bytes) ≡ number (take i bytes) * 256 + get_or bytes i 0
number_more bytes i h = rw (take_more bytes i 0 h, number-append (take i bytes) (get_or bytes i 0 ∷ [])) (omega arith)

pub little_number_more : (bytes : List ℕ) (i : ℕ) → i < length bytes → little_number (drop i bytes) ≡ little_number (drop (i + 1) bytes) * 256 + get_or bytes i 0
little_number_more bytes i h = rw (drop_more bytes i 0 h) (omega arith)

-- If a digit is below 256 and a number is below `power`, then the digit before the number gives a
-- number below `power` * 256.
digit_below : (x n power : ℕ) → x < 256 → n < power → x * power + n < power * 256
digit_below x n power digit rest = omega (arith, mul-le-mul_right power digit)

pub number_below : (bytes : List ℕ) → AreBytes bytes → number bytes < 256 ^ length bytes
number_below [] h = omega arith
number_below (x ∷ xs) h =
    rw (pow-suc 256 (length xs))
    (digit_below x (number xs) (256 ^ length xs) (All-head (λ b. b < 256) x xs h) (number_below xs (All-tail (λ b. b < 256) x xs h)))

pub little_number_below : (bytes : List ℕ) → AreBytes bytes → little_number bytes < 256 ^ length bytes
little_number_below [] h = omega arith
little_number_below (x ∷ xs) h =
    let digit = All-head (λ b. b < 256) x xs h in
    let rest = little_number_below xs (All-tail (λ b. b < 256) x xs h) in
    rw (pow-suc 256 (length xs)) (omega arith)

-- If `n` is at most `k`, then 256 ^ `n` is at most 256 ^ `k`.
power_le : (n k : ℕ) → n ≤ k → 256 ^ n ≤ 256 ^ k
power_le n k h = let positive : 0 < 256 = omega arith in pow-le-pow_right positive h

pub number_fits : (bytes : List ℕ) (k : ℕ) → AreBytes bytes → length bytes ≤ k → number bytes < 256 ^ k
number_fits bytes k are_bytes few = omega (arith, number_below bytes are_bytes, power_le (length bytes) k few)

pub little_number_fits : (bytes : List ℕ) (k : ℕ) → AreBytes bytes → length bytes ≤ k → little_number bytes < 256 ^ k
little_number_fits bytes k are_bytes few = omega (arith, little_number_below bytes are_bytes, power_le (length bytes) k few)

-- The type invariant of a slice of bytes implies `AreBytes`.
pub are_bytes : (bytes : List ℕ) → ((i : ℕ) → Fits w8 (get_or bytes i 0)) → AreBytes bytes
are_bytes bytes each = All-from_get_or (λ b. b < 256) bytes 0 (λ i h. omega (arith, each i))

-- If there are at most eight bytes, then extending a prefix or a suffix by one byte does not
-- overflow.
pub number_step : (bytes : List ℕ) (i : ℕ) → AreBytes bytes → i < length bytes → length bytes ≤ 8 → number (take i bytes) * 256 + get_or bytes i 0 < 2 ^ 64
number_step bytes i are_bytes inside few =
    rw (← number_more bytes i inside)
    (number_fits (take (i + 1) bytes) 8 (All-take (λ b. b < 256) (i + 1) bytes are_bytes) (omega (arith, length-take (i + 1) bytes)))

pub little_number_step : (bytes : List ℕ) (i : ℕ) → AreBytes bytes → 0 < i → i ≤ length bytes → length bytes ≤ 8 → little_number (drop i bytes) * 256 + get_or bytes (i - 1) 0 < 2 ^ 64
little_number_step bytes i are_bytes some inside few =
    let back : (i - 1) + 1 ≡ i = omega arith in
    let more = rw back at (little_number_more bytes (i - 1) (omega arith)) in
    let fits = little_number_fits (drop (i - 1) bytes) 8 (All-drop (λ b. b < 256) (i - 1) bytes are_bytes) (omega (arith, length-drop (i - 1) bytes)) in
    omega arith

-- ---- two's complement

-- For `n` + 1 bytes, 2 to the power of the number of bits minus 1 is half of 256 ^ (`n` + 1).
pub half_of : (n : ℕ) → 2 ^ (8 * suc n - 1) * 2 ≡ 256 ^ suc n
half_of zero = refl
half_of (suc n) =
    let e : 8 * suc (suc n) - 1 ≡ (8 * suc n - 1) + 8 = omega arith in
    rw (e, pow-add 2 (8 * suc n - 1) 8, pow-suc 256 (suc n)) (omega (arith, half_of n))

-- The shift in the code of `signed` gives half of 256 ^ `n`.
pub half_shifted : (n : ℕ) → 1 ≤ n → n ≤ 8 → (1 * 2 ^ (8 * n - 1)) % 2 ^ 64 * 2 ≡ 256 ^ n
half_shifted zero some few = absurd (omega arith)
half_shifted (suc n) some few =
    let inside : 8 * suc n - 1 < 64 = omega arith in
    rw (one_shl (8 * suc n - 1) 64 inside) (half_of n)

pub half_fits : (n : ℕ) → 1 ≤ n → n ≤ 8 → (1 * 2 ^ (8 * n - 1)) % 2 ^ 64 ≤ 2 ^ 63
half_fits n some few = omega (arith, half_shifted n some few, power_le n 8 few)

pub twos_complement-low : (m half n : ℕ) → half * 2 ≡ m → n < half → twos_complement m n ≡ pos n
twos_complement-low m half n twice low = grind (arith, nat_tests)

pub twos_complement-high : (m half n : ℕ) → half * 2 ≡ m → half ≤ n → twos_complement m n ≡ negsuc (half - 1 - (n - half))
twos_complement-high m half n twice high = grind (arith, nat_tests)

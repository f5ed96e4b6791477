-- If bytes encode doubles in the runtime's byte order, then the bytes are the bytes that the
-- runtime writes for the decoded doubles.
use Rattle.std.proofs.Common.{ℕ, zero, suc, ◌≡◌, ◌+◌, ◌*◌, ◌/◌, ◌%◌, ◌<◌, ◌≤◌, ◌^◌, ◌∙◌, List, [], ◌∷◌, ◌++◌, length, take, drop, refl, sym, ap, ap₂, subst, arith}
use Rattle.std.specs.Prelude.{flat_map, All}
use Rattle.std.specs.Int.{byte_at, bytes_low_first}
use Rattle.std.proofs.Math.Nat.{pow-suc, mul_comm, div-div-eq-div-mul}
use Rattle.std.proofs.lemmas.List.{length-take-le, length-drop}
use Rattle.std.proofs.lemmas.List.Elements.{All-nil, All-cons, All-head, All-tail, All-take, All-drop}
use Rattle.base_data.specs.declared.model.value.Obj.TheVariants as objects
use Rattle.base_data.specs.model.Bytes.{AreBytes, little_number}
use Rattle.base_data.proofs.model.Numbers.{little_number_fits}
use Rattle.marshal_spec.specs.format.Token.{leaf}
use Rattle.marshal_spec.specs.format.Canonical.{double_bytes, doubles_prefix}
use Rattle.marshal_write.specs.canonical_check.Canonicity.{BeginsCanonical}
use Rattle.marshal_write.proofs.canonical_check.CanonicalLemmas.{take_two}
use Rattle.marshal_spec.proofs.canonical.ByteLemmas.{byte_at-is}

-- ---- one double

-- Byte `i` + 1 of the number `b` + 256 * `n` is byte `i` of `n`.
next_low : (i b n : ℕ) → b < 256 → byte_at (suc i) (b + 256 * n) ≡ byte_at i n
next_low i b n small =
    let one : (b + 256 * n) / 256 ≡ n = omega arith in
    ap (λ m. (b + 256 * n) / m % 256) (pow-suc 256 i ∙ mul_comm (256 ^ i) 256)
    ∙ ap (λ q. q % 256) (sym (div-div-eq-div-mul (b + 256 * n) 256 (256 ^ i)) ∙ ap (λ q. q / 256 ^ i) one)
    ∙ sym (byte_at-is i n)

lows_next : (i k b n : ℕ) → b < 256 → bytes_low_first (suc i) k (b + 256 * n) ≡ bytes_low_first i k n
lows_next i zero b n small = refl
lows_next i (suc k) b n small = ap₂ (λ x xs. x ∷ xs) (next_low i b n small) (lows_next (suc i) k b n small)

low_number : (xs : List ℕ) → AreBytes xs → bytes_low_first 0 (length xs) (little_number xs) ≡ xs
low_number [] are = refl
low_number (b ∷ bytes) are =
    let n = little_number bytes in
    let small : b < 256 = All-head (λ b. b < 256) b bytes are in
    let first : (b + 256 * n) % 256 ≡ b = omega (arith, small) in
    ap₂ (λ x xs. x ∷ xs) first (lows_next 0 (length bytes) b n small ∙ low_number bytes (All-tail (λ b. b < 256) b bytes are))

-- ---- several doubles

-- The doubles that the bytes encode.
abbrev doubles_of : ℕ → List ℕ → List ℕ
doubles_of zero xs = []
doubles_of (suc k) xs = little_number (take 8 xs) ∷ doubles_of k (drop 8 xs)

length-doubles_of : (k : ℕ) (xs : List ℕ) → length (doubles_of k xs) ≡ k
length-doubles_of zero xs = refl
length-doubles_of (suc k) xs = ap suc (length-doubles_of k (drop 8 xs))

eight : (xs : List ℕ) → AreBytes xs → 8 ≤ length xs → double_bytes (little_number (take 8 xs)) ≡ take 8 xs
eight xs are long =
    let few = length-take-le 8 xs long in
    subst (λ k. bytes_low_first 0 k (little_number (take 8 xs)) ≡ take 8 xs) few (low_number (take 8 xs) (All-take (λ b. b < 256) 8 xs are))

bytes_of_doubles : (k : ℕ) (xs : List ℕ) → AreBytes xs → 8 * k ≤ length xs → flat_map double_bytes (doubles_of k xs) ≡ take (8 * k) xs
bytes_of_doubles zero xs are within = refl
bytes_of_doubles (suc k) xs are within =
    let many : 8 * suc k ≡ 8 + 8 * k = omega arith in
    let rest = length-drop 8 xs in
    ap₂ ◌++◌ (eight xs are (omega (arith, within))) (bytes_of_doubles k (drop 8 xs) (All-drop (λ b. b < 256) 8 xs are) (omega (arith, rest, within)))
    ∙ sym (ap (λ n. take n xs) many ∙ take_two 8 (8 * k) xs (omega (arith, within)))

doubles_fit : (k : ℕ) (xs : List ℕ) → AreBytes xs → 8 * k ≤ length xs → All (λ bits. bits < 2 ^ 64) (doubles_of k xs)
doubles_fit zero xs are within = All-nil (λ bits. bits < 2 ^ 64)
doubles_fit (suc k) xs are within =
    let rest = length-drop 8 xs in
    let few = length-take-le 8 xs (omega (arith, within)) in
    All-cons (λ bits. bits < 2 ^ 64) (little_number (take 8 xs)) (doubles_of k (drop 8 xs))
    (little_number_fits (take 8 xs) 8 (All-take (λ b. b < 256) 8 xs are) (omega (arith, few)))
    (doubles_fit k (drop 8 xs) (All-drop (λ b. b < 256) 8 xs are) (omega (arith, rest, within)))

-- If bytes begin with the prefix of an array and eight bytes for each double, then the bytes begin
-- with a canonical encoding.
pub doubles_first : (n count : ℕ) (bytes : List ℕ) → AreBytes bytes → n + 8 * count ≤ length bytes → 0 < count → count < 2 ^ 64 → take n bytes ≡ doubles_prefix count → BeginsCanonical (n + 8 * count) bytes
doubles_first n count bytes are within some few prefix =
    let rest = drop n bytes in
    let all = doubles_of count rest in
    let many = length-drop n bytes in
    let long : length all ≡ count = length-doubles_of count rest in
    let rest_bytes : AreBytes rest = All-drop (λ b. b < 256) n bytes are in
    let room : 8 * count ≤ length rest = omega (arith, many, within) in (
      leaf (objects.Doubles all),
      record {
        within = within;
        encodable = ((subst (λ k. 0 < k) (sym long) some, doubles_fit count rest rest_bytes room), subst (λ k. k < 2 ^ 64) (sym long) few);
        encoded = take_two n (8 * count) bytes (omega (arith, within)) ∙ ap₂ ◌++◌ (prefix ∙ ap doubles_prefix (sym long)) (sym (bytes_of_doubles count rest rest_bytes room));
      },
    )

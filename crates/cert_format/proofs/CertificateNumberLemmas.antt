-- Decimal digits and the numbers that they denote.
use Rattle.std.proofs.Common.{ℕ, zero, suc, ◌≡◌, ◌<◌, ◌≤◌, ◌+◌, ◌-◌, ◌*◌, ◌^◌, ◌∙◌, Bool, true, false, List, [], ◌∷◌, ◌++◌, length, take, drop, get_or, refl, sym, ap, subst, arith}
use Rattle.std.specs.Prelude.{◌==◌, decimal}
use Rattle.std.proofs.lemmas.Bool.{false≢true}
use Rattle.std.proofs.lemmas.Bool.Decides.{Decides-eqb}
use Rattle.std.specs.Str.Parse.{AllDigits, digits_value}
use Rattle.std.proofs.lemmas.Fmt.{decimal_is_IsNumeral, decimal_nonempty, decimal_digit, first_decimal, length-decimal-le, decimal-digits_value}
use Rattle.std.proofs.lemmas.Str.Parse.{IsNumeralModel, numerals_by_value, tells_digits, digit_at, digits_value_short}
use Rattle.std.proofs.lemmas.Int.Digits.{digits_value_more, digits_more}
use Rattle.std.proofs.lemmas.List.{length-take-le, take-append-drop, take_rest}
use Rattle.std.proofs.Math.Seq.{take-length}
use Rattle.std.specs.Char.{digit_value}
use Rattle.cert_format.specs.CertificateNumbers.{IsNumberText, IsNoNumberText, BeginsWithNumber}

own : IsNumeralModel (AllDigits 10) (digits_value 10)
own = numerals_by_value (AllDigits 10) tells_digits

small : (n : ℕ) → n < 2 ^ 63 → n < 2 ^ 64
small n less = omega (arith, less)

pub empty_is : (n : ℕ) (test : Bool) → test ≡ (n == 0) → test ≡ true → n ≡ 0
empty_is n test is yes' = (Decides-eqb n 0).0 (sym is ∙ yes')

pub some_is : (n : ℕ) (test : Bool) → test ≡ (n == 0) → test ≡ false → 0 < n
some_is zero test is no' = absurd (false≢true (sym no' ∙ (is ∙ (Decides-eqb 0 0).1 refl)))
some_is (suc n) test is no' = omega arith

pub none_where_empty : (bytes : List ℕ) → length bytes ≡ 0 → IsNoNumberText bytes
none_where_empty bytes none n is =
    let some = decimal_nonempty n (small n is.0) in
    let same = ap length is.1 in omega (arith, some, same, none)

pub none_where_long : (bytes : List ℕ) → 19 < length bytes → IsNoNumberText bytes
none_where_long bytes long n is =
    let less : n < 10 ^ 19 = omega (arith, is.0) in
    let short = length-decimal-le 19 n (omega arith) less (small n is.0) in
    let same = ap length is.1 in omega (arith, short, same, long)

pub none_where_leading : (bytes : List ℕ) → get_or bytes 0 0 ≡ 48 → 1 < length bytes → IsNoNumberText bytes
none_where_leading bytes first long zero is =
    let same = ap length is.1 ∙ ap length (decimal_digit 0 (omega arith)) in absurd (omega (arith, same, long))
none_where_leading bytes first long (suc n) is =
    let more = first_decimal (suc n) (omega arith) (small (suc n) is.0) in
    let same = ap (λ b. get_or b 0 0) is.1 in omega (arith, more, same, first)

pub none_where_other : (bytes : List ℕ) (i : ℕ) → i < length bytes → ¬ ((48 ≤ get_or bytes i 0) × (get_or bytes i 0 ≤ 57)) → IsNoNumberText bytes
none_where_other bytes i inside other n is =
    let all = subst (λ b. AllDigits 10 b) (sym is.1) (decimal_is_IsNumeral n (small n is.0)).0.1 in
    other (digit_at bytes i all inside)

pub none_where_large : (bytes : List ℕ) → 2 ^ 63 ≤ digits_value 10 bytes → IsNoNumberText bytes
none_where_large bytes large n is =
    let value = ap (λ b. digits_value 10 b) is.1 ∙ (decimal_is_IsNumeral n (small n is.0)).1 in
    let less = is.0 in omega (arith, value, less, large)

pub is_number :
    (bytes : List ℕ) → 0 < length bytes → (get_or bytes 0 0 ≡ 48 → length bytes ≡ 1) → AllDigits 10 bytes → digits_value 10 bytes < 2 ^ 63
    → IsNumberText bytes (digits_value 10 bytes)
is_number bytes some leading all less =
    (less, sym (decimal-digits_value own bytes all some leading (omega (arith, less))))

-- ---- one more digit

pub few_digits : (bytes : List ℕ) (i : ℕ) → length bytes ≤ 19 → i < length bytes → AllDigits 10 (take i bytes) → digits_value 10 (take i bytes) < 10 ^ 18
few_digits bytes i few inside all =
    let many = length-take-le i bytes (omega (arith, inside)) in
    digits_value_short own (take i bytes) 18 all (omega (arith, many, few, inside))

-- The value of a digit.
pub digit_is : (c : ℕ) → 48 ≤ c → c ≤ 57 → digit_value c ≡ c - 48
digit_is c low high = grind arith

pub digit_more :
    (bytes : List ℕ) (i n d m : ℕ) → i < length bytes → 48 ≤ get_or bytes i 0 → get_or bytes i 0 ≤ 57
    → AllDigits 10 (take i bytes) × (n ≡ digits_value 10 (take i bytes)) → d ≡ get_or bytes i 0 - 48 → m ≡ 10 * n + d
    → AllDigits 10 (take (i + 1) bytes) × (m ≡ digits_value 10 (take (i + 1) bytes))
digit_more bytes i n d m inside low high before is sum =
    let value = digit_is (get_or bytes i 0) low high in
    let more = digits_value_more 10 bytes i inside in
    let old = before.1 in (
      digits_more 10 bytes i inside before.0 (omega (arith, value, high)),
      omega (arith, sum, old, is, more, value),
    )

-- If all bytes have been read, then all bytes are digits, and `n` is their number.
pub whole : (bytes : List ℕ) (i n : ℕ) → length bytes ≤ i → i ≤ length bytes → AllDigits 10 (take i bytes) × (n ≡ digits_value 10 (take i bytes)) → AllDigits 10 bytes × (n ≡ digits_value 10 bytes)
whole bytes i n low high held =
    let same : i ≡ length bytes = omega (arith, low, high) in
    let is : take i bytes ≡ bytes = ap (λ k. take k bytes) same ∙ take-length bytes in
    subst (λ b. AllDigits 10 b × (n ≡ digits_value 10 b)) is held

-- ---- a number at the start of bytes

few_first : (bytes : List ℕ) (i : ℕ) → i ≤ 18 → i ≤ length bytes → AllDigits 10 (take i bytes) → digits_value 10 (take i bytes) < 10 ^ 18
few_first bytes i few inside all =
    let many = length-take-le i bytes inside in digits_value_short own (take i bytes) 18 all (omega (arith, many, few))

-- If one more byte is a digit, then the invariant holds after the digit.
pub first_more :
    (bytes : List ℕ) (i n d m : ℕ) → i < length bytes → 48 ≤ get_or bytes i 0 → get_or bytes i 0 ≤ 57
    → AllDigits 10 (take i bytes) × (n ≡ digits_value 10 (take i bytes)) → i < 18 → d ≡ get_or bytes i 0 - 48 → m ≡ 10 * n + d
    → (AllDigits 10 (take (i + 1) bytes) × (m ≡ digits_value 10 (take (i + 1) bytes))) × (i + 1 ≤ 18) × (i + 1 ≤ length bytes)
first_more bytes i n d m inside low high before few is sum =
    (digit_more bytes i n d m inside low high before is sum, omega (arith, few), omega (arith, inside))

pub first_small : (bytes : List ℕ) (i n : ℕ) → i ≤ 18 → i ≤ length bytes → AllDigits 10 (take i bytes) × (n ≡ digits_value 10 (take i bytes)) → n < 10 ^ 18
first_small bytes i n few inside held = let less = few_first bytes i few inside held.0 in let is = held.1 in omega (arith, less, is)

first_byte : (bytes : List ℕ) (i : ℕ) → 0 < i → get_or (take i bytes) 0 0 ≡ get_or bytes 0 0
first_byte bytes zero some = absurd (omega (arith, some))
first_byte [] (suc i) some = refl
first_byte (b ∷ bytes) (suc i) some = refl

pub number_begins :
    (bytes : List ℕ) (i n : ℕ) → 0 < i → i ≤ 18 → i ≤ length bytes → AllDigits 10 (take i bytes) × (n ≡ digits_value 10 (take i bytes))
    → (get_or bytes 0 0 ≡ 48 → i ≤ 1) → BeginsWithNumber bytes n (take (length bytes - i) (drop i bytes))
number_begins bytes i n some few inside held leading =
    (text'.0, sym (take-append-drop i bytes) ∙ (ap (λ z. z ++ drop i bytes) text'.1 ∙ ap (λ z. decimal n ++ z) (sym (take_rest bytes i)))) where
      many : length (take i bytes) ≡ i
      many = length-take-le i bytes inside

      text' : IsNumberText (take i bytes) n
      text' =
          let less = few_first bytes i few inside held.0 in
          subst (λ m. IsNumberText (take i bytes) m) (sym held.1)
          (is_number (take i bytes) (omega (arith, many, some))
          (λ zero'. let one = leading (sym (first_byte bytes i some) ∙ zero') in omega (arith, many, one, some)) held.0 (omega (arith, less)))

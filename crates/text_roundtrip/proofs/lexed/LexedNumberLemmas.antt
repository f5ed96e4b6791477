-- The texts of numbers are lexemes of numbers.
use Rattle.std.proofs.Common.{◌≡◌, ◌≢◌, ℕ, ℤ, pos, negsuc, zero, suc, ◌+◌, ◌-◌, ◌*◌, ◌^◌, ◌/◌, ◌%◌, ◌<◌, ◌≤◌, true, false, List, [], ◌∷◌, ◌++◌, length, refl, sym, ap, subst, ◌∙◌, arith, length-append}
use Rattle.std.specs.Prelude.{slice_index}
use Rattle.std.specs.List.{list_all}
use Rattle.std.proofs.Common.{eqb}
use Rattle.std.specs.Char.{is_ascii_digit, is_ascii_hexdigit}
use Rattle.std.specs.Fmt.{decimal, signed_decimal}
use Rattle.std.specs.Int.{w64, to_be_bytes, byte_at, bytes_high_first}
use Rattle.std.proofs.Math.Nat.{mul_assoc, add-mul}
use Rattle.std.proofs.lemmas.Bool.{and_from, and_parts, agree_below_at, eqb-true, false≢true}
use Rattle.std.proofs.lemmas.List.Folds.{list_all-append}
use Rattle.std.proofs.lemmas.Fmt.{decimal_by_steps}
use Rattle.std.proofs.lemmas.Nat.{from_be_bytes-to_be_bytes_8}
use Rattle.std.proofs.lemmas.Int.{ints}
use Rattle.hex.specs.Hex.{encode_with, encode_lower, lower_digits}
use Rattle.types_lex.specs.declared.lexeme.LexemeKind.TheVariants as kinds
use Rattle.types_lex.specs.declared.lexeme.Suffix.{Suffix}
use Rattle.types_lex.specs.declared.lexeme.Suffix.TheVariants as suffixes
use Rattle.std.proofs.lemmas.List.{append-nil}
use Rattle.types_lex.proofs.NumberLaws.{number_in-push}
use Rattle.types_lex.specs.Lexeme.{value_of_digit, number_in, signed, suffix_text}
use Rattle.text_roundtrip.specs.lexed.Lexed.{Ends, IsLexed, BeginsWithoutStar}
use Rattle.text_roundtrip.specs.lexed.LexedNumbers.{InRange, integer_kinds}
use Rattle.text_roundtrip.proofs.lexed.CharLemmas.{digit_value, digit_test}
use Rattle.text_roundtrip.proofs.lexed.LexedLemmas.{lexed_number, lexed_double}
use Rattle.text_print.specs.leaves.LeafTexts.{float_text}

-- ---- decimal digits

-- The digits `ds` denote the number `n`.
record StandFor (n : ℕ) (ds : List ℕ) : Type 0 where
  some : 0 < length ds
  digits : list_all is_ascii_digit ds ≡ true
  value : number_in 10 ds ≡ n

one_digit : (n : ℕ) → n < 10 → StandFor n ((48 + n) ∷ [])
one_digit n h = record {
  some = omega arith;
  digits = rw (digit_test n h) refl;
  value = rw (digit_value n h) (omega arith);
}

more_digits : (n : ℕ) (ds : List ℕ) → 10 ≤ n → StandFor (n / 10) ds → StandFor n (ds ++ ((48 + n % 10) ∷ []))
more_digits n ds h s =
    let last : n % 10 < 10 = omega arith in
    record {
      some = omega (arith, length-append ds ((48 + n % 10) ∷ []));
      digits = list_all-append is_ascii_digit ds ((48 + n % 10) ∷ []) ∙ and_from _ _ s.digits (and_from _ _ (digit_test (n % 10) last) refl);
      value = number_in-push 10 ds (48 + n % 10) ∙ rw (s.value, digit_value (n % 10) last) (omega arith);
    }

decimal_stands : (n : ℕ) → n < 2 ^ 64 → StandFor n (decimal n)
decimal_stands n h = decimal_by_steps StandFor one_digit more_digits n h

not_empty : (ds : List ℕ) → 0 < length ds → ds ≢ []
not_empty [] some e = absurd (omega arith)
not_empty (d ∷ ds) some e = absurd cc

-- ---- integers

minus_is : (n : ℕ) → signed true (suc n) ≡ negsuc n
minus_is n = omega (arith, ints)

pub lexed_integer : (z : ℤ) (suffix : Suffix) → InRange z → IsLexed Ends (signed_decimal z ++ suffix_text suffix) (integer_kinds z suffix)
lexed_integer (pos n) suffix range =
    let s = decimal_stands n (omega arith) in
    let small : number_in 10 (decimal n) ≤ 2 ^ 63 - 1 = omega (arith, s.value) in
    subst (λ v. IsLexed Ends (decimal n ++ suffix_text suffix) (kinds.Integer (record { minus = false; value = pos v; suffix = suffix }) ∷ [])) s.value
    (lexed_number false (decimal n) suffix (not_empty (decimal n) s.some, s.digits) small)
lexed_integer (negsuc n) suffix range =
    let s = decimal_stands (suc n) (omega arith) in
    let small : number_in 10 (decimal (suc n)) ≤ 2 ^ 63 = omega (arith, s.value) in
    subst (λ v. IsLexed Ends (45 ∷ (decimal (suc n) ++ suffix_text suffix)) (kinds.Integer (record { minus = true; value = v; suffix = suffix }) ∷ [])) (ap (signed true) s.value ∙ minus_is n)
    (lexed_number true (decimal (suc n)) suffix (not_empty (decimal (suc n)) s.some, s.digits) small)

-- The decimal text of a natural number below 2 ^ 63 is an integer without sign and suffix.
pub lexed_natural : (n : ℕ) → n < 2 ^ 63 → IsLexed Ends (decimal n) (kinds.Integer (record { minus = false; value = pos n; suffix = suffixes.Absent }) ∷ [])
lexed_natural n h = subst (λ t. IsLexed Ends t (integer_kinds (pos n) suffixes.Absent)) (append-nil (decimal n)) (lexed_integer (pos n) suffixes.Absent h)

-- ---- doubles

abbrev hexadecimal : ℕ → ℕ
hexadecimal d = slice_index lower_digits d

hexadecimal_value : (d : ℕ) → d < 16 → value_of_digit (hexadecimal d) ≡ d
hexadecimal_value d h = eqb-true _ d (agree_below_at (λ d. eqb (value_of_digit (hexadecimal d)) d) (λ d. true) 16 d refl h)

hexadecimal_test : (d : ℕ) → d < 16 → is_ascii_hexdigit (hexadecimal d) ≡ true
hexadecimal_test d h = agree_below_at (λ d. is_ascii_hexdigit (hexadecimal d)) (λ d. true) 16 d refl h

-- The two hexadecimal digits of the byte `b`, followed by `rest`.
abbrev two : ℕ → List ℕ → List ℕ
two b rest = hexadecimal (b / 16) ∷ hexadecimal (b % 16) ∷ rest

two_test : (b : ℕ) (rest : List ℕ) → b < 256 → list_all is_ascii_hexdigit rest ≡ true → list_all is_ascii_hexdigit (two b rest) ≡ true
two_test b rest h all = and_from _ _ (hexadecimal_test (b / 16) (omega arith)) (and_from _ _ (hexadecimal_test (b % 16) (omega arith)) all)

byte_low : (k n : ℕ) → byte_at k n < 256
byte_low zero n = omega arith
byte_low (suc k) n = omega arith

-- If two digits of a byte come before 2 k digits, then the value of all digits is the value of the
-- bytes.
two_value : (b m p q v : ℕ) → b < 256 → p ≡ 16 * q → v ≡ m → value_of_digit (hexadecimal (b / 16)) * p + (value_of_digit (hexadecimal (b % 16)) * q + v) ≡ b * q + m
two_value b m p q v h e f =
    rw (hexadecimal_value (b / 16) (omega arith), hexadecimal_value (b % 16) (omega arith), e, f)
    (let s : b ≡ b / 16 * 16 + b % 16 = omega arith in
    let t : b * q ≡ (b / 16 * 16 + b % 16) * q = ap (λ x. x * q) s in
    t_sum (b / 16) (b % 16) q m ∙ ap (λ x. x + m) (sym t))
  where
    t_sum : (x y q m : ℕ) → x * (16 * q) + (y * q + m) ≡ (x * 16 + y) * q + m
    t_sum x y q m = omega (arith, mul_assoc x 16 q, add-mul (x * 16) y q)

digits_of_bytes : (k n : ℕ) → list_all is_ascii_hexdigit (encode_lower (bytes_high_first k n)) ≡ true
unfolding encode_with
digits_of_bytes zero n = refl
digits_of_bytes (suc k) n = two_test (byte_at k n) (encode_lower (bytes_high_first k n)) (byte_low k n) (digits_of_bytes k n)

double_digits : (n : ℕ) → list_all is_ascii_hexdigit (encode_lower (to_be_bytes w64 n)) ≡ true
double_digits n = digits_of_bytes 8 n

double_length : (n : ℕ) → length (encode_lower (to_be_bytes w64 n)) ≡ 16
unfolding encode_with
double_length n = refl

double_sum : (n : ℕ) → number_in 16 (encode_lower (to_be_bytes w64 n)) ≡ byte_at 7 n * 16 ^ 14 + (byte_at 6 n * 16 ^ 12 + (byte_at 5 n * 16 ^ 10 + (byte_at 4 n * 16 ^ 8 + (byte_at 3 n * 16 ^ 6 + (byte_at 2 n * 16 ^ 4 + (byte_at 1 n * 16 ^ 2 + (byte_at 0 n * 16 ^ 0 + 0)))))))
unfolding encode_with
double_sum n =
    two_value (byte_at 7 n) _ (16 ^ 15) (16 ^ 14) _ (byte_low 7 n) refl
    (two_value (byte_at 6 n) _ (16 ^ 13) (16 ^ 12) _ (byte_low 6 n) refl
    (two_value (byte_at 5 n) _ (16 ^ 11) (16 ^ 10) _ (byte_low 5 n) refl
    (two_value (byte_at 4 n) _ (16 ^ 9) (16 ^ 8) _ (byte_low 4 n) refl
    (two_value (byte_at 3 n) _ (16 ^ 7) (16 ^ 6) _ (byte_low 3 n) refl
    (two_value (byte_at 2 n) _ (16 ^ 5) (16 ^ 4) _ (byte_low 2 n) refl
    (two_value (byte_at 1 n) _ (16 ^ 3) (16 ^ 2) _ (byte_low 1 n) refl
    (two_value (byte_at 0 n) 0 (16 ^ 1) (16 ^ 0) 0 (byte_low 0 n) refl refl)))))))

double_value : (n : ℕ) → n < 2 ^ 64 → number_in 16 (encode_lower (to_be_bytes w64 n)) ≡ n
double_value n h = double_sum n ∙ omega (arith, from_be_bytes-to_be_bytes_8 n h)

pub lexed_bits : (bits : ℕ) → bits < 2 ^ 64 → (May : List ℕ → Type 0) → IsLexed May (float_text bits) (kinds.Double bits ∷ [])
lexed_bits bits h May =
    subst (λ v. IsLexed May (float_text bits) (kinds.Double v ∷ [])) (double_value bits h)
    (lexed_double (encode_lower (to_be_bytes w64 bits)) (double_length bits, double_digits bits) May)

-- ---- first bytes

begins_digits : (ds more : List ℕ) → 0 < length ds → list_all is_ascii_digit ds ≡ true → BeginsWithoutStar (ds ++ more)
begins_digits [] more some digits = absurd (omega arith)
begins_digits (d ∷ ds) more some digits = record {
  first = d;
  others = ds ++ more;
  is = refl;
  no_star = λ e. absurd (false≢true (ap is_ascii_digit (sym e) ∙ (and_parts _ _ digits).0));
}

pub begins_integer : (z : ℤ) (more : List ℕ) → InRange z → BeginsWithoutStar (signed_decimal z ++ more)
begins_integer (pos n) more range = let s = decimal_stands n (omega arith) in begins_digits (decimal n) more s.some s.digits
begins_integer (negsuc n) more range = record { first = 45; others = decimal (suc n) ++ more; is = refl; no_star = λ e. absurd (omega arith) }

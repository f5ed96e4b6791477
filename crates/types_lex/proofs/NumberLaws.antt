-- Digits as numbers.
use Rattle.std.proofs.Common.{◌≡◌, ℕ, zero, suc, ◌+◌, ◌-◌, ◌*◌, ◌^◌, ◌<◌, ◌≤◌, min, Bool, true, List, [], ◌∷◌, ◌++◌, length, get_or, take, ap, ◌∙◌, arith, refl, length-append, add-one, inl, inr, lit<, Ok}
use Rattle.std.specs.List.{list_all, prefix_len}
use Rattle.std.specs.Char.{is_ascii_digit, is_ascii_hexdigit}
use Rattle.std.proofs.Math.Nat.{pow-zero, pow-succ', mul_left_comm, mul_comm, mul-le-mul_left}
use Rattle.std.proofs.lemmas.Bool.{le-ltb, and_parts, or_left, cases_lt, cases_Bool}
use Rattle.std.proofs.lemmas.Bool.Decides.{nat_tests}
use Rattle.std.proofs.lemmas.List.{take_more, length-take-le}
use Rattle.types_lex.specs.declared.lexeme.LexemeKind.TheVariants as kinds
use Rattle.types_lex.specs.Lexeme.{value_of_digit, number_in}
use Rattle.types_lex.specs.declared.found_lexeme.FoundLexeme.{FoundLexeme}
use Rattle.types_lex.specs.Lexer.{double_form, found_at}

power-step : (base x n : ℕ) → x * base ^ (n + 1) ≡ base * (x * base ^ n)
power-step base x n = ap (λ (k : ℕ). x * base ^ k) (add-one n) ∙ ap (λ (k : ℕ). x * k) (pow-succ' base n) ∙ mul_left_comm x base (base ^ n)

pub number_in-push : (base : ℕ) (xs : List ℕ) (b : ℕ) → number_in base (xs ++ b ∷ []) ≡ base * number_in base xs + value_of_digit b
number_in-push base [] b = let e : value_of_digit b * base ^ 0 ≡ value_of_digit b * 1 = ap (λ (k : ℕ). value_of_digit b * k) (pow-zero base) in omega arith
number_in-push base (x ∷ xs) b =
    let e = number_in-push base xs b in
    let l : length (xs ++ b ∷ []) ≡ length xs + 1 = omega (arith, length-append xs (b ∷ [])) in
    rw (l, e) (omega (arith, power-step base (value_of_digit x) (length xs)))

-- If one more digit is read, then the number that saturates at a limit is the exact number or the
-- limit.
stops-at : (base n d m limit : ℕ) → m ≡ min n limit → min (min (m * base) limit + d) limit ≡ min (base * n + d) limit
stops-at zero n d m limit e = omega arith
stops-at (suc k) n d m limit e =
    elim (cases_lt n limit) [
      | inl lt ↦ let s : m ≡ n = omega arith in rw s (omega (arith, mul_comm n (suc k)))
      | inr le ↦ let s : m ≡ limit = omega arith in rw s (omega arith)
    ]

-- If one more digit is read, then the saturating number is that of the longer digit sequence.
pub number_in-more : (base : ℕ) (xs : List ℕ) (i n : ℕ) → i < length xs → n ≡ min (number_in base (take i xs)) (2 ^ 64 - 1) → min (min (n * base) (2 ^ 64 - 1) + value_of_digit (get_or xs i 0)) (2 ^ 64 - 1) ≡ min (number_in base (take (i + 1) xs)) (2 ^ 64 - 1)
number_in-more base xs i n lt so_far = rw (take_more xs i 0 lt, number_in-push base (take i xs) (get_or xs i 0)) (stops-at base (number_in base (take i xs)) (value_of_digit (get_or xs i 0)) n (2 ^ 64 - 1) so_far)

-- ---- digits

hexdigit-from_digit : (b : ℕ) → is_ascii_digit b ≡ true → is_ascii_hexdigit b ≡ true
hexdigit-from_digit b e = or_left _ _ (or_left _ _ e)

pub list_all-hexdigit : (ds : List ℕ) → list_all is_ascii_digit ds ≡ true → list_all is_ascii_hexdigit ds ≡ true
list_all-hexdigit [] e = refl
list_all-hexdigit (d ∷ ds) e = let p = and_parts (is_ascii_digit d) (list_all is_ascii_digit ds) e in rw (hexdigit-from_digit d p.0, list_all-hexdigit ds p.1) refl

-- The leading bytes that pass a test all pass the test.
pub prefix_passes : (p : ℕ → Bool) (xs : List ℕ) → list_all p (take (prefix_len p xs) xs) ≡ true
prefix_passes p [] = refl
prefix_passes p (x ∷ xs) =
    let one : 1 + prefix_len p xs ≡ suc (prefix_len p xs) = omega arith in
    elim (cases_Bool (p x)) [ inl e ↦ rw (e, one, e) (prefix_passes p xs) | inr e ↦ rw e refl ]

value_of_digit-below : (b : ℕ) → is_ascii_hexdigit b ≡ true → value_of_digit b < 16
value_of_digit-below b e = grind (arith, nat_tests)

pub number_in-below : (ds : List ℕ) → list_all is_ascii_hexdigit ds ≡ true → number_in 16 ds < 16 ^ length ds
number_in-below [] e = lit< tt
number_in-below (d ∷ ds) e =
    let p = and_parts (is_ascii_hexdigit d) (list_all is_ascii_hexdigit ds) e in
    let digit : value_of_digit d ≤ 15 = omega (arith, value_of_digit-below d p.0) in
    let others = number_in-below ds p.1 in
    rw pow-succ' (omega (arith, mul-le-mul_left (16 ^ length ds) digit, others))

abbrev pub double_of : ℕ → FoundLexeme
double_of n = record { kind = kinds.Double n; len = 17 }

-- Sixteen hexadecimal digits denote one number of 64 bits.
pub double_found : (text : List ℕ) (n : ℕ) → 16 ≤ length text → list_all is_ascii_hexdigit (take 16 text) ≡ true → n ≡ min (number_in 16 (take 16 text)) (2 ^ 64 - 1) → found_at (double_form text) ≡ Ok (double_of n)
unfolding double_form
double_found text n long digits is =
    let len : length (take 16 text) ≡ 16 = length-take-le 16 text long in
    let below : number_in 16 (take 16 text) < 16 ^ 16 = rw len at (number_in-below (take 16 text) digits) in
    let same : number_in 16 (take 16 text) ≡ n = omega (arith, is, below) in
    rw (le-ltb (length text) 16 long, digits, same, len) refl

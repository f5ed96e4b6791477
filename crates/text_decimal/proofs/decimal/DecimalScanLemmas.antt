-- If the bytes after a numeral cannot continue the numeral, then the whole numeral is read. Further
-- lemmas state the lengths of numerals.
use Rattle.std.proofs.Common.{◌≡◌, ◌≢◌, ◌∙◌, ℕ, ◌+◌, ◌-◌, ◌<◌, ◌≤◌, Bool, true, false, true≢false, cond, ◌&&◌, ◌||◌, eqb, List, [], ◌∷◌, ◌++◌, length, get_or, drop, slice_range, Option, Some, None, refl, sym, ap, subst, inl, inr, arith, append_assoc, length-append, length-take, add-zero, ne_eqb, le-leb, ltb-true, drop_at, take_at, get_or-append-add, get_or-drop}
use Rattle.std.proofs.lemmas.Bool.{and_parts, and_right, cond_both, cases_Bool}
use Rattle.std.proofs.lemmas.Str.Parse.{digit_from_value}
use Rattle.std.specs.Str.Parse.{AllDigits}
use Rattle.std.specs.Float.Numeral.{digits_len, digits_end, exponent_start, has_exponent, scan_numeral}
use Rattle.std.specs.Fmt.{sign_text}
use Rattle.std.specs.List.{list_all, prefix_len}
use Rattle.std.specs.Char.{is_ascii_digit}
use Rattle.fast_float.specs.Text.{Parts, exponent_text, text_of, IsWellFormed}
use Rattle.text_decimal.specs.decimal.DecimalReading.{Stops, is_decimal, numeral_in, minus_len, decimal_at}

is_digit : (x : ℕ) → 48 ≤ x → x ≤ 57 → is_ascii_digit x ≡ true
is_digit x lo hi = rw (le-leb 48 x lo, le-leb x 57 hi)

digits_len-append : (ds rest : List ℕ) → AllDigits 10 ds → digits_len (ds ++ rest) ≡ length ds + digits_len rest
digits_len-append [] rest h = omega arith
digits_len-append (d ∷ ds) rest h = let r = digit_from_value d h.0 in rw (is_digit d r.0 r.1) (omega (arith, digits_len-append ds rest h.1))

module _ (prefix ds rest : List ℕ) (i : ℕ) (at : length prefix ≡ i) (digits : AllDigits 10 ds) (ends : digits_len rest ≡ 0) where
  run_end : digits_end (prefix ++ (ds ++ rest)) i ≡ i + length ds
  run_end = rw (drop_at prefix _ i at, digits_len-append ds rest digits, ends, add-zero)

  run_is : slice_range (prefix ++ (ds ++ rest)) i (i + length ds) ≡ ds
  run_is = rw (drop_at prefix _ i at) (take_at ds rest (i + length ds - i) (omega arith))

byte_after : (prefix rest : List ℕ) (i k : ℕ) → length prefix ≡ i → get_or (prefix ++ rest) (i + k) 0 ≡ get_or rest k 0
byte_after prefix rest i k e = rw (← e) (get_or-append-add prefix rest k 0)

byte_at_end : (prefix rest : List ℕ) (i : ℕ) → length prefix ≡ i → get_or (prefix ++ rest) i 0 ≡ get_or rest 0 0
byte_at_end prefix rest i e = rw add-zero at (byte_after prefix rest i 0 e)

-- ---- bytes that end a numeral

record IsStop (after : List ℕ) : Type 0 where
  digits : digits_len after ≡ 0
  point : eqb (get_or after 0 0) 46 ≡ false
  lower : eqb (get_or after 0 0) 101 ≡ false
  upper : eqb (get_or after 0 0) 69 ≡ false

stop_is : (after : List ℕ) → Stops after → IsStop after
stop_is [] h = record { digits = refl; point = refl; lower = refl; upper = refl }
stop_is (b ∷ bs) h = record { digits = rw h.0; point = ne_eqb b 46 h.1; lower = ne_eqb b 101 h.2; upper = ne_eqb b 69 h.3 }

-- ---- the exponent, from byte `b` on; the numeral has `n` bytes

abbrev Tail : List ℕ → ℕ → ℕ → Bool → List ℕ → Type 0
Tail bs b n negative exponent =
    ((has_exponent bs b && eqb (get_or bs (b + 1) 0) 45) ≡ negative)
    × (cond (has_exponent bs b) (slice_range bs (exponent_start bs b) (digits_end bs (exponent_start bs b))) [] ≡ exponent)
    × (cond (has_exponent bs b) (digits_end bs (exponent_start bs b)) b ≡ n)

tail_of : (bs : List ℕ) (b c n : ℕ) (negative : Bool) (exponent : List ℕ) → has_exponent bs b ≡ true → exponent_start bs b ≡ c → eqb (get_or bs (b + 1) 0) 45 ≡ negative
    → digits_end bs c ≡ c + length exponent → slice_range bs c (c + length exponent) ≡ exponent → c + length exponent ≡ n → Tail bs b n negative exponent
tail_of bs b c n negative exponent has start sign end is long = (rw has sign, rw (has, start, end) is, rw (has, start, end) long)

tail : (prefix : List ℕ) (b n : ℕ) (negative : Bool) (exponent after : List ℕ) → IsStop after → length prefix ≡ b → b + length (exponent_text negative exponent) ≡ n → AllDigits 10 exponent → (exponent ≡ [] → negative ≡ false)
    → Tail (prefix ++ (exponent_text negative exponent ++ after)) b n negative exponent
tail prefix b n negative [] after stop at long digits none =
    let has : has_exponent (prefix ++ after) b ≡ false = rw (byte_at_end prefix after b at, stop.lower, stop.upper) in
    (rw has (sym (none refl)), rw has, rw has (omega arith))
tail prefix b n false (d ∷ ds) after stop at long digits none =
    let r = digit_from_value d digits.0 in
    let bs = prefix ++ 101 ∷ d ∷ (ds ++ after) in
    let next : get_or bs (b + 1) 0 ≡ d = byte_after prefix _ b 1 at in
    let start : exponent_start bs b ≡ b + 1 = rw (next, ne_eqb d 45 (λ e. omega arith), ne_eqb d 43 (λ e. omega arith)) in
    let cut : (prefix ++ 101 ∷ []) ++ ((d ∷ ds) ++ after) ≡ bs = append_assoc prefix (101 ∷ []) ((d ∷ ds) ++ after) in
    let far : length (prefix ++ 101 ∷ []) ≡ b + 1 = omega (arith, length-append prefix (101 ∷ [])) in
    tail_of bs b (b + 1) n false (d ∷ ds) (rw (start, next, byte_at_end prefix _ b at) (is_digit d r.0 r.1)) start (rw next (ne_eqb d 45 (λ e. omega arith)))
    (rw cut at (run_end _ (d ∷ ds) after (b + 1) far digits stop.digits)) (rw cut at (run_is _ (d ∷ ds) after (b + 1) far digits stop.digits)) (omega arith)
tail prefix b n true (d ∷ ds) after stop at long digits none =
    let r = digit_from_value d digits.0 in
    let bs = prefix ++ 101 ∷ 45 ∷ d ∷ (ds ++ after) in
    let next : get_or bs (b + 1) 0 ≡ 45 = byte_after prefix _ b 1 at in
    let start : exponent_start bs b ≡ b + 2 = rw next in
    let cut : (prefix ++ 101 ∷ 45 ∷ []) ++ ((d ∷ ds) ++ after) ≡ bs = append_assoc prefix (101 ∷ 45 ∷ []) ((d ∷ ds) ++ after) in
    let far : length (prefix ++ 101 ∷ 45 ∷ []) ≡ b + 2 = omega (arith, length-append prefix (101 ∷ 45 ∷ [])) in
    tail_of bs b (b + 2) n true (d ∷ ds) (rw (start, byte_after prefix _ b 2 at, byte_at_end prefix _ b at) (is_digit d r.0 r.1)) start (rw next)
    (rw cut at (run_end _ (d ∷ ds) after (b + 2) far digits stop.digits)) (rw cut at (run_is _ (d ∷ ds) after (b + 2) far digits stop.digits)) (omega arith)

exponent_ends : (negative : Bool) (exponent after : List ℕ) → IsStop after
    → (digits_len (exponent_text negative exponent ++ after) ≡ 0) × (eqb (get_or (exponent_text negative exponent ++ after) 0 0) 46 ≡ false)
exponent_ends negative [] after stop = (stop.digits, stop.point)
exponent_ends negative (d ∷ ds) after stop = (refl, refl)

-- ---- all parts

scan_is : (bs whole fraction exponent : List ℕ) (point negative : Bool) (a b n : ℕ) → digits_end bs 0 ≡ a → eqb (get_or bs a 0) 46 ≡ point → cond point (digits_end bs (a + 1)) a ≡ b
    → slice_range bs 0 a ≡ whole → cond point (slice_range bs (a + 1) b) [] ≡ fraction → Tail bs b n negative exponent
    → scan_numeral bs ≡ record { whole = whole; point = point; fraction = fraction; exponent_negative = negative; exponent = exponent; len = n }
unfolding scan_numeral
scan_is bs whole fraction exponent point negative a b n ea ep eb ew ef t =
    rw (ea, ep, eb) (λ i. record { whole = ew i; point = point; fraction = ef i; exponent_negative = t.0 i; exponent = t.1 i; len = t.2 i })

of_parts : (whole fraction exponent after : List ℕ) (point negative : Bool) → IsStop after → AllDigits 10 whole → AllDigits 10 fraction → AllDigits 10 exponent → (point ≡ false → fraction ≡ []) → (exponent ≡ [] → negative ≡ false)
    → scan_numeral (whole ++ (cond point (46 ∷ fraction) [] ++ (exponent_text negative exponent ++ after)))
    ≡ record { whole = whole; point = point; fraction = fraction; exponent_negative = negative; exponent = exponent; len = length (whole ++ (cond point (46 ∷ fraction) [] ++ exponent_text negative exponent)) }
of_parts whole fraction exponent after false negative stop w f e none plain =
    let x = exponent_text negative exponent ++ after in
    let ends = exponent_ends negative exponent after stop in
    let a = 0 + length whole in
    let at : length whole ≡ a = omega arith in
    scan_is _ whole fraction exponent false negative a a _ (run_end [] whole x 0 refl w ends.0) (rw (byte_at_end whole x a at) ends.1) refl (run_is [] whole x 0 refl w ends.0) (sym (none refl))
    (tail whole a _ negative exponent after stop at (omega (arith, length-append whole (exponent_text negative exponent))) e plain)
of_parts whole fraction exponent after true negative stop w f e none plain =
    let x = exponent_text negative exponent ++ after in
    let ends = exponent_ends negative exponent after stop in
    let a = 0 + length whole in
    let at : length whole ≡ a = omega arith in
    let cut : (whole ++ 46 ∷ []) ++ (fraction ++ x) ≡ whole ++ 46 ∷ (fraction ++ x) = append_assoc whole (46 ∷ []) _ in
    let far : length (whole ++ 46 ∷ []) ≡ a + 1 = omega (arith, length-append whole (46 ∷ [])) in
    let prefix : (whole ++ 46 ∷ fraction) ++ x ≡ whole ++ 46 ∷ (fraction ++ x) = append_assoc whole (46 ∷ fraction) x in
    let long : a + 1 + length fraction + length (exponent_text negative exponent) ≡ length (whole ++ 46 ∷ (fraction ++ exponent_text negative exponent)) =
    omega (arith, length-append whole (46 ∷ (fraction ++ exponent_text negative exponent)), length-append fraction (exponent_text negative exponent)) in
    scan_is _ whole fraction exponent true negative a (a + 1 + length fraction) _ (run_end [] whole _ 0 refl w refl) (rw (byte_at_end whole _ a at)) (rw cut at (run_end _ fraction x (a + 1) far f ends.0))
    (run_is [] whole _ 0 refl w refl) (rw cut at (run_is _ fraction x (a + 1) far f ends.0))
    (rw prefix at (tail (whole ++ 46 ∷ fraction) (a + 1 + length fraction) _ negative exponent after stop (omega (arith, length-append whole (46 ∷ fraction))) long e plain))

regrouped : (p : Parts) (after : List ℕ) → text_of p ++ after ≡ p.whole ++ (cond p.point (46 ∷ p.fraction) [] ++ (exponent_text p.exponent_negative p.exponent ++ after))
regrouped p after =
    append_assoc p.whole _ after
    ∙ ap (λ t. p.whole ++ t) (append_assoc (cond p.point (46 ∷ p.fraction) []) (exponent_text p.exponent_negative p.exponent) after)

-- Scanning the text of a numeral gives its parts.
pub scan_before : (p : Parts) (after : List ℕ) → IsWellFormed p → Stops after → scan_numeral (text_of p ++ after) ≡ p
scan_before p after w stop =
    ap scan_numeral (regrouped p after)
    ∙ of_parts p.whole p.fraction p.exponent after p.point p.exponent_negative (stop_is after stop) w.whole_digits w.fraction_digits w.exponent_digits w.no_point w.no_exponent
    ∙ (λ i. record p { len = sym w.len_is i })

-- ---- no decimal

run_over : (p : ℕ → Bool) (xs ys : List ℕ) → list_all p xs ≡ true → prefix_len p (xs ++ ys) ≡ length xs + prefix_len p ys
run_over p [] ys all = omega arith
run_over p (x ∷ xs) ys all = let both = and_parts (p x) (list_all p xs) all in rw both.0 (omega (arith, run_over p xs ys both.1))

-- If neither a point nor an exponent follows the digits, then there is no decimal. The number of
-- digits may be 0.
no_decimal : (bs : List ℕ) (a : ℕ) → digits_end bs 0 ≡ a → IsStop (drop a bs) → is_decimal (scan_numeral bs) ≡ false
unfolding scan_numeral
no_decimal bs a end stop =
    let next : get_or (drop a bs) 0 0 ≡ get_or bs a 0 = rw add-zero at (get_or-drop a bs 0 0) in
    let point : eqb (get_or bs a 0) 46 ≡ false = rw next at stop.point in
    let lower : eqb (get_or bs a 0) 101 ≡ false = rw next at stop.lower in
    let upper : eqb (get_or bs a 0) 69 ≡ false = rw next at stop.upper in
    let has : has_exponent bs a ≡ false = rw (lower, upper) in
    rw (end, point, has) (and_right _ _ refl)

no_decimal_in : (ds after : List ℕ) → list_all is_ascii_digit ds ≡ true → Stops after → is_decimal (scan_numeral (ds ++ after)) ≡ false
no_decimal_in ds after digits h =
    let stop = stop_is after h in
    let end : digits_end (ds ++ after) 0 ≡ length ds = omega (arith, run_over is_ascii_digit ds after digits, stop.digits) in
    no_decimal (ds ++ after) (length ds) end (subst IsStop (sym (drop_at ds after (length ds) refl)) stop)

-- If the bytes after an integer continue no decimal, then the integer is not a decimal.
pub integer_no_decimal : (negative : Bool) (ds after : List ℕ) → list_all is_ascii_digit ds ≡ true → 0 < length ds → Stops after → decimal_at (sign_text negative ++ (ds ++ after)) ≡ None
integer_no_decimal negative [] after digits some h = absurd (omega arith)
integer_no_decimal true (d ∷ ds) after digits some h = rw (no_decimal_in (d ∷ ds) after digits h)
integer_no_decimal false (d ∷ ds) after digits some h =
    let minus : eqb d 45 ≡ false = ne_eqb d 45 (λ e. true≢false (sym (and_parts _ _ digits).0 ∙ ap is_ascii_digit e)) in
    rw (minus, no_decimal_in (d ∷ ds) after digits h)

-- No decimal begins with a byte that is neither a digit nor a minus.
pub other_no_decimal : (b : ℕ) (bs : List ℕ) → is_ascii_digit b ≡ false → b ≢ 45 → decimal_at (b ∷ bs) ≡ None
unfolding scan_numeral
other_no_decimal b bs digit minus = rw (ne_eqb b 45 minus, digit)

-- ---- the length of a decimal

at_least : (test : Bool) (x y n : ℕ) → n ≤ x → n ≤ y → n ≤ cond test x y
at_least test x y n one other = cond_both test x y (λ m. n ≤ m) (λ e. one) (λ e. other)

whole_within : (bs : List ℕ) → length (scan_numeral bs).whole ≤ (scan_numeral bs).len
unfolding scan_numeral
whole_within bs =
    let a = digits_end bs 0 in
    let b = cond (eqb (get_or bs a 0) 46) (digits_end bs (a + 1)) a in
    let c = exponent_start bs b in
    let whole : length (slice_range bs 0 a) ≤ a = omega (arith, length-take (a - 0) (drop 0 bs)) in
    let ab : a ≤ b = at_least (eqb (get_or bs a 0) 46) (digits_end bs (a + 1)) a a (omega arith) (omega arith) in
    let bc : b ≤ c = at_least (eqb (get_or bs (b + 1) 0) 45 || eqb (get_or bs (b + 1) 0) 43) (b + 2) (b + 1) b (omega arith) (omega arith) in
    at_least (has_exponent bs b) (digits_end bs c) b (length (slice_range bs 0 a)) (omega arith) (omega arith)

abbrev len_of : Option (ℕ × ℕ) → ℕ
len_of None = 0
len_of (Some decimal) = decimal.1

pub decimal_long : (text : List ℕ) (bits len : ℕ) → decimal_at text ≡ Some (bits, len) → 0 < len
decimal_long text bits len e = elim (cases_Bool (is_decimal (numeral_in text))) [
  | inr fails ↦ absurd (let h : None ≡ Some (bits, len) = rw fails at e in cc)
  | inl is ↦
      let same : minus_len text + (numeral_in text).len ≡ len = ap len_of (rw is at e) in
      let some = ltb-true 0 (length (numeral_in text).whole) (and_parts _ _ is).0 in
      omega (arith, whole_within (drop (minus_len text) text))
]

-- The lexer finds exactly the character at the start of the text.
use Rattle.std.proofs.Common.{◌≡◌, ◌⊎◌, ℕ, zero, suc, ◌+◌, ◌-◌, ◌<◌, ◌≤◌, Bool, true, false, ◌&&◌, ◌||◌, cond, eqb, leb, List, [], ◌∷◌, ◌++◌, length, map, take, drop, get_or, Option, Some, None, is_some, Ok, Err, refl, sym, ap, subst, ◌∙◌, arith, inl, inr, append_assoc, length-append}
use Rattle.std.specs.List.{list_all, flat_map, prefix_len, AllByRecursion}
use Rattle.std.specs.Char.{is_ascii_digit, is_ascii_hexdigit}
use Rattle.std.proofs.lemmas.Bool.{eqb-true, eqb-false, ne_eqb, and_parts, and_from, or_parts, leb-true, le-leb, agree_below_at}
use Rattle.std.proofs.lemmas.List.{drop_at, drop_all, drop_more, drop-drop, length-drop, flat_map_more, map_push, append-nil, take-append-drop}
use Rattle.std.proofs.lemmas.List.Folds.{length-prefix_len}
use Rattle.std.proofs.lemmas.Option.{cond_some}
use Rattle.types_lex.specs.declared.lexeme.LexemeKind.TheVariants as kinds
use Rattle.types_lex.specs.declared.lexeme.LexFault.TheVariants as faults
use Rattle.types_lex.specs.declared.found_lexeme.FoundLexeme.{FoundLexeme}
use Rattle.types_lex.specs.Lexeme.{is_plain, Quoted, form_bytes, number_in, CharForm, Plain, Named, Decimal, Hexadecimal, char_bytes, char_value, named_char, IsCharForm}
use Rattle.types_lex.specs.Lexer.{hexadecimal_at, decimal_at, escape_at, char_at, char_found, chars_of, ended_string, string_at, TakesPlain}

-- If the result of a test is known, then one branch of the conditional is the value.
pub chosen : {A : Type 0} (b : Bool) (x y z : A) → cond b x y ≡ z → ((b ≡ true) × (x ≡ z)) ⊎ ((b ≡ false) × (y ≡ z))
chosen true x y z e = inl (refl, e)
chosen false x y z e = inr (refl, e)

pub no_value : {A : Type 0} {x : A} → None ≡ Some x → ⊥
no_value e = cc

pub some_is : {A : Type 0} {x y : A} → Some x ≡ Some y → x ≡ y
some_is e = cc

-- The character form is valid, and the text begins with the bytes of the form.
abbrev pub IsCharAt : ℕ → List ℕ → CharForm → Type 0
IsCharAt quote text c = IsCharForm quote c × (text ≡ char_bytes c ++ drop (length (char_bytes c)) text)

hexadecimal_at-is : (quote : ℕ) (bs : List ℕ) (c : CharForm) → hexadecimal_at bs ≡ Some c → IsCharAt quote (92 ∷ 120 ∷ bs) c
unfolding hexadecimal_at
hexadecimal_at-is quote [] c e = absurd (no_value e)
hexadecimal_at-is quote (h ∷ []) c e = absurd (no_value e)
hexadecimal_at-is quote (h ∷ l ∷ bs) c e =
    let p = cond_some (is_ascii_hexdigit h && is_ascii_hexdigit l) (Hexadecimal h l) c e in
    let both = and_parts (is_ascii_hexdigit h) (is_ascii_hexdigit l) p.0 in
    subst (IsCharAt quote (92 ∷ 120 ∷ h ∷ l ∷ bs)) p.1 (and_from _ _ both.0 (and_from _ _ both.1 refl), refl)

decimal_at-is : (quote : ℕ) (bs : List ℕ) (c : CharForm) → decimal_at bs ≡ Some c → IsCharAt quote (92 ∷ bs) c
unfolding decimal_at
decimal_at-is quote [] c e = absurd (no_value e)
decimal_at-is quote (d ∷ []) c e = absurd (no_value e)
decimal_at-is quote (d ∷ e ∷ []) c is = absurd (no_value is)
decimal_at-is quote (d ∷ e ∷ f ∷ bs) c is =
    let p = cond_some ((is_ascii_digit d && is_ascii_digit e && is_ascii_digit f) && leb (number_in 10 (d ∷ e ∷ f ∷ [])) 255) (Decimal d e f) c is in
    let range = and_parts (is_ascii_digit d && is_ascii_digit e && is_ascii_digit f) (leb (number_in 10 (d ∷ e ∷ f ∷ [])) 255) p.0 in
    let two = and_parts (is_ascii_digit d && is_ascii_digit e) (is_ascii_digit f) range.0 in
    let one = and_parts (is_ascii_digit d) (is_ascii_digit e) two.0 in
    subst (IsCharAt quote (92 ∷ d ∷ e ∷ f ∷ bs)) p.1 ((and_from _ _ one.0 (and_from _ _ one.1 (and_from _ _ two.1 refl)), leb-true (number_in 10 (d ∷ e ∷ f ∷ [])) 255 range.1), refl)

escape_at-is : (quote : ℕ) (bs : List ℕ) (c : CharForm) → escape_at bs ≡ Some c → IsCharAt quote (92 ∷ bs) c
unfolding escape_at
escape_at-is quote [] c e = absurd (no_value e)
escape_at-is quote (b ∷ bs) c e =
    elim (chosen (is_some (named_char b)) (Some (Named b)) (cond (eqb b 120) (hexadecimal_at bs) (decimal_at (b ∷ bs))) (Some c) e) [
      | inl h ↦ let is : Named b ≡ c = cc in subst (IsCharAt quote (92 ∷ b ∷ bs)) is (h.0, refl)
      | inr h ↦ elim (chosen (eqb b 120) (hexadecimal_at bs) (decimal_at (b ∷ bs)) (Some c) h.1) [
        | inl g ↦ rw (eqb-true b 120 g.0) (hexadecimal_at-is quote bs c g.1)
        | inr g ↦ decimal_at-is quote (b ∷ bs) c g.1
      ]
    ]

pub char_at-is : (quote : ℕ) (text : List ℕ) (c : CharForm) → char_at quote text ≡ Some c → IsCharAt quote text c
unfolding char_at
char_at-is quote [] c e = absurd (no_value e)
char_at-is quote (b ∷ bs) c e =
    elim (chosen (eqb b 92) (escape_at bs) (cond (eqb b quote || eqb b 10) None (Some (Plain b))) (Some c) e) [
      | inl h ↦ rw (eqb-true b 92 h.0) (escape_at-is quote bs c h.1)
      | inr h ↦ elim (chosen (eqb b quote || eqb b 10) None (Some (Plain b)) (Some c) h.1) [
        | inl g ↦ absurd (no_value g.1)
        | inr g ↦
            let is : Plain b ≡ c = cc in
            let apart = or_parts (eqb b quote) (eqb b 10) g.0 in
            subst (IsCharAt quote (b ∷ bs)) is ((eqb-false b quote apart.0, eqb-false b 92 h.0, eqb-false b 10 apart.1), refl)
      ]
    ]

-- ---- a valid form is found

digits_apart : (d : ℕ) → is_ascii_digit d ≡ true → (is_some (named_char d) ≡ false) × (eqb d 120 ≡ false)
digits_apart d e =
    let below : d ≤ 57 = leb-true d 57 (and_parts (leb 48 d) (leb d 57) e).1 in
    let none = agree_below_at (λ b. is_ascii_digit b && is_some (named_char b)) (λ b. false) 58 d refl (omega arith) in
    (rw e at none, ne_eqb d 120 (λ is. absurd (omega arith)))

escape_at-named : (b : ℕ) (more : List ℕ) → is_some (named_char b) ≡ true → escape_at (b ∷ more) ≡ Some (Named b)
unfolding escape_at
escape_at-named b more is = rw is refl

escape_at-decimal : (d e f : ℕ) (more : List ℕ) → list_all is_ascii_digit (d ∷ e ∷ f ∷ []) ≡ true → number_in 10 (d ∷ e ∷ f ∷ []) ≤ 255 → escape_at (d ∷ e ∷ f ∷ more) ≡ Some (Decimal d e f)
unfolding escape_at decimal_at
escape_at-decimal d e f more digits le =
    let one = and_parts (is_ascii_digit d) _ digits in
    let two = and_parts (is_ascii_digit e) _ one.1 in
    let three = and_parts (is_ascii_digit f) _ two.1 in
    let apart = digits_apart d one.0 in
    rw (apart.0, apart.1, one.0, two.0, three.0, le-leb (number_in 10 (d ∷ e ∷ f ∷ [])) 255 le) refl

escape_at-hexadecimal : (h l : ℕ) (more : List ℕ) → list_all is_ascii_hexdigit (h ∷ l ∷ []) ≡ true → escape_at (120 ∷ h ∷ l ∷ more) ≡ Some (Hexadecimal h l)
unfolding escape_at hexadecimal_at
escape_at-hexadecimal h l more digits =
    let one = and_parts (is_ascii_hexdigit h) _ digits in
    let two = and_parts (is_ascii_hexdigit l) _ one.1 in
    rw (one.0, two.0) refl

pub char_at-form : (quote : ℕ) (c : CharForm) (more : List ℕ) → IsCharForm quote c → char_at quote (char_bytes c ++ more) ≡ Some c
unfolding char_at
char_at-form quote (Plain b) more is = rw (ne_eqb b 92 is.1, ne_eqb b quote is.0, ne_eqb b 10 is.2) refl
char_at-form quote (Named b) more is = escape_at-named b more is
char_at-form quote (Decimal d e f) more is = escape_at-decimal d e f more is.0 is.1
char_at-form quote (Hexadecimal h l) more is = escape_at-hexadecimal h l more is

-- ---- strings

abbrev pub text_of : List ℕ → ℕ → FoundLexeme
text_of value len = record { kind = kinds.Text value; len = len }

pub char_bytes-positive : (c : CharForm) → 0 < length (char_bytes c)
char_bytes-positive (Plain b) = omega arith
char_bytes-positive (Named b) = omega arith
char_bytes-positive (Decimal d e f) = omega arith
char_bytes-positive (Hexadecimal h l) = omega arith

-- The characters of the text up to position `at` are valid and have the value `value`.
pub record ReadsChars (text : List ℕ) (at : ℕ) (value : List ℕ) : Type 0 where
  pub chars : List CharForm
  pub each : AllByRecursion (IsCharForm 34) chars
  pub is : text ≡ flat_map char_bytes chars ++ drop at text
  pub long : at ≡ length (flat_map char_bytes chars)
  pub inside : at ≤ length text
  pub values : value ≡ map char_value chars

-- If a byte and a length were found, then the character at the start of the text has this byte and
-- length.
pub found_char : (o : Option CharForm) (value len : ℕ) → Some (value, len) ≡ char_found o → (c : CharForm) × (o ≡ Some c) × (value ≡ char_value c) × (len ≡ length (char_bytes c))
found_char None value len e = absurd (no_value (sym e))
found_char (Some c) value len e =
    let same = some_is e in
    (c, refl, ap (λ (p : ℕ × ℕ). p.0) same, ap (λ (p : ℕ × ℕ). p.1) same)

pub no_char : (o : Option CharForm) → None ≡ char_found o → o ≡ None
no_char None e = refl
no_char (Some c) e = absurd (no_value e)

each_push : (cs : List CharForm) (c : CharForm) → AllByRecursion (IsCharForm 34) cs → IsCharForm 34 c → AllByRecursion (IsCharForm 34) (cs ++ c ∷ [])
each_push [] c all is = (is, tt)
each_push (d ∷ cs) c all is = (all.0, each_push cs c all.1 is)

pub reads_more : (text : List ℕ) (at : ℕ) (value : List ℕ) (byte len : ℕ) → ReadsChars text at value → Some (byte, len) ≡ char_found (char_at 34 (drop at text)) → ReadsChars text (at + len) (value ++ byte ∷ [])
reads_more text at value byte len r e =
    let f = found_char (char_at 34 (drop at text)) byte len e in
    let c = f.0 in
    let a = char_at-is 34 (drop at text) c f.1 in
    let rest : drop (length (char_bytes c)) (drop at text) ≡ drop (at + len) text = drop-drop (length (char_bytes c)) at text ∙ ap (λ n. drop (at + n) text) (sym f.3) in
    let bytes : flat_map char_bytes (r.chars ++ c ∷ []) ≡ flat_map char_bytes r.chars ++ char_bytes c = sym (flat_map_more char_bytes [] r.chars c) in
    let here : drop at text ≡ char_bytes c ++ drop (at + len) text = a.1 ∙ ap (λ t. char_bytes c ++ t) rest in
    let long : at + len ≡ length (flat_map char_bytes (r.chars ++ c ∷ [])) = rw (bytes, length-append) (omega (arith, r.long, f.3)) in
    record {
      chars = r.chars ++ c ∷ [];
      each = each_push r.chars c r.each a.0;
      is = r.is ∙ ap (λ t. flat_map char_bytes r.chars ++ t) here ∙ sym (append_assoc (flat_map char_bytes r.chars) (char_bytes c) (drop (at + len) text)) ∙ ap (λ t. t ++ drop (at + len) text) (sym bytes);
      long = long;
      inside = omega (arith, f.3, ap length here, length-append (char_bytes c) (drop (at + len) text), length-drop at text, length-drop (at + len) text, r.inside, char_bytes-positive c);
      values = (λ i. r.values i ++ f.2 i ∷ []) ∙ sym (map_push char_value r.chars c);
    }

-- A byte that represents itself is a valid character.
plain_form : (b : ℕ) → is_plain b ≡ true → IsCharForm 34 (Plain b)
plain_form b e =
    elim (chosen (eqb b 34 || eqb b 92 || eqb b 10) false true true e) [
      | inl h ↦ absurd cc
      | inr h ↦
          let outer = or_parts (eqb b 34 || eqb b 92) (eqb b 10) h.0 in
          let inner = or_parts (eqb b 34) (eqb b 92) outer.0 in
          (eqb-false b 34 inner.0, eqb-false b 92 inner.1, eqb-false b 10 outer.1)
    ]

reads_run :
    (run : List ℕ) (text : List ℕ) (at : ℕ) (value rest : List ℕ) → ReadsChars text at value → list_all is_plain run ≡ true → drop at text ≡ run ++ rest
    → ReadsChars text (at + length run) (value ++ run)
reads_run [] text at value rest r all is =
    let same : value ≡ value ++ [] = sym (append-nil value) in
    let here : at ≡ at + 0 = omega arith in
    subst (λ v. ReadsChars text (at + 0) v) same (subst (λ n. ReadsChars text n value) here r)
reads_run (b ∷ run) text at value rest r all is =
    let parts = and_parts (is_plain b) (list_all is_plain run) all in
    let found : char_at 34 (drop at text) ≡ Some (Plain b) = ap (char_at 34) is ∙ char_at-form 34 (Plain b) (run ++ rest) (plain_form b parts.0) in
    let one = reads_more text at value b 1 r (sym (ap char_found found)) in
    let behind : drop (at + 1) text ≡ run ++ rest = sym (drop-drop 1 at text) ∙ ap (λ (bs : List ℕ). drop 1 bs) is in
    let more = reads_run run text (at + 1) (value ++ b ∷ []) rest one parts.1 behind in
    let long : at + 1 + length run ≡ at + suc (length run) = omega arith in
    subst (λ n. ReadsChars text n (value ++ (b ∷ run))) long
    (subst (λ v. ReadsChars text (at + 1 + length run) v) (append_assoc value (b ∷ []) run) more)

all_of_prefix : (p : ℕ → Bool) (bs : List ℕ) → list_all p (take (prefix_len p bs) bs) ≡ true
all_of_prefix p [] = refl
all_of_prefix p (b ∷ bs) = by_first (p b) refl (all_of_prefix p bs) where
  by_first :
      (first : Bool) → p b ≡ first → list_all p (take (prefix_len p bs) bs) ≡ true
      → list_all p (take (prefix_len p (b ∷ bs)) (b ∷ bs)) ≡ true
  by_first true e rest =
      let one_more : 1 + prefix_len p bs ≡ suc (prefix_len p bs) = omega arith in
      rw (e, one_more) (and_from (p b) (list_all p (take (prefix_len p bs) bs)) e rest)
  by_first false e rest = rw e refl

-- Before the first character, the value is empty.
pub reads_none : (text : List ℕ) → ReadsChars text 0 []
reads_none text =
    record { chars = []; each = tt; is = refl; long = refl; inside = omega arith; values = refl }

pub reads_plain : (text : List ℕ) (at : ℕ) (value : List ℕ) (end : ℕ) (new : List ℕ) → ReadsChars text at value → TakesPlain text at value end new → ReadsChars text end new
reads_plain text at value end new r t =
    let count = prefix_len is_plain (drop at text) in
    let run = take count (drop at text) in
    let long : at + length run ≡ end = omega (arith, t.end_is, length-prefix_len is_plain (drop at text)) in
    subst (λ v. ReadsChars text end v) (sym t.new_is)
    (subst (λ n. ReadsChars text n (value ++ run)) long
    (reads_run run text at value (drop count (drop at text)) r (all_of_prefix is_plain (drop at text)) (sym (take-append-drop count (drop at text)))))

pub plain_onward : (text : List ℕ) (at : ℕ) (value : List ℕ) (end : ℕ) (new : List ℕ) → TakesPlain text at value end new → at ≤ end
plain_onward text at value end new t = omega (arith, t.end_is)

-- If a character is read, then the loop advances by at least one byte and the characters stay
-- valid.
pub reads_further : (text : List ℕ) (at : ℕ) (value : List ℕ) (byte len : ℕ) → ReadsChars text at value → Some (byte, len) ≡ char_found (char_at 34 (drop at text)) → length text - (at + len) < length text - at
reads_further text at value byte len r e =
    let f = found_char (char_at 34 (drop at text)) byte len e in
    omega (arith, (reads_more text at value byte len r e).inside, f.3, char_bytes-positive f.0)

-- If a text begins with valid characters, then the lexer reads exactly these characters.
pub chars_of-forms : (n : ℕ) (cs : List CharForm) (rest : List ℕ) → AllByRecursion (IsCharForm 34) cs → char_at 34 rest ≡ None → length (flat_map char_bytes cs) ≤ n → chars_of n (flat_map char_bytes cs ++ rest) ≡ (cs, rest)
unfolding chars_of
chars_of-forms zero [] rest each none le = refl
chars_of-forms (suc n) [] rest each none le = rw none refl
chars_of-forms zero (c ∷ cs) rest each none le = absurd (omega (arith, length-append (char_bytes c) (flat_map char_bytes cs), char_bytes-positive c))
chars_of-forms (suc n) (c ∷ cs) rest each none le =
    let regrouped = append_assoc (char_bytes c) (flat_map char_bytes cs) rest in
    let shorter : length (flat_map char_bytes cs) ≤ n = omega (arith, length-append (char_bytes c) (flat_map char_bytes cs), char_bytes-positive c) in
    let others = chars_of-forms n cs rest each.1 none shorter in
    ap (chars_of (suc n)) regrouped
    ∙ rw (char_at-form 34 c (flat_map char_bytes cs ++ rest) each.0, drop_at (char_bytes c) (flat_map char_bytes cs ++ rest) (length (char_bytes c)) refl, others) refl

module _ (text : List ℕ) (at : ℕ) (value : List ℕ) (r : ReadsChars text at value) (none : char_at 34 (drop at text) ≡ None) where
  pub string_read : chars_of (length text) text ≡ (r.chars, drop at text)
  string_read =
      let fits : length (flat_map char_bytes r.chars) ≤ length text = omega (arith, r.long, r.inside) in
      ap (chars_of (length text)) r.is ∙ chars_of-forms (length text) r.chars (drop at text) r.each none fits

  pub string_open : length text ≤ at → string_at text ≡ Err (faults.OpenString 0)
  unfolding string_at
  string_open past = rw (string_read, drop_all at text past) refl

  string_stops : at < length text → string_at text ≡ ended_string r.chars (get_or text at 0 ∷ drop (at + 1) text)
  unfolding string_at
  string_stops inside = rw (string_read, drop_more text at 0 inside) refl

  pub string_closes : at < length text → get_or text at 0 ≡ 34 → string_at text ≡ Ok (text_of value (at + 2))
  string_closes inside quote =
      let long : length (form_bytes (Quoted r.chars)) ≡ at + 2 = omega (arith, r.long, length-append (flat_map char_bytes r.chars) (34 ∷ [])) in
      string_stops inside ∙ rw (quote, ← r.values, long) refl

  pub string_escapes : at < length text → get_or text at 0 ≡ 92 → string_at text ≡ Err (faults.BadByte (at + 2))
  string_escapes inside backslash = string_stops inside ∙ rw (backslash, r.long) refl

  pub string_breaks : at < length text → (get_or text at 0 ≡ 34 → ⊥) → (get_or text at 0 ≡ 92 → ⊥) → string_at text ≡ Err (faults.OpenString 0)
  string_breaks inside quote backslash = string_stops inside ∙ rw (ne_eqb (get_or text at 0) 34 quote, ne_eqb (get_or text at 0) 92 backslash) refl

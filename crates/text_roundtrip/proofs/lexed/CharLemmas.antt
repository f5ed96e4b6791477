-- The escaped form of a byte is one character of the lexer, whose value is the byte. A string is
-- therefore one lexeme.
use Rattle.std.proofs.Common.{ℕ, ◌+◌, ◌≡◌, ◌≢◌, ◌∙◌, ◌<◌, ◌≤◌, ◌⊎◌, suc, inl, inr, ⊎_elim, true, List, [], ◌∷◌, ◌++◌, refl, sym, ap, subst, arith}
use Rattle.std.proofs.lemmas.Bool.{cases_order, cases_lt}
use Rattle.std.proofs.lemmas.Bool.Decides.{nat_tests}
use Rattle.std.specs.Prelude.{◌/◌, ◌%◌, IsSome, map}
use Rattle.std.specs.Char.{is_ascii_digit}
use Rattle.std.specs.List.{flat_map, AllByRecursion}
use Rattle.base_data.specs.model.Bytes.{AreBytes}
use Rattle.types_lex.specs.declared.lexeme.LexemeKind.TheVariants as kinds
use Rattle.types_lex.specs.Lexeme.{CharForm, Plain, Named, Decimal, char_bytes, char_value, named_char, value_of_digit, IsCharForm}
use Rattle.text_print.specs.leaves.LeafTexts.{escaped, char_text, string_text}
use Rattle.text_roundtrip.specs.lexed.Lexed.{IsLexed}
use Rattle.text_roundtrip.proofs.lexed.LexedLemmas.{lexed_at, lexed_quoted, lexed_character}

record IsChar (quote b : ℕ) : Type 0 where
  form : CharForm
  is : IsCharForm quote form
  bytes : char_bytes form ≡ escaped quote b
  value : char_value form ≡ b

abbrev IsQuote : ℕ → Type 0
IsQuote quote = (quote ≡ 34) ⊎ (quote ≡ 39)

-- ---- a backslash and one byte

named : (quote b c : ℕ) → IsSome (named_char c) → 92 ∷ c ∷ [] ≡ escaped quote b → char_value (Named c) ≡ b → IsChar quote b
named quote b c is bytes value = record { form = Named c; is = is; bytes = bytes; value = value }

letter : (b c : ℕ) → 92 ∷ c ∷ [] ≡ escaped 34 b → 92 ∷ c ∷ [] ≡ escaped 39 b → IsSome (named_char c) → char_value (Named c) ≡ b →
    (quote other : ℕ) → IsQuote quote → other ≡ b → IsChar quote other
letter b c one two is value quote other q e = subst (IsChar quote) (sym e) (⊎_elim
    (λ h. subst (λ k. IsChar k b) (sym h) (named 34 b c is one value))
    (λ h. subst (λ k. IsChar k b) (sym h) (named 39 b c is two value)) q)

quoted : (quote : ℕ) → IsQuote quote → IsChar quote quote
quoted quote q = ⊎_elim
    (λ h. subst (λ k. IsChar k k) (sym h) (named 34 34 34 refl refl refl))
    (λ h. subst (λ k. IsChar k k) (sym h) (named 39 39 39 refl refl refl)) q

-- ---- a plain byte, and three digits

plain : (quote b : ℕ) → 32 ≤ b → b ≤ 126 → b ≢ quote → b ≢ 92 → IsChar quote b
plain quote b low high other slash = record {
  form = Plain b;
  is = (other, slash, omega arith);
  bytes = grind (arith, nat_tests);
  value = refl;
}

pub digit_value : (d : ℕ) → d < 10 → value_of_digit (48 + d) ≡ d
digit_value d h = grind (arith, nat_tests)

pub digit_test : (d : ℕ) → d < 10 → is_ascii_digit (48 + d) ≡ true
digit_test d h = grind (arith, nat_tests)

digits : (quote b : ℕ) → b < 256 → (b < 32) ⊎ (126 < b) → b ≢ quote → b ≢ 92 → b ≢ 10 → b ≢ 9 → b ≢ 8 → b ≢ 13 → IsChar quote b
digits quote b low out other slash ten nine eight thirteen =
    let first : b / 100 < 10 = omega arith in
    let second : b / 10 % 10 < 10 = omega arith in
    let third : b % 10 < 10 = omega arith in
    record {
      form = Decimal (48 + b / 100) (48 + b / 10 % 10) (48 + b % 10);
      is = (
        rw (digit_test (b / 100) first, digit_test (b / 10 % 10) second, digit_test (b % 10) third) refl,
        rw (digit_value (b / 100) first, digit_value (b / 10 % 10) second, digit_value (b % 10) third) (omega arith),
      );
      bytes = grind (arith, nat_tests);
      value = rw (digit_value (b / 100) first, digit_value (b / 10 % 10) second, digit_value (b % 10) third) (omega arith);
    }

-- ---- each byte

either : {P : Type 0} (a b : ℕ) → (a ≡ b → P) → (a ≢ b → P) → P
either a b same apart = ⊎_elim same (λ u. apart (λ e. ⊎_elim (λ l. absurd (omega arith)) (λ l. absurd (omega arith)) u)) (cases_order a b)

any_char : (quote b : ℕ) → IsQuote quote → b < 256 → IsChar quote b
any_char quote b q low =
    either b 92 (letter 92 92 refl refl refl refl quote b q) (λ slash.
    either b quote (λ e. subst (IsChar quote) (sym e) (quoted quote q)) (λ other.
    either b 10 (letter 10 110 refl refl refl refl quote b q) (λ ten.
    either b 9 (letter 9 116 refl refl refl refl quote b q) (λ nine.
    either b 8 (letter 8 98 refl refl refl refl quote b q) (λ eight.
    either b 13 (letter 13 114 refl refl refl refl quote b q) (λ thirteen.
    ⊎_elim (λ l. digits quote b low (inl l) other slash ten nine eight thirteen)
    (λ l. ⊎_elim (λ m. digits quote b low (inr m) other slash ten nine eight thirteen)
    (λ m. plain quote b l m other slash) (cases_lt 126 b)) (cases_lt b 32)))))))

pub char_lexed : (May : List ℕ → Type 0) (b : ℕ) → b < 256 → IsLexed May (char_text b) (kinds.Character b ∷ [])
char_lexed May b low =
    let c = any_char 39 b (inr refl) low in
    lexed_at (ap (λ bytes. 39 ∷ (bytes ++ 39 ∷ [])) c.bytes) (ap (λ value. kinds.Character value ∷ []) c.value) (lexed_character c.form c.is May)

-- ---- each list of bytes

record AreChars (bytes : List ℕ) : Type 0 where
  forms : List CharForm
  are : AllByRecursion (IsCharForm 34) forms
  written : flat_map char_bytes forms ≡ flat_map (escaped 34) bytes
  values : map char_value forms ≡ bytes

all_chars : (bytes : List ℕ) → AreBytes bytes → AreChars bytes
all_chars [] all = record { forms = []; are = tt; written = refl; values = refl }
all_chars (b ∷ bs) all =
    let c = any_char 34 b (inl refl) (all 0 0 (omega arith)) in
    let rest = all_chars bs (λ k d h. all (suc k) d (omega arith)) in
    record {
      forms = c.form ∷ rest.forms;
      are = (c.is, rest.are);
      written = ap (λ x. x ++ flat_map char_bytes rest.forms) c.bytes ∙ ap (λ x. escaped 34 b ++ x) rest.written;
      values = ap (λ x. x ∷ map char_value rest.forms) c.value ∙ ap (λ x. b ∷ x) rest.values;
    }

pub string_lexed : (May : List ℕ → Type 0) (bytes : List ℕ) → AreBytes bytes → IsLexed May (string_text bytes) (kinds.Text bytes ∷ [])
string_lexed May bytes all =
    let c = all_chars bytes all in
    lexed_at (ap (λ row. 34 ∷ (row ++ 34 ∷ [])) c.written) (ap (λ values. kinds.Text values ∷ []) c.values) (lexed_quoted c.forms c.are May)

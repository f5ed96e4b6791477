-- Among the forms with which a text begins, the form that the lexer finds takes precedence.
use Rattle.std.proofs.Common.{◌≡◌, ◌≢◌, ◌⊎◌, ℕ, suc, ◌+◌, ◌<◌, ◌≤◌, Bool, true, false, ◌&&◌, eqb, ltb, List, [], ◌∷◌, ◌++◌, length, drop, Option, Some, None, refl, sym, ap, ◌∙◌, arith, inl, inr, length-append, append_assoc, leb}
use Rattle.std.specs.List.{list_all, prefix_len, take_while, flat_map, AllByRecursion}
use Rattle.std.specs.Char.{is_ascii_digit, is_ascii_hexdigit, is_ascii_uppercase}
use Rattle.std.proofs.lemmas.Bool.{false≢true, ne_eqb, le-ltb, and_parts, or_left, or_right, agree_below_at, leb-true}
use Rattle.std.proofs.lemmas.List.{append-nil, take_at, drop_at}
use Rattle.std.proofs.lemmas.Option.{cond_some}
use Rattle.types_lex.specs.declared.lexeme.Keyword.{Keyword}
use Rattle.types_lex.specs.declared.lexeme.Keyword.TheVariants as keywords
use Rattle.types_lex.specs.declared.lexeme.Suffix.{Suffix}
use Rattle.types_lex.specs.declared.lexeme.Suffix.TheVariants as suffixes
use Rattle.types_lex.specs.declared.lexeme.Symbol.{Symbol}
use Rattle.types_lex.specs.declared.lexeme.Symbol.TheVariants as symbols
use Rattle.types_lex.specs.Lexeme.{starts_lower, starts_name, is_name_byte, CharForm, char_bytes, IsCharForm, keyword_text, minus_text, suffix_text, symbol_text, LexemeForm, Reserved, Lower, Upper, Tag, Variable, Character, Number, Quoted, Double, Mark, form_bytes, IsForm, is_character}
use Rattle.types_lex.specs.Lexer.{closed_char, character_form, quote_form, variable_form, tag_form, word_form, char_at, string_form, suffix_at, number_form, double_form, pair_symbol, pair_at, single_symbol, or_symbol, symbol_form, form_at}
use Rattle.types_lex.proofs.CharLaws.{no_value, char_at-form, chars_of-forms}
use Rattle.types_lex.proofs.NameLaws.{apart, take_while-more, keyword_of-keyword, keyword_of-other, form_bytes-word, is_character-word}
use Rattle.types_lex.proofs.SymbolLaws.{pair_at-is}

-- Either `form` is a character and `other` is no character, or `form` is longer and neither form is
-- a character.
abbrev pub Beats : LexemeForm → LexemeForm → Type 0
Beats form other =
    ((is_character form ≡ true) × (is_character other ≡ false))
    ⊎ ((is_character form ≡ false) × (is_character other ≡ false) × (length (form_bytes other) < length (form_bytes form)))

abbrev pub Wins : LexemeForm → LexemeForm → Type 0
Wins form other = (form ≡ other) ⊎ Beats form other

-- The lexer finds a form that is `other` or takes precedence over `other`.
abbrev pub IsFound : List ℕ → LexemeForm → Type 0
IsFound text other = (form : LexemeForm) × (form_at text ≡ Some form) × Wins form other

-- ---- names

-- A form that extends as far as its name extends.
module _ (make : List ℕ → LexemeForm) (mark : ℕ) (long : (name : List ℕ) → length (form_bytes (make name)) ≡ mark + length name) (plain : (name : List ℕ) → is_character (make name) ≡ false) where
  goes_on : (name extra : List ℕ) (other : LexemeForm) → make name ≡ other → Wins (make (name ++ extra)) other
  goes_on name [] other is = inl (ap make (append-nil name) ∙ is)
  goes_on name (e ∷ es) other is =
      let longer : length (form_bytes other) < length (form_bytes (make (name ++ e ∷ es))) =
      omega (arith, ap (λ f. length (form_bytes f)) is, long name, long (name ++ e ∷ es), length-append name (e ∷ es)) in
      inr (inr (plain (name ++ e ∷ es), sym (ap is_character is) ∙ plain name, longer))

pub form_at-word : (b : ℕ) (bs : List ℕ) → starts_name b ≡ true → form_at (b ∷ bs) ≡ Some (word_form (take_while is_name_byte (b ∷ bs)))
unfolding form_at
form_at-word b bs first =
    rw (apart starts_name 34 b refl first, apart starts_name 39 b refl first, apart starts_name 96 b refl first, apart starts_name 36 b refl first, apart starts_name 45 b refl first, first) refl

-- If a text begins with a name, then the lexer finds the word or a longer word.
word-found : (b : ℕ) (bs more : List ℕ) (other : LexemeForm) → starts_name b ≡ true → list_all is_name_byte (b ∷ bs) ≡ true → word_form (b ∷ bs) ≡ other → IsFound (b ∷ bs ++ more) other
word-found b bs more other first name is =
    let run : take_while is_name_byte (b ∷ (bs ++ more)) ≡ b ∷ bs ++ take_while is_name_byte more = take_while-more is_name_byte (b ∷ bs) more name in (
      word_form (take_while is_name_byte (b ∷ (bs ++ more))),
      form_at-word b (bs ++ more) first,
      rw run (goes_on word_form 0 (λ w. ap length (form_bytes-word w) ∙ omega arith) is_character-word (b ∷ bs) (take_while is_name_byte more) other is),
    )

pub word_form-lower : (b : ℕ) (bs : List ℕ) → starts_lower b ≡ true → ((k : Keyword) → b ∷ bs ≢ keyword_text k) → word_form (b ∷ bs) ≡ Lower (b ∷ bs)
unfolding word_form
word_form-lower b bs lower free = rw (keyword_of-other (b ∷ bs) free, lower) refl

-- If a byte is an uppercase letter, then the byte starts no lowercase name.
upper_alone : (b : ℕ) → is_ascii_uppercase b ≡ true → starts_lower b ≡ false
upper_alone b upper =
    let below : b ≤ 90 = leb-true b 90 (and_parts (leb 65 b) (leb b 90) upper).1 in
    let none = agree_below_at (λ b. is_ascii_uppercase b && starts_lower b) (λ b. false) 91 b refl (omega arith) in
    rw upper at none

upper_free : (b : ℕ) (bs : List ℕ) → is_ascii_uppercase b ≡ true → (k : Keyword) → b ∷ bs ≢ keyword_text k
upper_free b bs upper keywords.Type e = let first : b ≡ 116 = cc in false≢true (ap is_ascii_uppercase (sym first) ∙ upper)
upper_free b bs upper keywords.And e = let first : b ≡ 97 = cc in false≢true (ap is_ascii_uppercase (sym first) ∙ upper)
upper_free b bs upper keywords.Of e = let first : b ≡ 111 = cc in false≢true (ap is_ascii_uppercase (sym first) ∙ upper)
upper_free b bs upper keywords.Mutable e = let first : b ≡ 109 = cc in false≢true (ap is_ascii_uppercase (sym first) ∙ upper)

pub word_form-upper : (b : ℕ) (bs : List ℕ) → is_ascii_uppercase b ≡ true → word_form (b ∷ bs) ≡ Upper (b ∷ bs)
unfolding word_form
word_form-upper b bs upper = rw (keyword_of-other (b ∷ bs) (upper_free b bs upper), upper_alone b upper) refl

word_form-reserved : (k : Keyword) → word_form (keyword_text k) ≡ Reserved k
unfolding word_form
word_form-reserved k = rw (keyword_of-keyword k) refl

reserved-found : (k : Keyword) (more : List ℕ) → IsFound (keyword_text k ++ more) (Reserved k)
reserved-found keywords.Type more = word-found 116 (121 ∷ 112 ∷ 101 ∷ []) more _ refl refl (word_form-reserved keywords.Type)
reserved-found keywords.And more = word-found 97 (110 ∷ 100 ∷ []) more _ refl refl (word_form-reserved keywords.And)
reserved-found keywords.Of more = word-found 111 (102 ∷ []) more _ refl refl (word_form-reserved keywords.Of)
reserved-found keywords.Mutable more = word-found 109 (117 ∷ 116 ∷ 97 ∷ 98 ∷ 108 ∷ 101 ∷ []) more _ refl refl (word_form-reserved keywords.Mutable)

-- If a text begins with a tag, then the lexer finds the tag or a longer tag.
tag-found : (b : ℕ) (bs more : List ℕ) → starts_name b ≡ true → list_all is_name_byte (b ∷ bs) ≡ true → IsFound (96 ∷ b ∷ bs ++ more) (Tag (b ∷ bs))
unfolding form_at tag_form
tag-found b bs more first name =
    let run : take_while is_name_byte (b ∷ (bs ++ more)) ≡ b ∷ bs ++ take_while is_name_byte more = take_while-more is_name_byte (b ∷ bs) more name in (
      Tag (take_while is_name_byte (b ∷ (bs ++ more))),
      rw first refl,
      rw run (goes_on (λ w. Tag w) 1 (λ w. omega arith) (λ w. refl) (b ∷ bs) (take_while is_name_byte more) (Tag (b ∷ bs)) refl),
    )

variable_form-found : (b : ℕ) (bs more : List ℕ) → starts_lower b ≡ true → variable_form (b ∷ bs ++ more) ≡ Some (Variable (take_while is_name_byte (b ∷ (bs ++ more))))
unfolding variable_form
variable_form-found b bs more first = rw first refl

is_character-closed : (bs : List ℕ) (o : Option CharForm) (form : LexemeForm) → closed_char bs o ≡ Some form → is_character form ≡ true
is_character-closed bs None form e = absurd (no_value e)
is_character-closed bs (Some c) form e = sym (ap is_character (cond_some _ (Character c) form e).1)

variable-found : (b : ℕ) (bs more : List ℕ) → starts_lower b ≡ true → list_all is_name_byte (b ∷ bs) ≡ true → IsFound (39 ∷ b ∷ bs ++ more) (Variable (b ∷ bs))
unfolding form_at quote_form character_form
variable-found b bs more first name = by_character (character_form (b ∷ bs ++ more)) refl
  where
    run : take_while is_name_byte (b ∷ (bs ++ more)) ≡ b ∷ bs ++ take_while is_name_byte more
    run = take_while-more is_name_byte (b ∷ bs) more name

    by_character : (o : Option LexemeForm) → character_form (b ∷ bs ++ more) ≡ o → IsFound (39 ∷ b ∷ bs ++ more) (Variable (b ∷ bs))
    by_character (Some f) at = (f, rw at refl, inr (inl (is_character-closed (b ∷ bs ++ more) (char_at 39 (b ∷ bs ++ more)) f at, refl)))
    by_character None at = (
      Variable (take_while is_name_byte (b ∷ (bs ++ more))),
      rw at (variable_form-found b bs more first),
      rw run (goes_on (λ w. Variable w) 1 (λ w. omega arith) (λ w. refl) (b ∷ bs) (take_while is_name_byte more) (Variable (b ∷ bs)) refl),
    )

-- ---- characters and strings

quote_form-char : (c : CharForm) (more : List ℕ) → IsCharForm 39 c → quote_form (char_bytes c ++ 39 ∷ more) ≡ Some (Character c)
unfolding quote_form character_form
quote_form-char c more is = rw (char_at-form 39 c (39 ∷ more) is, drop_at (char_bytes c) (39 ∷ more) (length (char_bytes c)) refl) refl

character-found : (c : CharForm) (more : List ℕ) → IsCharForm 39 c → IsFound (form_bytes (Character c) ++ more) (Character c)
unfolding form_at
character-found c more is = (Character c, ap quote_form (append_assoc (char_bytes c) (39 ∷ []) more) ∙ quote_form-char c more is, inl refl)

pub string_form-chars : (cs : List CharForm) (more : List ℕ) → AllByRecursion (IsCharForm 34) cs → string_form (flat_map char_bytes cs ++ 34 ∷ more) ≡ Some (Quoted cs)
unfolding string_form char_at
string_form-chars cs more each =
    let fits : length (flat_map char_bytes cs) ≤ length (flat_map char_bytes cs ++ 34 ∷ more) = omega (arith, length-append (flat_map char_bytes cs) (34 ∷ more)) in
    rw (chars_of-forms (length (flat_map char_bytes cs ++ 34 ∷ more)) cs (34 ∷ more) each refl fits) refl

quoted-found : (cs : List CharForm) (more : List ℕ) → AllByRecursion (IsCharForm 34) cs → IsFound (form_bytes (Quoted cs) ++ more) (Quoted cs)
unfolding form_at
quoted-found cs more each = (Quoted cs, ap string_form (append_assoc (flat_map char_bytes cs) (34 ∷ []) more) ∙ string_form-chars cs more each, inl refl)

-- ---- numbers

double-found : (ds more : List ℕ) → length ds ≡ 16 → list_all is_ascii_hexdigit ds ≡ true → IsFound (36 ∷ ds ++ more) (Double ds)
unfolding form_at double_form
double-found ds more len digits =
    let long : ltb (length (ds ++ more)) 16 ≡ false = le-ltb _ _ (omega (arith, length-append ds more)) in
    (Double ds, rw (long, take_at ds more 16 len, digits) refl, inl refl)

drop_while-more : (p : ℕ → Bool) (xs ys : List ℕ) → list_all p xs ≡ true → drop (prefix_len p (xs ++ ys)) (xs ++ ys) ≡ drop (prefix_len p ys) ys
drop_while-more p [] ys all = refl
drop_while-more p (x ∷ xs) ys all =
    let both = and_parts (p x) (list_all p xs) all in
    let one : 1 + prefix_len p (xs ++ ys) ≡ suc (prefix_len p (xs ++ ys)) = omega arith in
    rw (both.0, one) (drop_while-more p xs ys both.1)

-- If digits follow the digits of an integer, then the lexer's integer contains all these digits.
pub number_form-run : (minus : Bool) (d : ℕ) (ds tail : List ℕ) → list_all is_ascii_digit (d ∷ ds) ≡ true
    → number_form minus (d ∷ ds ++ tail) ≡ Some (Number minus (d ∷ ds ++ take_while is_ascii_digit tail) (suffix_at (drop (prefix_len is_ascii_digit tail) tail)))
unfolding number_form
number_form-run minus d ds tail digits =
    let first = (and_parts (is_ascii_digit d) (list_all is_ascii_digit ds) digits).0 in
    let some : eqb (prefix_len is_ascii_digit (d ∷ ds ++ tail)) 0 ≡ false = ne_eqb _ 0 (λ e. let none : 1 + prefix_len is_ascii_digit (ds ++ tail) ≡ 0 = rw first at e in absurd (omega arith)) in
    rw (some, take_while-more is_ascii_digit (d ∷ ds) tail digits, drop_while-more is_ascii_digit (d ∷ ds) tail digits) refl

length-number : (minus : Bool) (ds : List ℕ) (s : Suffix) → length (form_bytes (Number minus ds s)) ≡ length (minus_text minus) + (length ds + length (suffix_text s))
length-number minus ds s = length-append (minus_text minus) (ds ++ suffix_text s) ∙ ap (λ n. length (minus_text minus) + n) (length-append ds (suffix_text s))

number-longer : (minus : Bool) (ds run : List ℕ) (s : Suffix) → length ds < length (ds ++ run) + length (suffix_text s) → Wins (Number minus (ds ++ run) s) (Number minus ds suffixes.Absent)
number-longer minus ds run s more = inr (inr (refl, refl, omega (arith, length-number minus ds suffixes.Absent, length-number minus (ds ++ run) s, more)))

number-wins : (minus : Bool) (ds run : List ℕ) (s : Suffix) → Wins (Number minus (ds ++ run) s) (Number minus ds suffixes.Absent)
number-wins minus ds (r ∷ run) s = number-longer minus ds (r ∷ run) s (omega (arith, length-append ds (r ∷ run)))
number-wins minus ds [] suffixes.Absent = inl (ap (λ d. Number minus d suffixes.Absent) (append-nil ds))
number-wins minus ds [] suffixes.Int32 = number-longer minus ds [] suffixes.Int32 (omega (arith, length-append ds []))
number-wins minus ds [] suffixes.Int64 = number-longer minus ds [] suffixes.Int64 (omega (arith, length-append ds []))
number-wins minus ds [] suffixes.Native = number-longer minus ds [] suffixes.Native (omega (arith, length-append ds []))

number_form-found : (minus : Bool) (d : ℕ) (ds : List ℕ) (s : Suffix) (more : List ℕ) → list_all is_ascii_digit (d ∷ ds) ≡ true
    → (form : LexemeForm) × (number_form minus (d ∷ ds ++ (suffix_text s ++ more)) ≡ Some form) × Wins form (Number minus (d ∷ ds) s)
unfolding suffix_at
number_form-found minus d ds suffixes.Absent more digits = (_, number_form-run minus d ds more digits, number-wins minus (d ∷ ds) (take_while is_ascii_digit more) _)
number_form-found minus d ds suffixes.Int32 more digits = (_, number_form-run minus d ds (108 ∷ more) digits, inl (ap (λ t. Number minus t suffixes.Int32) (append-nil (d ∷ ds))))
number_form-found minus d ds suffixes.Int64 more digits = (_, number_form-run minus d ds (76 ∷ more) digits, inl (ap (λ t. Number minus t suffixes.Int64) (append-nil (d ∷ ds))))
number_form-found minus d ds suffixes.Native more digits = (_, number_form-run minus d ds (110 ∷ more) digits, inl (ap (λ t. Number minus t suffixes.Native) (append-nil (d ∷ ds))))

digit_no_name : (d : ℕ) → is_ascii_digit d ≡ true → starts_name d ≡ false
digit_no_name d digit =
    let below : d ≤ 57 = leb-true d 57 (and_parts (leb 48 d) (leb d 57) digit).1 in
    let none = agree_below_at (λ b. is_ascii_digit b && starts_name b) (λ b. false) 58 d refl (omega arith) in
    rw digit at none

pub form_at-digit : (d : ℕ) (bs : List ℕ) → is_ascii_digit d ≡ true → form_at (d ∷ bs) ≡ number_form false (d ∷ bs)
unfolding form_at
form_at-digit d bs digit =
    rw (apart is_ascii_digit 34 d refl digit, apart is_ascii_digit 39 d refl digit, apart is_ascii_digit 96 d refl digit, apart is_ascii_digit 36 d refl digit, apart is_ascii_digit 45 d refl digit, digit_no_name d digit, digit) refl

number-found : (minus : Bool) (d : ℕ) (ds : List ℕ) (s : Suffix) (more : List ℕ) → list_all is_ascii_digit (d ∷ ds) ≡ true → IsFound (form_bytes (Number minus (d ∷ ds) s) ++ more) (Number minus (d ∷ ds) s)
unfolding form_at
number-found true d ds s more digits =
    let f = number_form-found true d ds s more digits in
    (f.0, ap (λ t. number_form true (d ∷ t)) (append_assoc ds (suffix_text s) more) ∙ f.1, f.2)
number-found false d ds s more digits =
    let f = number_form-found false d ds s more digits in
    let first = (and_parts (is_ascii_digit d) (list_all is_ascii_digit ds) digits).0 in
    (f.0, form_at-digit d _ first ∙ ap (λ t. number_form false (d ∷ t)) (append_assoc ds (suffix_text s) more) ∙ f.1, f.2)

-- ---- symbols

symbol_form-found : (a : ℕ) (s : Symbol) (more : List ℕ) → symbol_text s ≡ a ∷ [] → single_symbol a ≡ Some s → (form : LexemeForm) × (symbol_form a more ≡ Some form) × Wins form (Mark s)
unfolding symbol_form
symbol_form-found a s more text single = by_pair (pair_at a more) refl
  where
    by_pair : (o : Option Symbol) → pair_at a more ≡ o → (form : LexemeForm) × (or_symbol (pair_at a more) (single_symbol a) ≡ Some form) × Wins form (Mark s)
    by_pair None at = (Mark s, rw (at, single) refl, inl refl)
    by_pair (Some p) at = (Mark p, rw at refl, inr (inr (refl, refl, omega (arith, ap length text, (pair_at-is a more p at).2))))

mark-found : (s : Symbol) (more : List ℕ) → IsFound (symbol_text s ++ more) (Mark s)
unfolding form_at symbol_form pair_at pair_symbol single_symbol
mark-found symbols.OpenArray more = (Mark symbols.OpenArray, refl, inl refl)
mark-found symbols.CloseArray more = (Mark symbols.CloseArray, refl, inl refl)
mark-found symbols.DoubleSemicolon more = (Mark symbols.DoubleSemicolon, refl, inl refl)
mark-found symbols.DoubleColon more = (Mark symbols.DoubleColon, refl, inl refl)
mark-found symbols.OpenParen more = symbol_form-found 40 _ more refl refl
mark-found symbols.CloseParen more = symbol_form-found 41 _ more refl refl
mark-found symbols.OpenBrace more = symbol_form-found 123 _ more refl refl
mark-found symbols.CloseBrace more = symbol_form-found 125 _ more refl refl
mark-found symbols.OpenBracket more = symbol_form-found 91 _ more refl refl
mark-found symbols.CloseBracket more = symbol_form-found 93 _ more refl refl
mark-found symbols.Bar more = symbol_form-found 124 _ more refl refl
mark-found symbols.Comma more = symbol_form-found 44 _ more refl refl
mark-found symbols.Semicolon more = symbol_form-found 59 _ more refl refl
mark-found symbols.Colon more = symbol_form-found 58 _ more refl refl
mark-found symbols.Equals more = symbol_form-found 61 _ more refl refl
mark-found symbols.Star more = symbol_form-found 42 _ more refl refl
mark-found symbols.Dot more = symbol_form-found 46 _ more refl refl
mark-found symbols.Hash more = symbol_form-found 35 _ more refl refl

-- ---- all forms

-- If a text begins with the form `other`, then the lexer finds `other` or a form that takes
-- precedence over `other`.
pub form-found : (other : LexemeForm) (more : List ℕ) → IsForm other → IsFound (form_bytes other ++ more) other
form-found (Reserved k) more is = reserved-found k more
form-found (Lower []) more is = absurd is.0
form-found (Lower (b ∷ bs)) more is = word-found b bs more _ (or_left _ _ is.0.0) is.0.1 (word_form-lower b bs is.0.0 is.1)
form-found (Upper []) more is = absurd is
form-found (Upper (b ∷ bs)) more is = word-found b bs more _ (or_right _ _ is.0) is.1 (word_form-upper b bs is.0)
form-found (Tag []) more is = absurd is
form-found (Tag (b ∷ bs)) more is = tag-found b bs more is.0 is.1
form-found (Variable []) more is = absurd is
form-found (Variable (b ∷ bs)) more is = variable-found b bs more is.0 is.1
form-found (Character c) more is = character-found c more is
form-found (Number minus [] s) more is = absurd (is.0 refl)
form-found (Number minus (d ∷ ds) s) more is = number-found minus d ds s more is.1
form-found (Quoted cs) more is = quoted-found cs more is
form-found (Double ds) more is = double-found ds more is.0 is.1
form-found (Mark s) more is = mark-found s more

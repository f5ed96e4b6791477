-- The concrete syntax of lexemes. Words, characters, strings, integers, symbols and escapes follow
-- the lexical conventions of OCaml's reference manual. The syntax of doubles, `$` and sixteen
-- digits, is specific to this project.
use Rattle.std.specs.Prelude.{◌≡◌, ◌≢◌, ◌⊎◌, ℕ, ℤ, pos, ◌+◌, ◌-◌, ◌*◌, ◌^◌, ◌≤◌, ◌<◌, ◌-ℤ◌, Bool}
use Rattle.std.specs.Prelude.{true, false, ◌||◌, ◌==◌, if◌then◌else◌, nat_lt, List, [], ◌∷◌, ◌++◌}
use Rattle.std.specs.Prelude.{length, map, Option, Some, None, IsSome, unwrap_or, IsTrue, codes}
use Rattle.std.specs.List.{list_all, flat_map, AllByRecursion}
use Rattle.std.specs.Char.{is_ascii_lowercase, is_ascii_uppercase, is_ascii_alphanumeric}
use Rattle.std.specs.Char.{is_ascii_digit, is_ascii_hexdigit}
use Rattle.types_lex.specs.declared.lexeme.Keyword.{Keyword}
use Rattle.types_lex.specs.declared.lexeme.Keyword.TheVariants as keywords
use Rattle.types_lex.specs.declared.lexeme.Suffix.{Suffix}
use Rattle.types_lex.specs.declared.lexeme.Suffix.TheVariants as suffixes
use Rattle.types_lex.specs.declared.lexeme.Symbol.{Symbol}
use Rattle.types_lex.specs.declared.lexeme.Symbol.TheVariants as symbols
use Rattle.types_lex.specs.declared.lexeme.LexemeKind.{LexemeKind}
use Rattle.types_lex.specs.declared.lexeme.LexemeKind.TheVariants as kinds

-- ---- bytes: 95 is `_`, 39 a quote, 34 a double quote, 92 a backslash, 10 a line feed

-- Returns true for space, tab, line feed, form feed and carriage return.
abbrev pub is_separator : ℕ → Bool
is_separator b = b == 32 || b == 9 || b == 10 || b == 12 || b == 13

abbrev pub starts_lower : ℕ → Bool
starts_lower b = is_ascii_lowercase b || b == 95

abbrev pub starts_name : ℕ → Bool
starts_name b = starts_lower b || is_ascii_uppercase b

abbrev pub is_name_byte : ℕ → Bool
is_name_byte b = is_ascii_alphanumeric b || b == 95 || b == 39

-- The bytes are a name: a name may start with the first byte, and each byte may occur in a name.
abbrev pub IsName : (ℕ → Bool) → List ℕ → Type 0
IsName starts [] = ⊥
IsName starts (b ∷ bs) = IsTrue (starts b) × IsTrue (list_all is_name_byte (b ∷ bs))

-- ---- numbers

-- The value of a digit in lower or upper case. 48 is `0`, 65 is `A`, 97 is `a`.
abbrev pub value_of_digit : ℕ → ℕ
value_of_digit b = if nat_lt b 58 then b - 48 else (if nat_lt b 71 then b - 55 else b - 87)

-- The value of a sequence of digits, most significant digit first.
abbrev pub number_in : ℕ → List ℕ → ℕ
number_in base [] = 0
number_in base (d ∷ ds) = value_of_digit d * base ^ length ds + number_in base ds

abbrev pub signed : Bool → ℕ → ℤ
signed true n = pos 0 -ℤ pos n
signed false n = pos n

-- The maximum absolute value of a 64-bit integer with this sign.
abbrev pub greatest : Bool → ℕ
greatest true = 2 ^ 63
greatest false = 2 ^ 63 - 1

-- ---- one character of a character or string literal

-- The four forms of a character: a plain byte, a backslash and a letter, a backslash and three
-- decimal digits, or a backslash, `x` and two hexadecimal digits.
pub data CharForm : Type 0 where
  Plain : (b : ℕ) → CharForm
  Named : (b : ℕ) → CharForm
  Decimal : (d e f : ℕ) → CharForm
  Hexadecimal : (h l : ℕ) → CharForm

abbrev pub char_bytes : CharForm → List ℕ
char_bytes (Plain b) = b ∷ []
char_bytes (Named b) = 92 ∷ b ∷ []
char_bytes (Decimal d e f) = 92 ∷ d ∷ e ∷ f ∷ []
char_bytes (Hexadecimal h l) = 92 ∷ 120 ∷ h ∷ l ∷ []

-- The byte that a backslash and `b` represent. A backslash, a quote, a double quote and a space
-- represent themselves. The letters `n`, `t`, `b`, `r` represent 10, 9, 8, 13.
abbrev pub named_char : ℕ → Option ℕ
named_char b =
    if b == 92 || b == 34 || b == 39 || b == 32 then Some b
    else (if b == 110 then Some 10
    else (if b == 116 then Some 9
    else (if b == 98 then Some 8
    else (if b == 114 then Some 13 else None))))

abbrev pub char_value : CharForm → ℕ
char_value (Plain b) = b
char_value (Named b) = unwrap_or (named_char b) 0
char_value (Decimal d e f) = number_in 10 (d ∷ e ∷ f ∷ [])
char_value (Hexadecimal h l) = number_in 16 (h ∷ l ∷ [])

-- Returns true if a byte of a string represents itself.
abbrev pub is_plain : ℕ → Bool
is_plain b = if b == 34 || b == 92 || b == 10 then false else true

-- The form of the character is valid inside quotes `quote`.
abbrev pub IsCharForm : ℕ → CharForm → Type 0
IsCharForm quote (Plain b) = (b ≢ quote) × (b ≢ 92) × (b ≢ 10)
IsCharForm quote (Named b) = IsSome (named_char b)
IsCharForm quote (Decimal d e f) =
    IsTrue (list_all is_ascii_digit (d ∷ e ∷ f ∷ [])) × (number_in 10 (d ∷ e ∷ f ∷ []) ≤ 255)
IsCharForm quote (Hexadecimal h l) = IsTrue (list_all is_ascii_hexdigit (h ∷ l ∷ []))

-- ---- lexemes

abbrev pub keyword_text : Keyword → List ℕ
keyword_text keywords.Type = codes "type"
keyword_text keywords.And = codes "and"
keyword_text keywords.Of = codes "of"
keyword_text keywords.Mutable = codes "mutable"

abbrev pub suffix_text : Suffix → List ℕ
suffix_text suffixes.Absent = []
suffix_text suffixes.Int32 = codes "l"
suffix_text suffixes.Int64 = codes "L"
suffix_text suffixes.Native = codes "n"

abbrev pub symbol_text : Symbol → List ℕ
symbol_text symbols.OpenArray = codes "[|"
symbol_text symbols.CloseArray = codes "|]"
symbol_text symbols.DoubleSemicolon = codes ";;"
symbol_text symbols.DoubleColon = codes "::"
symbol_text symbols.OpenParen = codes "("
symbol_text symbols.CloseParen = codes ")"
symbol_text symbols.OpenBrace = codes "{"
symbol_text symbols.CloseBrace = codes "}"
symbol_text symbols.OpenBracket = codes "["
symbol_text symbols.CloseBracket = codes "]"
symbol_text symbols.Bar = codes "|"
symbol_text symbols.Comma = codes ","
symbol_text symbols.Semicolon = codes ";"
symbol_text symbols.Colon = codes ":"
symbol_text symbols.Equals = codes "="
symbol_text symbols.Star = codes "*"
symbol_text symbols.Dot = codes "."
symbol_text symbols.Hash = codes "#"

abbrev pub minus_text : Bool → List ℕ
minus_text true = codes "-"
minus_text false = []

-- A lexeme as written in a text.
pub data LexemeForm : Type 0 where
  Reserved : (keyword : Keyword) → LexemeForm
  Lower : (name : List ℕ) → LexemeForm
  Upper : (name : List ℕ) → LexemeForm
  Tag : (name : List ℕ) → LexemeForm
  Variable : (name : List ℕ) → LexemeForm
  Character : (char : CharForm) → LexemeForm
  Number : (minus : Bool) (digits : List ℕ) (suffix : Suffix) → LexemeForm
  Quoted : (chars : List CharForm) → LexemeForm
  Double : (digits : List ℕ) → LexemeForm
  Mark : (symbol : Symbol) → LexemeForm

-- The bytes of a form. Byte 96 is a backquote, and byte 36 is `$`.
abbrev pub form_bytes : LexemeForm → List ℕ
form_bytes (Reserved k) = keyword_text k
form_bytes (Lower name) = name
form_bytes (Upper name) = name
form_bytes (Tag name) = 96 ∷ name
form_bytes (Variable name) = 39 ∷ name
form_bytes (Character c) = 39 ∷ (char_bytes c ++ 39 ∷ [])
form_bytes (Number minus digits suffix) = minus_text minus ++ (digits ++ suffix_text suffix)
form_bytes (Quoted chars) = 34 ∷ (flat_map char_bytes chars ++ 34 ∷ [])
form_bytes (Double digits) = 36 ∷ digits
form_bytes (Mark s) = symbol_text s

-- The kind of lexeme that a form denotes.
abbrev pub form_kind : LexemeForm → LexemeKind
form_kind (Reserved k) = kinds.Keyword k
form_kind (Lower name) = kinds.Lower name
form_kind (Upper name) = kinds.Upper name
form_kind (Tag name) = kinds.Tag name
form_kind (Variable name) = kinds.Variable name
form_kind (Character c) = kinds.Character (char_value c)
form_kind (Number minus digits suffix) =
    kinds.Integer
    (record { minus = minus; value = signed minus (number_in 10 digits); suffix = suffix })
form_kind (Quoted chars) = kinds.Text (map char_value chars)
form_kind (Double digits) = kinds.Double (number_in 16 digits)
form_kind (Mark s) = kinds.Symbol s

-- The form is valid. A lowercase name is no keyword, but the names of tags and variables may be
-- keywords.
abbrev pub IsForm : LexemeForm → Type 0
IsForm (Reserved k) = Unit {0}
IsForm (Lower name) = IsName starts_lower name × ((k : Keyword) → name ≢ keyword_text k)
IsForm (Upper name) = IsName is_ascii_uppercase name
IsForm (Tag name) = IsName starts_name name
IsForm (Variable name) = IsName starts_lower name
IsForm (Character c) = IsCharForm 39 c
IsForm (Number minus digits suffix) = (digits ≢ []) × IsTrue (list_all is_ascii_digit digits)
IsForm (Quoted chars) = AllByRecursion (IsCharForm 34) chars
IsForm (Double digits) = (length digits ≡ 16) × IsTrue (list_all is_ascii_hexdigit digits)
IsForm (Mark s) = Unit {0}

-- If the form is an integer, then the integer fits in 64 bits.
abbrev pub IsInRange : LexemeForm → Type 0
IsInRange (Number minus digits suffix) = number_in 10 digits ≤ greatest minus
IsInRange form = Unit {0}

abbrev pub IsTooBig : LexemeForm → Type 0
IsTooBig (Number minus digits suffix) = greatest minus < number_in 10 digits
IsTooBig form = ⊥

abbrev pub is_character : LexemeForm → Bool
is_character (Character c) = true
is_character form = false

-- If a text begins with both forms, then `form` takes precedence over `other`. A character precedes
-- all other forms. If neither form is a character, the longer form precedes the shorter form.
abbrev pub Precedes : LexemeForm → LexemeForm → Type 0
Precedes form other =
    IsTrue (is_character form)
    ⊎ ((is_character other ≡ false) × (length (form_bytes other) ≤ length (form_bytes form)))

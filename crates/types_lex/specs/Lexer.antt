-- The form or part at the start of a text, computed from left to right. The functions of the crate
-- compute these definitions.
use Rattle.std.specs.Prelude.{◌≡◌, ℕ, zero, suc, pred, ◌+◌, Bool, true, false, ◌&&◌, ◌||◌, ◌==◌}
use Rattle.std.specs.Prelude.{nat_lt, nat_le, if◌then◌else◌, List, [], ◌∷◌, ◌++◌, length, take}
use Rattle.std.specs.Prelude.{drop, Option, Some, None, is_some, Result, Ok, Err}
use Rattle.std.specs.List.{list_all, flat_map, prefix_len, take_while}
use Rattle.std.specs.Char.{is_ascii_digit, is_ascii_hexdigit}
use Rattle.std.specs.Str.{bytes_eq}
use Rattle.types_lex.specs.declared.lexeme.Keyword.{Keyword}
use Rattle.types_lex.specs.declared.lexeme.Keyword.TheVariants as keywords
use Rattle.types_lex.specs.declared.lexeme.Suffix.{Suffix}
use Rattle.types_lex.specs.declared.lexeme.Suffix.TheVariants as suffixes
use Rattle.types_lex.specs.declared.lexeme.Symbol.{Symbol}
use Rattle.types_lex.specs.declared.lexeme.Symbol.TheVariants as symbols
use Rattle.types_lex.specs.declared.lexeme.LexFault.{LexFault}
use Rattle.types_lex.specs.declared.lexeme.LexFault.TheVariants as faults
use Rattle.types_lex.specs.Lexeme.{is_separator, is_plain, starts_lower, starts_name, is_name_byte}
use Rattle.types_lex.specs.Lexeme.{number_in, greatest, CharForm, Plain, Named, Decimal}
use Rattle.types_lex.specs.Lexeme.{Hexadecimal}
use Rattle.types_lex.specs.Lexeme.{char_bytes, char_value, named_char, keyword_text, LexemeForm}
use Rattle.types_lex.specs.Lexeme.{Reserved}
use Rattle.types_lex.specs.Lexeme.{Lower, Upper, Tag, Variable, Character, Number, Quoted, Double}
use Rattle.types_lex.specs.Lexeme.{Mark, form_bytes, form_kind}
use Rattle.types_lex.specs.declared.comments.CommentDelimiter.{CommentDelimiter}
use Rattle.types_lex.specs.declared.comments.CommentDelimiter.TheVariants.{Opening, Closing}
use Rattle.types_lex.specs.declared.comments.CommentDelimiter.TheVariants.{Neither}
use Rattle.types_lex.specs.declared.found_lexeme.FoundLexeme.{FoundLexeme}
use Rattle.types_lex.specs.declared.found_lexeme.LexStep.{LexStep}
use Rattle.types_lex.specs.declared.found_lexeme.LexStep.TheVariants.{Gap, Word}

-- ---- words

abbrev pub keyword_of : List ℕ → Option Keyword
keyword_of name =
    if bytes_eq name (keyword_text keywords.Type) then Some keywords.Type
    else (if bytes_eq name (keyword_text keywords.And) then Some keywords.And
    else (if bytes_eq name (keyword_text keywords.Of) then Some keywords.Of
    else (if bytes_eq name (keyword_text keywords.Mutable) then Some keywords.Mutable else None)))

abbrev pub cased_form : List ℕ → LexemeForm
cased_form [] = Lower []
cased_form (b ∷ bs) = if starts_lower b then Lower (b ∷ bs) else Upper (b ∷ bs)

abbrev pub reserved_or : LexemeForm → Option Keyword → LexemeForm
reserved_or form None = form
reserved_or form (Some k) = Reserved k

unfoldable pub word_form : List ℕ → LexemeForm
word_form name = reserved_or (cased_form name) (keyword_of name)

unfoldable pub tag_form : List ℕ → Option LexemeForm
tag_form [] = None
tag_form (b ∷ bs) = if starts_name b then Some (Tag (take_while is_name_byte (b ∷ bs))) else None

unfoldable pub variable_form : List ℕ → Option LexemeForm
variable_form [] = None
variable_form (b ∷ bs) =
    if starts_lower b then Some (Variable (take_while is_name_byte (b ∷ bs))) else None

-- ---- characters

unfoldable pub hexadecimal_at : List ℕ → Option CharForm
hexadecimal_at [] = None
hexadecimal_at (h ∷ []) = None
hexadecimal_at (h ∷ l ∷ rest) =
    if is_ascii_hexdigit h && is_ascii_hexdigit l then Some (Hexadecimal h l) else None

unfoldable pub decimal_at : List ℕ → Option CharForm
decimal_at [] = None
decimal_at (d ∷ []) = None
decimal_at (d ∷ e ∷ []) = None
decimal_at (d ∷ e ∷ f ∷ rest) =
    if (is_ascii_digit d && is_ascii_digit e && is_ascii_digit f)
    && nat_le (number_in 10 (d ∷ e ∷ f ∷ [])) 255
    then Some (Decimal d e f)
    else None

-- The escape at the start of a text that follows a backslash.
unfoldable pub escape_at : List ℕ → Option CharForm
escape_at [] = None
escape_at (b ∷ bs) =
    if is_some (named_char b) then Some (Named b)
    else (if b == 120 then hexadecimal_at bs else decimal_at (b ∷ bs))

unfoldable pub char_at : ℕ → List ℕ → Option CharForm
char_at quote [] = None
char_at quote (b ∷ bs) =
    if b == 92 then escape_at bs else (if b == quote || b == 10 then None else Some (Plain b))

-- The value of a character and its length in bytes.
abbrev pub char_found : Option CharForm → Option (ℕ × ℕ)
char_found None = None
char_found (Some c) = Some (char_value c, length (char_bytes c))

abbrev pub begins_with : ℕ → List ℕ → Bool
begins_with byte [] = false
begins_with byte (b ∷ bs) = b == byte

abbrev pub closed_char : List ℕ → Option CharForm → Option LexemeForm
closed_char text None = None
closed_char text (Some c) =
    if begins_with 39 (drop (length (char_bytes c)) text) then Some (Character c) else None

unfoldable pub character_form : List ℕ → Option LexemeForm
character_form text = closed_char text (char_at 39 text)

abbrev pub or_form : Option LexemeForm → Option LexemeForm → Option LexemeForm
or_form None other = other
or_form (Some form) other = Some form

-- The character or type variable at the start of a text that follows a quote.
unfoldable pub quote_form : List ℕ → Option LexemeForm
quote_form text = or_form (character_form text) (variable_form text)

-- ---- strings

abbrev pub one_more : (List ℕ → List CharForm × List ℕ) → List ℕ → Option CharForm
    → List CharForm × List ℕ
one_more others text None = ([], text)
one_more others text (Some c) =
    let more = others (drop (length (char_bytes c)) text) in (c ∷ more.0, more.1)

-- At most `n` characters of a string at the start of the text, and the bytes after the characters.
unfoldable pub chars_of : ℕ → List ℕ → List CharForm × List ℕ
chars_of zero text = ([], text)
chars_of (suc n) text = one_more (chars_of n) text (char_at 34 text)

abbrev pub closed_string : List CharForm × List ℕ → Option LexemeForm
closed_string read = if begins_with 34 read.1 then Some (Quoted read.0) else None

-- The bytes from position `at` on that represent themselves are appended to the value `old`.
pub record TakesPlain (text : List ℕ) (at : ℕ) (old : List ℕ) (end : ℕ) (new : List ℕ)
    : Type 0 where
  pub end_is : end ≡ at + prefix_len is_plain (drop at text)
  pub new_is : new ≡ old ++ take (prefix_len is_plain (drop at text)) (drop at text)

-- The string literal at the start of a text that follows a double quote.
unfoldable pub string_form : List ℕ → Option LexemeForm
string_form text = closed_string (chars_of (length text) text)

-- ---- numbers and symbols

unfoldable pub suffix_at : List ℕ → Suffix
suffix_at [] = suffixes.Absent
suffix_at (b ∷ bs) =
    if b == 108 then suffixes.Int32
    else
    (if b == 76 then suffixes.Int64
    else (if b == 110 then suffixes.Native else suffixes.Absent))

unfoldable pub number_form : Bool → List ℕ → Option LexemeForm
number_form minus text =
    let count = prefix_len is_ascii_digit text in
    if count == 0 then None else Some (Number minus (take count text) (suffix_at (drop count text)))

unfoldable pub double_form : List ℕ → Option LexemeForm
double_form text =
    if nat_lt (length text) 16 then None
    else (if list_all is_ascii_hexdigit (take 16 text) then Some (Double (take 16 text)) else None)

unfoldable pub pair_symbol : ℕ → ℕ → Option Symbol
pair_symbol a b =
    if a == 91 && b == 124 then Some symbols.OpenArray
    else (if a == 124 && b == 93 then Some symbols.CloseArray
    else (if a == 59 && b == 59 then Some symbols.DoubleSemicolon
    else (if a == 58 && b == 58 then Some symbols.DoubleColon else None)))

unfoldable pub single_symbol : ℕ → Option Symbol
single_symbol a =
    if a == 40 then Some symbols.OpenParen
    else (if a == 41 then Some symbols.CloseParen
    else (if a == 123 then Some symbols.OpenBrace
    else (if a == 125 then Some symbols.CloseBrace
    else (if a == 91 then Some symbols.OpenBracket
    else (if a == 93 then Some symbols.CloseBracket
    else (if a == 124 then Some symbols.Bar
    else (if a == 44 then Some symbols.Comma
    else (if a == 59 then Some symbols.Semicolon
    else (if a == 58 then Some symbols.Colon
    else (if a == 61 then Some symbols.Equals
    else (if a == 42 then Some symbols.Star
    else (if a == 46 then Some symbols.Dot
    else (if a == 35 then Some symbols.Hash else None)))))))))))))

abbrev pub or_symbol : Option Symbol → Option Symbol → Option LexemeForm
or_symbol (Some s) other = Some (Mark s)
or_symbol None (Some s) = Some (Mark s)
or_symbol None None = None

unfoldable pub pair_at : ℕ → List ℕ → Option Symbol
pair_at a [] = None
pair_at a (b ∷ bs) = pair_symbol a b

unfoldable pub symbol_form : ℕ → List ℕ → Option LexemeForm
symbol_form a bs = or_symbol (pair_at a bs) (single_symbol a)

-- ---- the start of a text

unfoldable pub form_at : List ℕ → Option LexemeForm
form_at [] = None
form_at (b ∷ bs) =
    if b == 34 then string_form bs
    else (if b == 39 then quote_form bs
    else (if b == 96 then tag_form bs
    else (if b == 36 then double_form bs
    else (if b == 45 then number_form true bs
    else (if starts_name b then Some (word_form (take_while is_name_byte (b ∷ bs)))
    else (if is_ascii_digit b then number_form false (b ∷ bs)
    else symbol_form b bs))))))

-- ---- the results of the lexer functions

abbrev pub in_range : LexemeForm → Bool
in_range (Number minus digits suffix) = nat_le (number_in 10 digits) (greatest minus)
in_range form = true

abbrev pub found : LexemeForm → FoundLexeme
found form = record { kind = form_kind form; len = length (form_bytes form) }

abbrev pub found_at : Option LexemeForm → Result FoundLexeme LexFault
found_at None = Err (faults.BadByte 0)
found_at (Some form) = if in_range form then Ok (found form) else Err (faults.TooBig 0)

abbrev pub ended_string : List CharForm → List ℕ → Result FoundLexeme LexFault
ended_string chars [] = Err (faults.OpenString 0)
ended_string chars (b ∷ bs) =
    if b == 34 then Ok (found (Quoted chars))
    else
    (if b == 92 then Err (faults.BadByte (length (flat_map char_bytes chars) + 2))
    else Err (faults.OpenString 0))

unfoldable pub string_at : List ℕ → Result FoundLexeme LexFault
string_at text = let read = chars_of (length text) text in ended_string read.0 read.1

unfoldable pub lexeme_at : List ℕ → Result FoundLexeme LexFault
lexeme_at [] = Err (faults.BadByte 0)
lexeme_at (b ∷ bs) = if b == 34 then string_at bs else found_at (form_at (b ∷ bs))

abbrev pub plus : ℕ → Option ℕ → Option ℕ
plus n None = None
plus n (Some m) = Some (n + m)

abbrev pub bracket_of : ℕ → ℕ → CommentDelimiter
bracket_of a b =
    if a == 40 && b == 42 then Opening else (if a == 42 && b == 41 then Closing else Neither)

-- One step of `closing`. If the next bytes are `(*`, the result is `deeper` plus two. If the next
-- bytes are `*)`, the comment ends or the result is `outer` plus two. If neither bracket follows,
-- the result is `on` plus one.
abbrev pub closing_by : CommentDelimiter → ℕ → Option ℕ → Option ℕ → Option ℕ → Option ℕ
closing_by Opening depth deeper outer on = plus 2 deeper
closing_by Closing zero deeper outer on = Some 2
closing_by Closing (suc depth) deeper outer on = plus 2 outer
closing_by Neither depth deeper outer on = plus 1 on

-- The number of bytes up to the end of the comment, if `depth` inner comments are open at the
-- start.
unfoldable pub closing : ℕ → List ℕ → Option ℕ
closing depth [] = None
closing depth (a ∷ []) = None
closing depth (a ∷ b ∷ bs) =
    closing_by (bracket_of a b) depth (closing (suc depth) bs) (closing (pred depth) bs)
    (closing depth (b ∷ bs))

abbrev pub gap_of : Option ℕ → Result LexStep LexFault
gap_of None = Err (faults.OpenComment 0)
gap_of (Some n) = Ok (Gap (n + 2))

abbrev pub word_of : Result FoundLexeme LexFault → Result LexStep LexFault
word_of (Ok word) = Ok (Word word)
word_of (Err fault) = Err fault

unfoldable pub step_at : List ℕ → Result LexStep LexFault
step_at [] = Err (faults.BadByte 0)
step_at (b ∷ bs) =
    if is_separator b then Ok (Gap 1)
    else
    (if b == 40 && begins_with 42 bs then gap_of (closing 0 (drop 1 bs))
    else word_of (lexeme_at (b ∷ bs)))

-- ---- positions of faults

abbrev pub position_of : LexFault → ℕ
position_of (faults.BadByte position) = position
position_of (faults.OpenString position) = position
position_of (faults.OpenComment position) = position
position_of (faults.TooBig position) = position
position_of faults.Memory = 0

-- The fault with its position increased by `by`.
abbrev pub moved : ℕ → LexFault → LexFault
moved by (faults.BadByte position) = faults.BadByte (position + by)
moved by (faults.OpenString position) = faults.OpenString (position + by)
moved by (faults.OpenComment position) = faults.OpenComment (position + by)
moved by (faults.TooBig position) = faults.TooBig (position + by)
moved by faults.Memory = faults.Memory

-- Lexemes separated by spaces are one line.
use Rattle.std.proofs.Common.{◌≡◌, ◌≢◌, ℕ, Bool, true, false, leb, List, [], ◌∷◌, ◌++◌, refl, sym, ap, subst, ◌∙◌, arith}
use Rattle.std.specs.Prelude.{IsSome}
use Rattle.std.specs.List.{flat_map, list_all, AllByRecursion}
use Rattle.std.specs.Char.{is_ascii_digit, is_ascii_hexdigit}
use Rattle.std.proofs.lemmas.Bool.{false≢true, and_parts}
use Rattle.types_lex.specs.declared.lexeme.Keyword.{Keyword}
use Rattle.types_lex.specs.declared.lexeme.Keyword.TheVariants as keywords
use Rattle.types_lex.specs.declared.lexeme.Suffix.{Suffix}
use Rattle.types_lex.specs.declared.lexeme.Suffix.TheVariants as suffixes
use Rattle.types_lex.specs.declared.lexeme.Symbol.{Symbol}
use Rattle.types_lex.specs.declared.lexeme.Symbol.TheVariants as symbols
use Rattle.types_lex.specs.Lexeme.{is_name_byte, IsName, CharForm, Plain, Named, Decimal, Hexadecimal, char_bytes, named_char, IsCharForm, keyword_text, minus_text, suffix_text, symbol_text, LexemeForm, Reserved, Lower, Upper, Tag, Variable, Character, Number, Quoted, Double, Mark, form_bytes, IsForm}
use Rattle.types_lex.specs.LexText.{TextPart, Separator, Comment, Word, part_bytes}
use Rattle.types_parse.specs.grammar.Grammar.{Kinds}
use Rattle.text_roundtrip.specs.lexed.Lexed.{IsOnLine, IsLexed}

abbrev NoFeed : List ℕ → Type 0
NoFeed bytes = AllByRecursion (λ b. b ≢ 10) bytes

both : (xs ys : List ℕ) → NoFeed xs → NoFeed ys → NoFeed (xs ++ ys)
both [] ys h k = k
both (x ∷ xs) ys h k = (h.0, both xs ys h.1 k)

passing : (p : ℕ → Bool) → p 10 ≡ false → (bs : List ℕ) → list_all p bs ≡ true → NoFeed bs
passing p fails [] all = tt
passing p fails (b ∷ bs) all = let two = and_parts (p b) (list_all p bs) all in (λ e. false≢true (sym fails ∙ ap p (sym e) ∙ two.0), passing p fails bs two.1)

char_line : (quote : ℕ) (c : CharForm) → IsCharForm quote c → NoFeed (char_bytes c)
char_line quote (Plain b) is = (is.2, tt)
char_line quote (Named b) is = ((λ e. absurd (omega arith)), ((λ e. absurd (false≢true (subst (λ b. IsSome (named_char b)) e is))), tt))
char_line quote (Decimal d e f) is = ((λ e. absurd (omega arith)), passing is_ascii_digit refl (d ∷ e ∷ f ∷ []) is.0)
char_line quote (Hexadecimal h l) is = ((λ e. absurd (omega arith)), ((λ e. absurd (omega arith)), passing is_ascii_hexdigit refl (h ∷ l ∷ []) is))

chars_line : (quote : ℕ) (cs : List CharForm) → AllByRecursion (IsCharForm quote) cs → NoFeed (flat_map char_bytes cs)
chars_line quote [] all = tt
chars_line quote (c ∷ cs) all = both (char_bytes c) (flat_map char_bytes cs) (char_line quote c all.0) (chars_line quote cs all.1)

name_line : (starts : ℕ → Bool) (name : List ℕ) → IsName starts name → NoFeed name
name_line starts [] is = tt
name_line starts (b ∷ bs) is = passing is_name_byte refl (b ∷ bs) is.1

keyword_line : (k : Keyword) → NoFeed (keyword_text k)
keyword_line keywords.Type = passing is_name_byte refl (keyword_text keywords.Type) refl
keyword_line keywords.And = passing is_name_byte refl (keyword_text keywords.And) refl
keyword_line keywords.Of = passing is_name_byte refl (keyword_text keywords.Of) refl
keyword_line keywords.Mutable = passing is_name_byte refl (keyword_text keywords.Mutable) refl

suffix_line : (s : Suffix) → NoFeed (suffix_text s)
suffix_line suffixes.Absent = tt
suffix_line suffixes.Int32 = passing is_name_byte refl (suffix_text suffixes.Int32) refl
suffix_line suffixes.Int64 = passing is_name_byte refl (suffix_text suffixes.Int64) refl
suffix_line suffixes.Native = passing is_name_byte refl (suffix_text suffixes.Native) refl

minus_line : (minus : Bool) → NoFeed (minus_text minus)
minus_line true = ((λ e. absurd (omega arith)), tt)
minus_line false = tt

symbol_line : (s : Symbol) → NoFeed (symbol_text s)
symbol_line symbols.OpenArray = passing (λ b. leb 11 b) refl (symbol_text symbols.OpenArray) refl
symbol_line symbols.CloseArray = passing (λ b. leb 11 b) refl (symbol_text symbols.CloseArray) refl
symbol_line symbols.DoubleSemicolon = passing (λ b. leb 11 b) refl (symbol_text symbols.DoubleSemicolon) refl
symbol_line symbols.DoubleColon = passing (λ b. leb 11 b) refl (symbol_text symbols.DoubleColon) refl
symbol_line symbols.OpenParen = passing (λ b. leb 11 b) refl (symbol_text symbols.OpenParen) refl
symbol_line symbols.CloseParen = passing (λ b. leb 11 b) refl (symbol_text symbols.CloseParen) refl
symbol_line symbols.OpenBrace = passing (λ b. leb 11 b) refl (symbol_text symbols.OpenBrace) refl
symbol_line symbols.CloseBrace = passing (λ b. leb 11 b) refl (symbol_text symbols.CloseBrace) refl
symbol_line symbols.OpenBracket = passing (λ b. leb 11 b) refl (symbol_text symbols.OpenBracket) refl
symbol_line symbols.CloseBracket = passing (λ b. leb 11 b) refl (symbol_text symbols.CloseBracket) refl
symbol_line symbols.Bar = passing (λ b. leb 11 b) refl (symbol_text symbols.Bar) refl
symbol_line symbols.Comma = passing (λ b. leb 11 b) refl (symbol_text symbols.Comma) refl
symbol_line symbols.Semicolon = passing (λ b. leb 11 b) refl (symbol_text symbols.Semicolon) refl
symbol_line symbols.Colon = passing (λ b. leb 11 b) refl (symbol_text symbols.Colon) refl
symbol_line symbols.Equals = passing (λ b. leb 11 b) refl (symbol_text symbols.Equals) refl
symbol_line symbols.Star = passing (λ b. leb 11 b) refl (symbol_text symbols.Star) refl
symbol_line symbols.Dot = passing (λ b. leb 11 b) refl (symbol_text symbols.Dot) refl
symbol_line symbols.Hash = passing (λ b. leb 11 b) refl (symbol_text symbols.Hash) refl

form_line : (form : LexemeForm) → IsForm form → NoFeed (form_bytes form)
form_line (Reserved k) is = keyword_line k
form_line (Lower name) is = name_line _ name is.0
form_line (Upper name) is = name_line _ name is
form_line (Tag name) is = ((λ e. absurd (omega arith)), name_line _ name is)
form_line (Variable name) is = ((λ e. absurd (omega arith)), name_line _ name is)
form_line (Character c) is = ((λ e. absurd (omega arith)), both (char_bytes c) (39 ∷ []) (char_line 39 c is) ((λ e. absurd (omega arith)), tt))
form_line (Number minus digits suffix) is = both (minus_text minus) (digits ++ suffix_text suffix) (minus_line minus) (both digits (suffix_text suffix) (passing is_ascii_digit refl digits is.1) (suffix_line suffix))
form_line (Quoted cs) is = ((λ e. absurd (omega arith)), both (flat_map char_bytes cs) (34 ∷ []) (chars_line 34 cs is) ((λ e. absurd (omega arith)), tt))
form_line (Double ds) is = ((λ e. absurd (omega arith)), passing is_ascii_hexdigit refl ds is.1)
form_line (Mark s) is = symbol_line s

parts_line : (parts : List TextPart) → AllByRecursion IsOnLine parts → NoFeed (flat_map part_bytes parts)
parts_line [] all = tt
parts_line (Separator b ∷ parts) all = ((λ e. absurd (let h = all.0 in omega arith)), parts_line parts all.1)
parts_line (Comment inside ∷ parts) all = absurd all.0
parts_line (Word form ∷ parts) all = both (form_bytes form) (flat_map part_bytes parts) (form_line form all.0) (parts_line parts all.1)

-- A lexed text is one line.
pub lexed_one_line : {May : List ℕ → Type 0} {text : List ℕ} {kinds : Kinds} → IsLexed May text kinds → NoFeed text
lexed_one_line one = subst NoFeed (sym one.written) (parts_line one.parts one.one_line)

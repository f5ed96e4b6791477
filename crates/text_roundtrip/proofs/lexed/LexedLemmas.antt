-- Lexemes one after another, and the bytes that may follow the lexemes.
use Rattle.std.proofs.Common.{◌≡◌, ◌≢◌, ℕ, Bool, List, [], ◌∷◌, ◌++◌, Some, refl, sym, ap, subst, ◌∙◌, append_assoc}
use Rattle.std.specs.Prelude.{map}
use Rattle.std.specs.List.{flat_map, AllByRecursion}
use Rattle.std.proofs.lemmas.List.{append-nil}
use Rattle.std.proofs.lemmas.Grind.{flat_map-append}
use Rattle.types_lex.specs.declared.lexeme.Lexeme.{Lexeme}
use Rattle.types_lex.specs.declared.lexeme.LexemeKind.TheVariants as kinds
use Rattle.types_lex.specs.declared.lexeme.Symbol.{Symbol}
use Rattle.types_lex.specs.declared.lexeme.Symbol.TheVariants as symbols
use Rattle.types_lex.specs.declared.lexeme.Suffix.{Suffix}
use Rattle.types_lex.specs.Lexeme.{CharForm, LexemeForm, Lower, Upper, Tag, Character, Number, Quoted, Double, Mark, form_bytes, form_kind, IsForm, IsInRange}
use Rattle.types_lex.specs.LexText.{TextPart, Separator, Comment, Word, part_bytes, IsPart, AreParts, lexemes_of, Lexes}
use Rattle.types_lex.specs.Lexer.{pair_symbol, pair_at, single_symbol, symbol_form, form_at}
use Rattle.types_parse.specs.grammar.Grammar.{Kinds, mark}
use Rattle.text_roundtrip.specs.lexed.Lexed.{Ends, NoStar, BeginsWithoutStar, kinds_in, IsOnLine, IsLexed}
use Rattle.text_roundtrip.proofs.lexed.LexedTakenLemmas.{found_part, paren_part, lower_found, upper_found, tag_found, number_found, double_found, quoted_found, character_found}

-- ---- concatenation

are_both : (ps qs : List TextPart) (after : List ℕ) → AreParts ps (flat_map part_bytes qs ++ after) → AreParts qs after → AreParts (ps ++ qs) after
are_both [] qs after are more = more
are_both (p ∷ ps) qs after are more =
    (subst (IsPart p) (sym (append_assoc (flat_map part_bytes ps) (flat_map part_bytes qs) after) ∙ ap (λ t. t ++ after) (sym (flat_map-append part_bytes ps qs))) are.0, are_both ps qs after are.1 more)

kinds_both : (ps qs : List TextPart) → kinds_in ps ++ kinds_in qs ≡ kinds_in (ps ++ qs)
kinds_both [] qs = refl
kinds_both (Separator b ∷ ps) qs = kinds_both ps qs
kinds_both (Comment inside ∷ ps) qs = kinds_both ps qs
kinds_both (Word form ∷ ps) qs = ap (λ t. form_kind form ∷ t) (kinds_both ps qs)

all_both : (ps qs : List TextPart) → AllByRecursion IsOnLine ps → AllByRecursion IsOnLine qs → AllByRecursion IsOnLine (ps ++ qs)
all_both [] qs one other = other
all_both (p ∷ ps) qs one other = (one.0, all_both ps qs one.1 other)

module _ {May Then : List ℕ → Type 0} {text more : List ℕ} {kinds others : Kinds} where
  pub lexed_then : IsLexed May text kinds → IsLexed Then more others → ((after : List ℕ) → Then after → May (more ++ after)) → IsLexed Then (text ++ more) (kinds ++ others)
  lexed_then one other may = record {
    parts = one.parts ++ other.parts;
    written = ap (λ t. t ++ more) one.written ∙ ap (λ t. flat_map part_bytes one.parts ++ t) other.written ∙ sym (flat_map-append part_bytes one.parts other.parts);
    stands = ap (λ t. t ++ others) one.stands ∙ ap (λ t. kinds_in one.parts ++ t) other.stands ∙ kinds_both one.parts other.parts;
    are = λ after then. are_both one.parts other.parts after (subst (λ t. AreParts one.parts (t ++ after)) other.written (one.are (more ++ after) (may after then))) (other.are after then);
    one_line = all_both one.parts other.parts one.one_line other.one_line;
  }

pub lexed_at : {May : List ℕ → Type 0} {text other : List ℕ} {kinds others : Kinds} → text ≡ other → kinds ≡ others → IsLexed May text kinds → IsLexed May other others
lexed_at e f one = record {
  parts = one.parts;
  written = sym e ∙ one.written;
  stands = sym f ∙ one.stands;
  are = one.are;
  one_line = one.one_line;
}

pub begins_with : (b : ℕ) (bs : List ℕ) → b ≢ 42 → BeginsWithoutStar (b ∷ bs)
begins_with b bs other = record { first = b; others = bs; is = refl; no_star = other }

-- The empty text has no lexemes, whatever bytes follow.
pub lexed_nothing : (May : List ℕ → Type 0) → IsLexed May [] []
lexed_nothing May = record { parts = []; written = refl; stands = refl; are = λ after may. tt; one_line = tt }

pub lexed_space : (May : List ℕ → Type 0) → IsLexed May (32 ∷ []) []
lexed_space May = record { parts = Separator 32 ∷ []; written = refl; stands = refl; are = λ after may. (refl, tt); one_line = (refl, tt) }

-- If a lexeme is found before all allowed bytes, then the lexeme's text is lexed as the lexeme.
pub lexed_form : (May : List ℕ → Type 0) (form : LexemeForm) → IsForm form → ((after : List ℕ) → May after → IsPart (Word form) after) → IsLexed May (form_bytes form) (form_kind form ∷ [])
lexed_form May form own is = record { parts = Word form ∷ []; written = sym (append-nil (form_bytes form)); stands = refl; are = λ after may. (is after may, tt); one_line = (own, tt) }

-- ---- words, numbers, strings

pub lexed_lower : (name : List ℕ) → IsForm (Lower name) → IsLexed Ends name (kinds.Lower name ∷ [])
lexed_lower name is = lexed_form Ends (Lower name) is (λ after ends. found_part (Lower name) after (lower_found name after is ends) (λ e. absurd cc) tt)

pub lexed_upper : (name : List ℕ) → IsForm (Upper name) → IsLexed Ends name (kinds.Upper name ∷ [])
lexed_upper name is = lexed_form Ends (Upper name) is (λ after ends. found_part (Upper name) after (upper_found name after is ends) (λ e. absurd cc) tt)

pub lexed_tag : (name : List ℕ) → IsForm (Tag name) → IsLexed Ends (96 ∷ name) (kinds.Tag name ∷ [])
lexed_tag name is = lexed_form Ends (Tag name) is (λ after ends. found_part (Tag name) after (tag_found name after is ends) (λ e. absurd cc) tt)

-- ---- symbols

no_marks : (s : Symbol) → ((after : List ℕ) → form_at (form_bytes (Mark s) ++ after) ≡ Some (Mark s)) → (Mark s ≢ Mark symbols.OpenParen) → (May : List ℕ → Type 0) → IsLexed May (form_bytes (Mark s)) (mark s)
no_marks s found other May = lexed_form May (Mark s) tt (λ after may. found_part (Mark s) after (found after) other tt)

pub by_next : (P : List ℕ → Type 0) → P [] → ((b : ℕ) (bs : List ℕ) → P (b ∷ bs)) → (after : List ℕ) → P after
by_next P none some [] = none
by_next P none some (b ∷ bs) = some b bs

module _ (May : List ℕ → Type 0) where
  pub lexed_open_array : IsLexed May (91 ∷ 124 ∷ []) (mark symbols.OpenArray)
  unfolding form_at symbol_form pair_at pair_symbol single_symbol
  lexed_open_array = no_marks symbols.OpenArray (λ after. refl) (λ e. absurd cc) May

  pub lexed_close_array : IsLexed May (124 ∷ 93 ∷ []) (mark symbols.CloseArray)
  unfolding form_at symbol_form pair_at pair_symbol single_symbol
  lexed_close_array = no_marks symbols.CloseArray (λ after. refl) (λ e. absurd cc) May

  pub lexed_double_colon : IsLexed May (58 ∷ 58 ∷ []) (mark symbols.DoubleColon)
  unfolding form_at symbol_form pair_at pair_symbol single_symbol
  lexed_double_colon = no_marks symbols.DoubleColon (λ after. refl) (λ e. absurd cc) May

  pub lexed_close_paren : IsLexed May (41 ∷ []) (mark symbols.CloseParen)
  unfolding form_at symbol_form pair_at pair_symbol single_symbol
  lexed_close_paren = no_marks symbols.CloseParen (by_next _ refl (λ b bs. refl)) (λ e. absurd cc) May

  pub lexed_open_brace : IsLexed May (123 ∷ []) (mark symbols.OpenBrace)
  unfolding form_at symbol_form pair_at pair_symbol single_symbol
  lexed_open_brace = no_marks symbols.OpenBrace (by_next _ refl (λ b bs. refl)) (λ e. absurd cc) May

  pub lexed_close_brace : IsLexed May (125 ∷ []) (mark symbols.CloseBrace)
  unfolding form_at symbol_form pair_at pair_symbol single_symbol
  lexed_close_brace = no_marks symbols.CloseBrace (by_next _ refl (λ b bs. refl)) (λ e. absurd cc) May

  pub lexed_comma : IsLexed May (44 ∷ []) (mark symbols.Comma)
  unfolding form_at symbol_form pair_at pair_symbol single_symbol
  lexed_comma = no_marks symbols.Comma (by_next _ refl (λ b bs. refl)) (λ e. absurd cc) May

  pub lexed_equals : IsLexed May (61 ∷ []) (mark symbols.Equals)
  unfolding form_at symbol_form pair_at pair_symbol single_symbol
  lexed_equals = no_marks symbols.Equals (by_next _ refl (λ b bs. refl)) (λ e. absurd cc) May

  pub lexed_hash : IsLexed May (35 ∷ []) (mark symbols.Hash)
  unfolding form_at symbol_form pair_at pair_symbol single_symbol
  lexed_hash = no_marks symbols.Hash (by_next _ refl (λ b bs. refl)) (λ e. absurd cc) May

  pub lexed_empty : IsLexed May (91 ∷ 93 ∷ []) (mark symbols.OpenBracket ++ mark symbols.CloseBracket)
  unfolding form_at symbol_form pair_at pair_symbol single_symbol
  lexed_empty = record {
    parts = Word (Mark symbols.OpenBracket) ∷ Word (Mark symbols.CloseBracket) ∷ [];
    written = refl;
    stands = refl;
    are = λ after may. (
      found_part (Mark symbols.OpenBracket) (93 ∷ after) refl (λ e. absurd cc) tt,
      (found_part (Mark symbols.CloseBracket) after (by_next (λ after. form_at (93 ∷ after) ≡ Some (Mark symbols.CloseBracket)) refl (λ b bs. refl) after) (λ e. absurd cc) tt, tt),
    );
    one_line = (tt, (tt, tt));
  }

  -- A comma or a semicolon, followed by a space, is one lexeme.
  pub lexed_comma_space : IsLexed May (44 ∷ 32 ∷ []) (mark symbols.Comma)
  unfolding form_at symbol_form pair_at pair_symbol single_symbol
  lexed_comma_space = record {
    parts = Word (Mark symbols.Comma) ∷ Separator 32 ∷ [];
    written = refl;
    stands = refl;
    are = λ after may. (found_part (Mark symbols.Comma) (32 ∷ after) refl (λ e. absurd cc) tt, (refl, tt));
    one_line = (tt, (refl, tt));
  }

  pub lexed_semicolon_space : IsLexed May (59 ∷ 32 ∷ []) (mark symbols.Semicolon)
  unfolding form_at symbol_form pair_at pair_symbol single_symbol
  lexed_semicolon_space = record {
    parts = Word (Mark symbols.Semicolon) ∷ Separator 32 ∷ [];
    written = refl;
    stands = refl;
    are = λ after may. (found_part (Mark symbols.Semicolon) (32 ∷ after) refl (λ e. absurd cc) tt, (refl, tt));
    one_line = (tt, (refl, tt));
  }

-- ---- whole texts

pub kinds_lexemes : (parts : List TextPart) (position : ℕ) → map (λ (l : Lexeme). l.kind) (lexemes_of position parts) ≡ kinds_in parts
kinds_lexemes [] position = refl
kinds_lexemes (Separator b ∷ parts) position = kinds_lexemes parts _
kinds_lexemes (Comment inside ∷ parts) position = kinds_lexemes parts _
kinds_lexemes (Word form ∷ parts) position = ap (λ t. form_kind form ∷ t) (kinds_lexemes parts _)

pub lexed_whole : {May : List ℕ → Type 0} {text : List ℕ} {kinds : Kinds} → IsLexed May text kinds → May [] → (lexemes : List Lexeme) × Lexes text lexemes × (map (λ (l : Lexeme). l.kind) lexemes ≡ kinds)
lexed_whole one may = (lexemes_of 0 one.parts, (one.parts, one.are [] may, one.written, refl), kinds_lexemes one.parts 0 ∙ sym one.stands)

-- ---- numbers, characters, strings and doubles

pub lexed_number : (minus : Bool) (digits : List ℕ) (suffix : Suffix) → IsForm (Number minus digits suffix) → IsInRange (Number minus digits suffix)
    → IsLexed Ends (form_bytes (Number minus digits suffix)) (form_kind (Number minus digits suffix) ∷ [])
lexed_number minus digits suffix is range = lexed_form Ends (Number minus digits suffix) is (λ after ends. found_part (Number minus digits suffix) after (number_found minus digits suffix after is ends) (λ e. absurd cc) range)

pub lexed_double : (digits : List ℕ) → IsForm (Double digits) → (May : List ℕ → Type 0) → IsLexed May (form_bytes (Double digits)) (form_kind (Double digits) ∷ [])
lexed_double digits is May = lexed_form May (Double digits) is (λ after may. found_part (Double digits) after (double_found digits after is) (λ e. absurd cc) tt)

pub lexed_quoted : (chars : List CharForm) → IsForm (Quoted chars) → (May : List ℕ → Type 0) → IsLexed May (form_bytes (Quoted chars)) (form_kind (Quoted chars) ∷ [])
lexed_quoted chars is May = lexed_form May (Quoted chars) is (λ after may. found_part (Quoted chars) after (quoted_found chars after is) (λ e. absurd cc) tt)

pub lexed_character : (char : CharForm) → IsForm (Character char) → (May : List ℕ → Type 0) → IsLexed May (form_bytes (Character char)) (form_kind (Character char) ∷ [])
lexed_character char is May = lexed_form May (Character char) is (λ after may. found_part (Character char) after (character_found char after is) (λ e. absurd cc) tt)

pub lexed_open_paren : IsLexed NoStar (40 ∷ []) (mark symbols.OpenParen)
unfolding form_at symbol_form pair_at pair_symbol single_symbol
lexed_open_paren = record {
  parts = Word (Mark symbols.OpenParen) ∷ [];
  written = refl;
  stands = refl;
  are = λ after may. (paren_part after (by_next (λ after. form_at (40 ∷ after) ≡ Some (Mark symbols.OpenParen)) refl (λ b bs. refl) after) may, tt);
  one_line = (tt, tt);
}

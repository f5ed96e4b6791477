-- No lexeme of the text of a literal contains a decimal. The plain text of the literal's text with
-- decimals is the literal's text.
use Rattle.std.proofs.Common.{◌≡◌, ◌≢◌, ◌∙◌, ℕ, ◌+◌, ◌==◌, true, false, List, [], ◌∷◌, ◌++◌, length, map, slice_index_or, refl, sym, ap, subst, arith, inl, inr, append-nil, append_assoc, length-append}
use Rattle.std.specs.List.{flat_map, AllByRecursion}
use Rattle.std.proofs.lemmas.Bool.{or_cases, false≢true, eqb-true}
use Rattle.types_lex.specs.declared.lexeme.Lexeme.{Lexeme}
use Rattle.types_lex.specs.declared.lexeme.Symbol.{Symbol}
use Rattle.types_lex.specs.declared.lexeme.Symbol.TheVariants as symbols
use Rattle.types_lex.specs.Lexeme.{is_separator, is_name_byte, symbol_text, LexemeForm, Reserved, Lower, Upper, Tag, Variable, Character, Number, Quoted, Double, Mark, form_kind}
use Rattle.types_lex.specs.LexText.{TextPart, Separator, Comment, Word, part_bytes, AreParts, lexemes_of}
use Rattle.types_parse.specs.grammar.Grammar.{Kinds}
use Rattle.text_literal.specs.literal_grammar.Literal.{literal_kinds}
use Rattle.text_decimal.specs.texts.Laws.{IsApart, AreApart}
use Rattle.text_decimal.proofs.texts.DecimalTextEncodedLemmas.{first_of}
use Rattle.text_decimal.proofs.texts.DecimalTextPartsLemmas.{next_here}
use Rattle.text_decimal.proofs.texts.DecimalTextBackLemmas.{text_is_read_back}
use Rattle.text_decimal.specs.decimal_readback.Laws.{LiteralsAreApart, TextsWithDecimalsAreReadBack}
use Rattle.text_decimal.proofs.decimal_readback.DecimalReadbackKindLemmas.{shuts, AreShut, IsBefore, AreSpaced, literal_spaced}

-- No number continues with the byte `b`.
abbrev EndsNumber : ℕ → Type 0
EndsNumber b = (b ≢ 46) × (is_name_byte b ≡ false)

ends_by : (b n : ℕ) → b ≡ n → n ≢ 46 → is_name_byte n ≡ false → EndsNumber b
ends_by b n is point name = subst EndsNumber (sym is) (point, name)

separator_ends : (b : ℕ) → is_separator b ≡ true → EndsNumber b
separator_ends b is = elim (or_cases _ (b == 13) is) [
  | inr e ↦ ends_by b 13 (eqb-true b 13 e) (λ h. omega arith) refl
  | inl is ↦ elim (or_cases _ (b == 12) is) [
    | inr e ↦ ends_by b 12 (eqb-true b 12 e) (λ h. omega arith) refl
    | inl is ↦ elim (or_cases _ (b == 10) is) [
      | inr e ↦ ends_by b 10 (eqb-true b 10 e) (λ h. omega arith) refl
      | inl is ↦ elim (or_cases (b == 32) (b == 9) is) [
        | inr e ↦ ends_by b 9 (eqb-true b 9 e) (λ h. omega arith) refl
        | inl e ↦ ends_by b 32 (eqb-true b 32 e) (λ h. omega arith) refl
      ]
    ]
  ]
]

symbol_ends : (s : Symbol) (rest : List ℕ) → shuts s ≡ true → EndsNumber (first_of (symbol_text s ++ rest))
symbol_ends symbols.CloseArray rest shut = ((λ h. omega arith), refl)
symbol_ends symbols.CloseParen rest shut = ((λ h. omega arith), refl)
symbol_ends symbols.CloseBrace rest shut = ((λ h. omega arith), refl)
symbol_ends symbols.CloseBracket rest shut = ((λ h. omega arith), refl)
symbol_ends symbols.Comma rest shut = ((λ h. omega arith), refl)
symbol_ends symbols.Semicolon rest shut = ((λ h. omega arith), refl)
symbol_ends symbols.Equals rest shut = ((λ h. omega arith), refl)
symbol_ends symbols.OpenArray rest shut = absurd (false≢true shut)
symbol_ends symbols.DoubleSemicolon rest shut = absurd (false≢true shut)
symbol_ends symbols.DoubleColon rest shut = absurd (false≢true shut)
symbol_ends symbols.OpenParen rest shut = absurd (false≢true shut)
symbol_ends symbols.OpenBrace rest shut = absurd (false≢true shut)
symbol_ends symbols.OpenBracket rest shut = absurd (false≢true shut)
symbol_ends symbols.Bar rest shut = absurd (false≢true shut)
symbol_ends symbols.Colon rest shut = absurd (false≢true shut)
symbol_ends symbols.Star rest shut = absurd (false≢true shut)
symbol_ends symbols.Dot rest shut = absurd (false≢true shut)
symbol_ends symbols.Hash rest shut = absurd (false≢true shut)

abbrev kinds_at : ℕ → List TextPart → Kinds
kinds_at position ps = map (λ (l : Lexeme). l.kind) (lexemes_of position ps)

-- If the lexemes of the parts cannot continue a number, then the text of the parts begins with a
-- byte that ends a number.
parts_end : (ps : List TextPart) (position : ℕ) → AreParts ps [] → AreShut (kinds_at position ps) → EndsNumber (first_of (flat_map part_bytes ps))
parts_end [] position are shut = ((λ h. omega arith), refl)
parts_end (Separator b ∷ ps) position are shut = separator_ends b are.0
parts_end (Comment inside ∷ ps) position are shut = ((λ h. omega arith), refl)
parts_end (Word (Mark s) ∷ ps) position are shut = symbol_ends s (flat_map part_bytes ps) shut
parts_end (Word (Reserved k) ∷ ps) position are shut = absurd shut
parts_end (Word (Lower name) ∷ ps) position are shut = absurd shut
parts_end (Word (Upper name) ∷ ps) position are shut = absurd shut
parts_end (Word (Tag name) ∷ ps) position are shut = absurd shut
parts_end (Word (Variable name) ∷ ps) position are shut = absurd shut
parts_end (Word (Character c) ∷ ps) position are shut = absurd shut
parts_end (Word (Number minus digits suffix) ∷ ps) position are shut = absurd shut
parts_end (Word (Quoted cs) ∷ ps) position are shut = absurd shut
parts_end (Word (Double digits) ∷ ps) position are shut = absurd shut

form_apart : (form : LexemeForm) (ks : Kinds) (next : ℕ) → IsBefore (form_kind form) ks → (AreShut ks → EndsNumber next) → IsApart (form_kind form) next
form_apart (Number minus digits suffix) ks next before ends = ends before
form_apart (Variable name) ks next before ends = before
form_apart (Mark s) ks next before ends = tt
form_apart (Reserved k) ks next before ends = tt
form_apart (Lower name) ks next before ends = tt
form_apart (Upper name) ks next before ends = tt
form_apart (Tag name) ks next before ends = tt
form_apart (Character c) ks next before ends = tt
form_apart (Quoted cs) ks next before ends = tt
form_apart (Double digits) ks next before ends = tt

module _ (p : TextPart) (ps : List TextPart) (text before : List ℕ) (position : ℕ) (is : text ≡ before ++ flat_map part_bytes (p ∷ ps)) (at : length before ≡ position) where
  longer_is : text ≡ (before ++ part_bytes p) ++ flat_map part_bytes ps
  longer_is = is ∙ sym (append_assoc before (part_bytes p) (flat_map part_bytes ps))

  longer_at : length (before ++ part_bytes p) ≡ position + length (part_bytes p)
  longer_at = length-append before (part_bytes p) ∙ ap (λ (n : ℕ). n + length (part_bytes p)) at

parts_apart : (ps : List TextPart) (text before : List ℕ) (position : ℕ) → text ≡ before ++ flat_map part_bytes ps → length before ≡ position → AreParts ps [] → AreSpaced (kinds_at position ps)
    → AllByRecursion (λ (l : Lexeme). IsApart l.kind (slice_index_or text (l.span.first + l.span.len) 32)) (lexemes_of position ps)
parts_apart [] text before position is at are spaced = tt
parts_apart (Separator b ∷ ps) text before position is at are spaced =
    let p = Separator b in
    parts_apart ps text (before ++ part_bytes p) (position + length (part_bytes p)) (longer_is p ps text before position is at) (longer_at p ps text before position is at) are.1 spaced
parts_apart (Comment inside ∷ ps) text before position is at are spaced =
    let p = Comment inside in
    parts_apart ps text (before ++ part_bytes p) (position + length (part_bytes p)) (longer_is p ps text before position is at) (longer_at p ps text before position is at) are.1 spaced
parts_apart (Word form ∷ ps) text before position is at are spaced =
    let p = Word form in
    let rest = flat_map part_bytes ps in
    let far = position + length (part_bytes p) in (
      subst (IsApart (form_kind form)) (sym (next_here text before position at form rest is))
          (form_apart form (kinds_at far ps) (first_of rest) spaced.0 (λ shut. parts_end ps far are.1 shut)),
      parts_apart ps text (before ++ part_bytes p) far (longer_is p ps text before position is at) (longer_at p ps text before position is at) are.1 spaced.1,
    )

pub literals_are_apart : LiteralsAreApart
literals_are_apart text lexemes literal (ps, are, is, found) encoded =
    let whole : AreSpaced (literal_kinds literal) = subst AreSpaced (append-nil (literal_kinds literal)) (literal_spaced literal [] tt tt) in
    let kinds : literal_kinds literal ≡ kinds_at 0 ps = encoded ∙ ap (λ ls. map (λ (l : Lexeme). l.kind) ls) found in
    subst (AreApart text) (sym found) (parts_apart ps text [] 0 is refl are (subst AreSpaced kinds whole))

pub texts_are_read_back : TextsWithDecimalsAreReadBack
texts_are_read_back decls tree t text back =
    let both = text_is_read_back text back.lexemes back.lexes (literals_are_apart text back.lexemes back.literal back.lexes back.encoded) in
    record { decimals = both.0; plain = both.1 }

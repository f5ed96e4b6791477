-- The text begins with the bytes of the symbol that the lexer finds.
use Rattle.std.proofs.Common.{◌≡◌, ◌⊎◌, ℕ, Bool, true, false, ◌&&◌, cond, eqb, List, [], ◌∷◌, ◌++◌, length, Option, Some, None, Ok, refl, sym, ap, ◌∙◌, inl, inr, ⊎_elim}
use Rattle.std.proofs.lemmas.Bool.{eqb-true, and_parts}
use Rattle.types_lex.specs.declared.lexeme.Symbol.{Symbol}
use Rattle.types_lex.specs.declared.lexeme.Symbol.TheVariants as symbols
use Rattle.types_lex.specs.Lexeme.{symbol_text}
use Rattle.types_lex.specs.declared.lexeme.LexemeKind.TheVariants as kinds
use Rattle.types_lex.specs.declared.found_lexeme.FoundLexeme.{FoundLexeme}
use Rattle.types_lex.specs.Lexer.{pair_symbol, single_symbol, pair_at, symbol_form, found_at}

-- If a chain of tests returns a symbol, then the first test or a later test returns the symbol.
tested : (test : Bool) (x s : Symbol) (others : Option Symbol) → cond test (Some x) others ≡ Some s → ((test ≡ true) × (x ≡ s)) ⊎ (others ≡ Some s)
tested true x s others e = inl (refl, cc)
tested false x s others e = inr e

none : {s : Symbol} → None ≡ Some s → ⊥
none e = cc

-- If a test of one byte succeeds, then the byte is the text of the symbol.
one : (a n : ℕ) (x s : Symbol) (others : Option Symbol) → symbol_text x ≡ n ∷ [] → cond (eqb a n) (Some x) others ≡ Some s → (others ≡ Some s → a ∷ [] ≡ symbol_text s) → a ∷ [] ≡ symbol_text s
one a n x s others text e next = ⊎_elim (λ h. ap (λ (b : ℕ). b ∷ []) (eqb-true a n h.0) ∙ sym text ∙ ap symbol_text h.1) next (tested (eqb a n) x s others e)

-- If a test of two bytes succeeds, then the bytes are the text of the symbol.
two : (a b m n : ℕ) (x s : Symbol) (others : Option Symbol) → symbol_text x ≡ m ∷ n ∷ [] → cond (eqb a m && eqb b n) (Some x) others ≡ Some s → (others ≡ Some s → a ∷ b ∷ [] ≡ symbol_text s) → a ∷ b ∷ [] ≡ symbol_text s
two a b m n x s others text e next =
    ⊎_elim
    (λ h. let p = and_parts (eqb a m) (eqb b n) h.0 in (λ i. eqb-true a m p.0 i ∷ eqb-true b n p.1 i ∷ []) ∙ sym text ∙ ap symbol_text h.1)
    next
    (tested (eqb a m && eqb b n) x s others e)

pub single_symbol-is : (a : ℕ) (s : Symbol) → single_symbol a ≡ Some s → a ∷ [] ≡ symbol_text s
unfolding single_symbol
single_symbol-is a s e =
    one a 40 symbols.OpenParen s _ refl e (λ e.
    one a 41 symbols.CloseParen s _ refl e (λ e.
    one a 123 symbols.OpenBrace s _ refl e (λ e.
    one a 125 symbols.CloseBrace s _ refl e (λ e.
    one a 91 symbols.OpenBracket s _ refl e (λ e.
    one a 93 symbols.CloseBracket s _ refl e (λ e.
    one a 124 symbols.Bar s _ refl e (λ e.
    one a 44 symbols.Comma s _ refl e (λ e.
    one a 59 symbols.Semicolon s _ refl e (λ e.
    one a 58 symbols.Colon s _ refl e (λ e.
    one a 61 symbols.Equals s _ refl e (λ e.
    one a 42 symbols.Star s _ refl e (λ e.
    one a 46 symbols.Dot s _ refl e (λ e.
    one a 35 symbols.Hash s _ refl e (λ e.
    absurd (none e)))))))))))))))

pub pair_symbol-is : (a b : ℕ) (s : Symbol) → pair_symbol a b ≡ Some s → a ∷ b ∷ [] ≡ symbol_text s
unfolding pair_symbol
pair_symbol-is a b s e =
    two a b 91 124 symbols.OpenArray s _ refl e (λ e.
    two a b 124 93 symbols.CloseArray s _ refl e (λ e.
    two a b 59 59 symbols.DoubleSemicolon s _ refl e (λ e.
    two a b 58 58 symbols.DoubleColon s _ refl e (λ e.
    absurd (none e)))))

pub pair_at-is : (a : ℕ) (bs : List ℕ) (s : Symbol) → pair_at a bs ≡ Some s → (rest : List ℕ) × (a ∷ bs ≡ symbol_text s ++ rest) × (length (symbol_text s) ≡ 2)
unfolding pair_at
pair_at-is a [] s e = absurd (none e)
pair_at-is a (b ∷ bs) s e = let is = pair_symbol-is a b s e in (bs, ap (λ t. t ++ bs) is, ap length (sym is))

abbrev pub symbol_found : Symbol → ℕ → FoundLexeme
symbol_found s len = record { kind = kinds.Symbol s; len = len }

pub found_pair : (a : ℕ) (bs : List ℕ) (s : Symbol) → pair_at a bs ≡ Some s → found_at (symbol_form a bs) ≡ Ok (symbol_found s 2)
unfolding symbol_form
found_pair a bs s e = let long = (pair_at-is a bs s e).2 in rw (e, long) refl

pub found_single : (a : ℕ) (bs : List ℕ) (s : Symbol) → pair_at a bs ≡ None → single_symbol a ≡ Some s → found_at (symbol_form a bs) ≡ Ok (symbol_found s 1)
unfolding symbol_form
found_single a bs s none e = let long : length (symbol_text s) ≡ 1 = ap length (sym (single_symbol-is a s e)) in rw (none, e, long) refl

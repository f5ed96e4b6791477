-- Keywords and names.
use Rattle.std.proofs.Common.{◌≡◌, ℕ, ◌⊎◌, Bool, true, false, cond, List, length, take, Option, Some, None, refl, sym, ap, ◌∙◌, inl, inr}
use Rattle.std.specs.Str.{bytes_eq}
use Rattle.std.proofs.lemmas.Slice.Eq.{bytes_eq-Decides}
use Rattle.types_lex.specs.declared.lexeme.Keyword.{Keyword}
use Rattle.types_lex.specs.declared.lexeme.Keyword.TheVariants as keywords
use Rattle.std.specs.List.{prefix_len, take_while}
use Rattle.std.proofs.lemmas.List.Folds.{length-prefix_len}
use Rattle.types_lex.specs.declared.lexeme.LexemeKind.TheVariants as kinds
use Rattle.types_lex.specs.Lexeme.{keyword_text, is_name_byte}
use Rattle.types_lex.specs.declared.found_lexeme.FoundLexeme.{FoundLexeme}
use Rattle.types_lex.specs.Lexer.{keyword_of, word_form, found}

-- If a chain of tests returns a keyword, then the name is the text of the keyword or a later test
-- returns the keyword.
one-keyword : (name : List ℕ) (k j : Keyword) (b : Bool) (others : Option Keyword) → bytes_eq name (keyword_text j) ≡ b → cond b (Some j) others ≡ Some k → (name ≡ keyword_text k) ⊎ (others ≡ Some k)
one-keyword name k j true others same e = inl ((bytes_eq-Decides name (keyword_text j)).0 same ∙ ap keyword_text cc)
one-keyword name k j false others same e = inr e

pub keyword_of-some : (name : List ℕ) (k : Keyword) → keyword_of name ≡ Some k → name ≡ keyword_text k
keyword_of-some name k e =
    let first = one-keyword name k keywords.Type _ _ refl e in
    elim first [
      | inl is ↦ is
      | inr e ↦
          elim (one-keyword name k keywords.And _ _ refl e) [
            | inl is ↦ is
            | inr e ↦
                elim (one-keyword name k keywords.Of _ _ refl e) [
                  | inl is ↦ is
                  | inr e ↦
                      elim (one-keyword name k keywords.Mutable _ None refl e) [ inl is ↦ is | inr e ↦ absurd cc ]
                ]
          ]
    ]

abbrev pub keyword_found : Keyword → ℕ → FoundLexeme
keyword_found k len = record { kind = kinds.Keyword k; len = len }

-- If a word is a keyword, then the form of the word is the keyword.
pub reserved_word : (text : List ℕ) (k : Keyword) (len : ℕ) → len ≡ prefix_len is_name_byte text → keyword_of (take len text) ≡ Some k → found (word_form (take_while is_name_byte text)) ≡ keyword_found k len
unfolding word_form
reserved_word text k len is key =
    let name : take len text ≡ keyword_text k = keyword_of-some (take len text) k key in
    let long : length (keyword_text k) ≡ len = ap length (sym name) ∙ ap (λ n. length (take n text)) is ∙ length-prefix_len is_name_byte text ∙ sym is in
    rw (← is, key, long) refl

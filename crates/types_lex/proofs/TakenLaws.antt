-- The form that the lexer finds is the lexeme of the grammar.
use Rattle.std.proofs.Common.{◌≡◌, ◌≢◌, ℕ, List, ◌∷◌, ◌++◌, length, Option, Some, None, refl, sym, ap, subst, ◌∙◌, arith, inl, inr}
use Rattle.std.proofs.lemmas.Bool.{true≢false, cases_Bool}
use Rattle.types_lex.specs.Lexeme.{LexemeForm, form_bytes, IsForm, is_character, Precedes}
use Rattle.types_lex.specs.LexText.{IsTaken}
use Rattle.types_lex.specs.Lexer.{form_at}
use Rattle.types_lex.proofs.CharLaws.{some_is}
use Rattle.types_lex.proofs.FormLaws.{form_at-begins}
use Rattle.types_lex.proofs.PrefixLaws.{Beats, Wins, form-found}

-- If `form` precedes `winner`, then `winner` does not beat `form`.
not_beaten : (form winner : LexemeForm) → Precedes form winner → Beats winner form → ⊥
not_beaten form winner (inl char) (inl beats) = true≢false (sym char ∙ beats.1)
not_beaten form winner (inl char) (inr beats) = true≢false (sym char ∙ beats.1)
not_beaten form winner (inr first) (inl beats) = true≢false (sym beats.0 ∙ first.0)
not_beaten form winner (inr first) (inr beats) = omega (arith, first.1, beats.2)

comes_first : (form other : LexemeForm) → Wins form other → Precedes form other
comes_first form other (inr (inl beats)) = inl beats.0
comes_first form other (inr (inr beats)) = inr (beats.1, omega (arith, beats.2))
comes_first form other (inl same) =
    elim (cases_Bool (is_character form)) [
      | inl char ↦ inl char
      | inr plain ↦ inr (sym (ap is_character same) ∙ plain, omega (arith, ap (λ f. length (form_bytes f)) same))
    ]

-- If a form is the lexeme of the grammar at the start of a text, then the lexer finds the form.
pub found-taken : (form : LexemeForm) (after : List ℕ) → IsTaken form after → form_at (form_bytes form ++ after) ≡ Some form
found-taken form after taken =
    let found = form-found form after taken.written in
    let begins = form_at-begins (form_bytes form ++ after) found.0 found.1 in
    elim found.2 [
      | inl same ↦ found.1 ∙ ap (λ f. Some f) same
      | inr beats ↦ absurd (not_beaten form found.0 (taken.first found.0 begins.1.0 begins.0 (sym begins.1.1)) beats)
    ]

-- If no comment begins, then the form that the lexer finds is the lexeme of the grammar.
pub taken-found : (text : List ℕ) (form : LexemeForm) → form_at text ≡ Some form → ((more : List ℕ) → text ≢ 40 ∷ 42 ∷ more)
    → (after : List ℕ) × (text ≡ form_bytes form ++ after) × IsTaken form after
taken-found text form e no_comment =
    let begins = form_at-begins text form e in (
      begins.1.0,
      begins.1.1,
      record {
        written = begins.0;
        no_comment = λ more is. no_comment more (begins.1.1 ∙ is);
        first = λ other more written is.
            let found = form-found other more written in
            let same : found.0 ≡ form = some_is (sym found.1 ∙ ap form_at (is ∙ sym begins.1.1) ∙ e) in
            subst (λ f. Precedes f other) same (comes_first found.0 other found.2);
      },
    )

-- If the lexer finds no form, then the text begins with no form.
pub none-found : (text : List ℕ) → form_at text ≡ None → (form : LexemeForm) (after : List ℕ) → IsForm form → form_bytes form ++ after ≢ text
none-found text none form after written is =
    let found = form-found form after written in
    let both : Some found.0 ≡ None = sym found.1 ∙ ap form_at is ∙ none in
    absurd cc

-- If the text begins with no form, then the lexer finds no form.
pub found-none : (text : List ℕ) → ((form : LexemeForm) (after : List ℕ) → IsForm form → form_bytes form ++ after ≢ text) → form_at text ≡ None
found-none text free = by_form (form_at text) refl
  where
    by_form : (o : Option LexemeForm) → form_at text ≡ o → o ≡ None
    by_form None e = refl
    by_form (Some form) e = let begins = form_at-begins text form e in absurd (free form begins.1.0 begins.0 (sym begins.1.1))

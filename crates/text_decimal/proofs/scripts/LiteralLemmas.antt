-- The lexemes of a literal, one after another, with their offsets in the original line.
use Rattle.std.proofs.Common.{ℕ, ◌+◌, ◌≡◌, ◌<◌, ◌∙◌, List, [], ◌∷◌, ◌++◌, length, map, take, get_or, Option, Some, option_map, slice_get, refl, sym, ap}
use Rattle.std.proofs.lemmas.List.{map_more}
use Rattle.std.proofs.lemmas.Option.{slice_get_read}
use Rattle.types_lex.specs.declared.lexeme.Lexeme.{Lexeme}
use Rattle.types_lex.specs.declared.lexeme.LexemeKind.{LexemeKind}
use Rattle.text_decimal.specs.declared.texts.decimals.Decimal.{Decimal}
use Rattle.text_decimal.specs.scripts.Scripts.{line_position, given_lexeme}

module _ (decimals : List Decimal) (literal : List Lexeme) (k : ℕ) (below : k < length literal) (lexeme : Lexeme) (is : lexeme ≡ get_or literal k lexeme) where
  abbrev placed : LexemeKind → ℕ → Lexeme
  placed kind first = record { kind = kind; span = record { first = first; len = lexeme.span.len } }

  same_kind : (kind : LexemeKind) → Some kind ≡ option_map (λ (l : Lexeme). l.kind) (slice_get literal k) → kind ≡ lexeme.kind
  same_kind kind e =
      let both : ◌≡◌ {A = Option LexemeKind} (Some kind) (Some lexeme.kind) =
      e ∙ ap (λ at. option_map (λ (l : Lexeme). l.kind) at) (slice_get_read literal (length literal) k lexeme refl below is) in cc both

  pub lexeme_more : (kind : LexemeKind) → Some kind ≡ option_map (λ (l : Lexeme). l.kind) (slice_get literal k)
      → (first : ℕ) → first ≡ line_position decimals lexeme.span.first
      → (given new : List Lexeme) → given ≡ map (given_lexeme decimals) (take k literal) → new ≡ given ++ placed kind first ∷ []
      → new ≡ map (given_lexeme decimals) (take (k + 1) literal)
  lexeme_more kind kind_is first first_is given new before write =
      let same : placed kind first ≡ given_lexeme decimals (get_or literal k lexeme) =
      ap (λ kd. placed kd first) (same_kind kind kind_is) ∙ (ap (λ f. placed lexeme.kind f) first_is ∙ ap (given_lexeme decimals) is) in
      write ∙ (ap (λ g. g ++ placed kind first ∷ []) before
      ∙ (ap (λ l. map (given_lexeme decimals) (take k literal) ++ l ∷ []) same ∙ sym (map_more (given_lexeme decimals) literal k lexeme below)))

-- A text has at most one answer. The result of the lexer is unique, the result of the grammar is
-- unique, and only one violation of a scope rule is the first.
use Rattle.std.proofs.Common.{ℕ, ◌≡◌, ◌∙◌, ⊎_elim, List, length, sym, ap, subst}
use Rattle.std.specs.Prelude.{Result, Ok, Err}
use Rattle.std.proofs.lemmas.Bool.{cases_order}
use Rattle.types_lex.specs.declared.lexeme.Lexeme.{Lexeme}
use Rattle.types_lex.specs.declared.lexeme.LexFault.{LexFault}
use Rattle.types_lex.proofs.PartLaws.{has_one_outcome}
use Rattle.types_spec.specs.types.Scope.{Rule, turn, IsFirst}
use Rattle.types_resolve.proofs.scope.ScopeFirstLemmas.{same_turn}
use Rattle.types_parse.specs.grammar.Grammar.{Kinds}
use Rattle.types_parse.specs.grammar.Refusals.{TextReading, text_read, syntax_at, too_deep_at, IsReading}
use Rattle.types_parse.specs.grammar.Laws.{HasOneReading}
use Rattle.types_parse.specs.grammar.LexemeKinds.{kinds_of}
use Rattle.types_parse.specs.parse.Parsed.{byte_of}
use Rattle.types_wellformed.specs.declarations.DeclarationAnswer.{DeclarationAnswer, accepted, no_lexemes, no_text, too_deep, broken}
use Rattle.types_wellformed.specs.declarations.DeclarationAnswer.{IsJudged, IsRead, IsLexed, IsAnswer, HasOneAnswer}

-- ---- one violation comes first

module _ (Breaks : Rule → ℕ → Type 0) where
  one_first_rule : (one other : Rule) (j k : ℕ) → IsFirst Breaks one j → IsFirst Breaks other k → one ≡ other
  one_first_rule one other j k first second = ⊎_elim
      (λ same. same_turn one other same)
      (λ unequal. ⊎_elim
      (λ less. absurd (second.earlier one j less first.broken))
      (λ greater. absurd (first.earlier other k greater second.broken)) unequal)
      (cases_order (turn one) (turn other))

  one_first_position : (rule : Rule) (j k : ℕ) → IsFirst Breaks rule j → IsFirst Breaks rule k → j ≡ k
  one_first_position rule j k first second = ⊎_elim
      (λ same. same)
      (λ unequal. ⊎_elim
      (λ less. absurd (second.least j less first.broken))
      (λ greater. absurd (first.least k greater second.broken)) unequal)
      (cases_order j k)

-- ---- stage by stage

module _ {Tree : Type 0} (encoded : Tree → Kinds) (ends : Tree → List ℕ) (Breaks : Tree → Rule → ℕ → Type 0) where
  one_broken :
      (lexemes : List Lexeme) (end : ℕ) (tree : Tree) (one other : Rule) (j k : ℕ)
      → IsJudged encoded ends Breaks lexemes end tree (broken one j)
      → IsJudged encoded ends Breaks lexemes end tree (broken other k)
      → ◌≡◌ {A = DeclarationAnswer Tree} (broken one j) (broken other k)
  one_broken lexemes end tree one other j k (a, first, at) (b, second, there) =
      let rule = one_first_rule (Breaks tree) one other a b first second in
      let same = subst (λ r. IsFirst (Breaks tree) r b) (sym rule) second in
      let position = sym at ∙ ap (byte_of lexemes end) (one_first_position (Breaks tree) one a b first same) ∙ there in
      ap (λ r. broken r j) rule ∙ ap (broken other) position

  one_judged :
      (lexemes : List Lexeme) (end : ℕ) (tree : Tree) (one other : DeclarationAnswer Tree)
      → IsJudged encoded ends Breaks lexemes end tree one
      → IsJudged encoded ends Breaks lexemes end tree other → one ≡ other
  one_judged lexemes end tree (accepted t) (accepted u) one other = ap accepted (sym one.0 ∙ other.0)
  one_judged lexemes end tree (accepted t) (no_lexemes f) one other = absurd other
  one_judged lexemes end tree (accepted t) (no_text k) one other = absurd other
  one_judged lexemes end tree (accepted t) (too_deep k) one other = absurd other
  one_judged lexemes end tree (accepted t) (broken rule k) one other = absurd (one.1 rule other.0 other.1.broken)
  one_judged lexemes end tree (no_lexemes f) answer one other = absurd one
  one_judged lexemes end tree (no_text k) answer one other = absurd one
  one_judged lexemes end tree (too_deep k) answer one other = absurd one
  one_judged lexemes end tree (broken rule k) (accepted t) one other = absurd (other.1 rule one.0 one.1.broken)
  one_judged lexemes end tree (broken rule k) (no_lexemes f) one other = absurd other
  one_judged lexemes end tree (broken rule k) (no_text j) one other = absurd other
  one_judged lexemes end tree (broken rule k) (too_deep j) one other = absurd other
  one_judged lexemes end tree (broken rule j) (broken more k) one other = one_broken lexemes end tree rule more j k one other

  one_read :
      (lexemes : List Lexeme) (end : ℕ) (reading : TextReading Tree) (one other : DeclarationAnswer Tree)
      → IsRead encoded ends Breaks lexemes end reading one
      → IsRead encoded ends Breaks lexemes end reading other → one ≡ other
  one_read lexemes end (text_read tree) one other first second = one_judged lexemes end tree one other first second
  one_read lexemes end (syntax_at k) one other first second = sym first ∙ second
  one_read lexemes end (too_deep_at k) one other first second = sym first ∙ second

  module _ (readings : HasOneReading encoded ends) where
    one_reading_of : (lexemes : Kinds) (r s : TextReading Tree) → IsReading encoded ends lexemes r → IsReading encoded ends lexemes s → s ≡ r
    one_reading_of lexemes r s one other = let first = readings lexemes in first.2 s other ∙ sym (first.2 r one)

    one_lexed :
        (end : ℕ) (outcome : Result (List Lexeme) LexFault) (one other : DeclarationAnswer Tree)
        → IsLexed encoded ends Breaks end outcome one
        → IsLexed encoded ends Breaks end outcome other → one ≡ other
    one_lexed end (Ok lexemes) one other (r, read, first) (s, more, second) =
        let same = one_reading_of (kinds_of lexemes) r s read more in
        one_read lexemes end r one other first (subst (λ x. IsRead encoded ends Breaks lexemes end x other) same second)
    one_lexed end (Err fault) one other first second = sym first ∙ second

    pub one_answer : HasOneAnswer (IsAnswer encoded ends Breaks)
    one_answer text one other (o, first, lexed) (p, second, more) =
        let only = has_one_outcome text in
        let same = only.2 p second ∙ sym (only.2 o first) in
        one_lexed (length text) o one other lexed (subst (λ x. IsLexed encoded ends Breaks (length text) x other) same more)

-- The rules that depend on heads are checked after the rules on names.
use Rattle.std.proofs.Common.{ℕ, ⊎_elim, List, length, Some, None, refl}
use Rattle.std.specs.Prelude.{Ok}
use Rattle.std.proofs.lemmas.Bool.{cases_lt}
use Rattle.types_lex.specs.declared.lexeme.Lexeme.{Lexeme}
use Rattle.types_lex.specs.LexText.{Lexes}
use Rattle.types_spec.specs.types.Scope.{Rule, turn, IsFirst, KeepsAll}
use Rattle.types_parse.specs.grammar.Grammar.{Kinds}
use Rattle.types_parse.specs.grammar.Refusals.{IsText, text_read}
use Rattle.types_parse.specs.grammar.LexemeKinds.{kinds_of}
use Rattle.types_resolve.specs.scope.First.{KeepsBefore}
use Rattle.types_wellformed.specs.declared.head_rules.broken.HeadBreak.{HeadBreak}
use Rattle.types_wellformed.specs.declared.head_rules.broken.HeadBreak.TheVariants as heads
use Rattle.types_wellformed.specs.head_rules.Broken.{IsFirstOfHeads, rule_of_break, position_of_break}
use Rattle.types_wellformed.specs.declarations.DeclarationAnswer.{IsAnswer, accepted}
use Rattle.types_wellformed.specs.declarations.DeclarationFault.{head_at, IsRefused, HasNames}

module _ (Breaks : Rule → ℕ → Type 0) (Hashes : ℕ → List ℕ → List ℕ → Type 0) (keeps : KeepsBefore Breaks 7) where
  first_broken : (b : HeadBreak) → IsFirstOfHeads Breaks Hashes (Some b) → IsFirst Breaks (rule_of_break b) (position_of_break b)
  first_broken b is = record {
    broken = is.0;
    least = is.1;
    earlier = λ other j less. ⊎_elim (λ before. keeps other j before) (λ behind. is.2 other j behind less) (cases_lt (turn other) 7);
  }

  pub all_kept : IsFirstOfHeads Breaks Hashes None → KeepsAll Breaks
  all_kept is rule k = ⊎_elim (λ before. keeps rule k before) (λ behind. is rule k behind) (cases_lt (turn rule) 7)

-- The results of the rules for the tree of a text.
module _ {Tree : Type 0} (encoded : Tree → Kinds) (ends : Tree → List ℕ) (Breaks : Tree → Rule → ℕ → Type 0)
    (Hashes : Tree → ℕ → List ℕ → List ℕ → Type 0) (text : List ℕ) (lexemes : List Lexeme) (lexes : Lexes text lexemes)
    (tree : Tree) (reads : IsText encoded ends (kinds_of lexemes) tree) (keeps : KeepsBefore (Breaks tree) 7) where
  pub heads_refuse :
      (b : HeadBreak) → IsFirstOfHeads (Breaks tree) (Hashes tree) (Some b)
      → IsRefused (IsAnswer encoded ends Breaks text) (head_at lexemes (length text) b)
  heads_refuse (heads.NotVariant k) is =
      (Ok lexemes, lexes, (text_read tree, reads, (k, first_broken (Breaks tree) (Hashes tree) keeps (heads.NotVariant k) is, refl)))
  heads_refuse (heads.TagClash k) is =
      (Ok lexemes, lexes, (text_read tree, reads, (k, first_broken (Breaks tree) (Hashes tree) keeps (heads.TagClash k) is, refl)))
  heads_refuse (heads.HashClash k one other) is = (
    Ok lexemes,
    lexes,
    (text_read tree, reads, (k, first_broken (Breaks tree) (Hashes tree) keeps (heads.HashClash k one other) is, refl)),
  )
  heads_refuse (heads.FloatInGroup k) is =
      (Ok lexemes, lexes, (text_read tree, reads, (k, first_broken (Breaks tree) (Hashes tree) keeps (heads.FloatInGroup k) is, refl)))
  heads_refuse (heads.MixedRecord k) is =
      (Ok lexemes, lexes, (text_read tree, reads, (k, first_broken (Breaks tree) (Hashes tree) keeps (heads.MixedRecord k) is, refl)))

  pub heads_named :
      (b : HeadBreak) → IsFirstOfHeads (Breaks tree) (Hashes tree) (Some b) → HasNames encoded ends Hashes text (head_at lexemes (length text) b)
  heads_named (heads.NotVariant k) is = tt
  heads_named (heads.TagClash k) is = tt
  heads_named (heads.HashClash k one other) is =
      record { lexemes = lexemes; tree = tree; lexeme = k; lexed = lexes; reads = reads; at = refl; hash = is.3 }
  heads_named (heads.FloatInGroup k) is = tt
  heads_named (heads.MixedRecord k) is = tt

  pub heads_accept : IsFirstOfHeads (Breaks tree) (Hashes tree) None → IsAnswer encoded ends Breaks text (accepted tree)
  heads_accept is = (Ok lexemes, lexes, (text_read tree, reads, (refl, all_kept (Breaks tree) (Hashes tree) keeps is)))

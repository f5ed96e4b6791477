-- Laws of a grammar, for any type of trees.
use Rattle.std.specs.Prelude.{ℕ, ◌<◌, ◌≡◌, ◌⊎◌, List, length}
use Rattle.types_parse.specs.grammar.Grammar.{Kinds}
use Rattle.types_parse.specs.grammar.Refusals.{IsSyntax, IsDeep, TextReading, IsReading}

module _ {Text : Type 0} (encoded : Text → Kinds) where
  -- At most one tree has a given list of lexemes.
  abbrev pub HasOneTree : Type 0
  HasOneTree = (t u : Text) → encoded t ≡ encoded u → t ≡ u

  -- Every list of lexemes either is a text of the grammar or has exactly one position of a syntax
  -- error.
  abbrev pub IsTextOrSyntax : Type 0
  IsTextOrSyntax =
      (lexemes : Kinds) →
      ((t : Text) × (encoded t ≡ lexemes))
      ⊎ ((k : ℕ) × IsSyntax encoded lexemes k × ((j : ℕ) → IsSyntax encoded lexemes j → j ≡ k))

  -- A text of the grammar has no syntax error.
  abbrev pub HasNoSyntax : Type 0
  HasNoSyntax = (t : Text) (k : ℕ) → IsSyntax encoded (encoded t) k → ⊥

module _ {Text : Type 0} (encoded : Text → Kinds) (ends : Text → List ℕ) where
  -- The list of depths of a tree is as long as the tree's list of lexemes.
  abbrev pub HasEndsForEach : Type 0
  HasEndsForEach = (t : Text) → length (ends t) ≡ length (encoded t)

  -- Every position that is too deep comes before the syntax error.
  abbrev pub SyntaxComesFirst : Type 0
  SyntaxComesFirst = (lexemes : Kinds) (j k : ℕ) → IsDeep encoded ends lexemes j →
      IsSyntax encoded lexemes k → j < k

  -- Every list of lexemes has exactly one reading.
  abbrev pub HasOneReading : Type 0
  HasOneReading =
      (lexemes : Kinds) →
      (r : TextReading Text) × IsReading encoded ends lexemes r
      × ((other : TextReading Text) → IsReading encoded ends lexemes other → other ≡ r)

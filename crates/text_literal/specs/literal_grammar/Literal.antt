-- The grammar of literals, the textual form of values. The type of trees has one case for each
-- production of the grammar.
use Rattle.std.specs.Prelude.{ℕ, Bool, true, false, Option, Some, None, List, [], ◌∷◌, ◌++◌, codes}
use Rattle.types_lex.specs.declared.lexeme.LexemeKind.TheVariants as kinds
use Rattle.types_lex.specs.declared.lexeme.Integer.{Integer}
use Rattle.types_lex.specs.declared.lexeme.Symbol.{Symbol}
use Rattle.types_lex.specs.declared.lexeme.Symbol.TheVariants as symbols
use Rattle.types_parse.specs.grammar.Grammar.{Name, Kinds, mark, lower}
use Rattle.types_parse.specs.grammar.LexemeKinds.{number}

-- A head: the lexemes before arguments or fields, or a constant.
pub data LiteralHead : Type 0 where
  upper_head : Name → LiteralHead
  tag_head : Name → LiteralHead
  cons_head : LiteralHead
  empty_head : LiteralHead
  ref_head : LiteralHead

mutual
  -- A literal: a plain literal with or without a label, or a reference to a label.
  pub data Literal : Type 0 where
    labelled : Option ℕ → Plain → Literal
    again : ℕ → Literal

  pub data Plain : Type 0 where
    integer : Integer → Plain
    character : ℕ → Plain
    string : List ℕ → Plain
    double : ℕ → Plain
    truth : Bool → Plain
    unit : Plain
    constant : LiteralHead → Plain
    -- A head with arguments: the arguments before the last argument, and the last argument.
    applied : LiteralHead → Parts → Literal → Plain
    -- Fields in braces: the fields before the last field, and the name and value of the last field.
    fields : Option LiteralHead → FieldRows → Name → Literal → Plain
    -- A tuple of two or more parts.
    tuple : Parts → Literal → Literal → Plain
    empty_array : Plain
    array : Parts → Literal → Plain

  -- A list of parts, each of which is followed by a further part.
  pub data Parts : Type 0 where
    no_parts : Parts
    more_parts : Parts → Literal → Parts

  -- A list of fields, each of which is followed by a further field.
  pub data FieldRows : Type 0 where
    no_rows : FieldRows
    more_rows : FieldRows → Name → Literal → FieldRows

-- ---- the lexemes of a tree

-- The lexemes of a reference `#k`.
abbrev pub reference : ℕ → Kinds
reference k = kinds.Symbol symbols.Hash ∷ number k ∷ []

-- The lexemes of a label `#k=`, or no lexemes if there is no label.
abbrev pub label_kinds : Option ℕ → Kinds
label_kinds None = []
label_kinds (Some k) = reference k ++ mark symbols.Equals

abbrev pub true_name : Name
true_name = codes "true"

abbrev pub false_name : Name
false_name = codes "false"

abbrev pub ref_name : Name
ref_name = codes "ref"

abbrev pub truth_name : Bool → Name
truth_name true = true_name
truth_name false = false_name

abbrev pub head_kinds : LiteralHead → Kinds
head_kinds (upper_head x) = kinds.Upper x ∷ []
head_kinds (tag_head x) = kinds.Tag x ∷ []
head_kinds cons_head = mark symbols.DoubleColon
head_kinds empty_head = mark symbols.OpenBracket ++ mark symbols.CloseBracket
head_kinds ref_head = lower ref_name

abbrev pub owner_kinds : Option LiteralHead → Kinds
owner_kinds None = []
owner_kinds (Some h) = head_kinds h

-- The lexemes before a field's value: the field's name and the equals sign.
abbrev pub row_start : Name → Kinds
row_start x = kinds.Lower x ∷ kinds.Symbol symbols.Equals ∷ []

abbrev mutual
  pub literal_kinds : Literal → Kinds
  literal_kinds (labelled l p) = label_kinds l ++ plain_kinds p
  literal_kinds (again k) = reference k

  pub plain_kinds : Plain → Kinds
  plain_kinds (integer i) = kinds.Integer i ∷ []
  plain_kinds (character c) = kinds.Character c ∷ []
  plain_kinds (string s) = kinds.Text s ∷ []
  plain_kinds (double d) = kinds.Double d ∷ []
  plain_kinds (truth b) = lower (truth_name b)
  plain_kinds unit = mark symbols.OpenParen ++ mark symbols.CloseParen
  plain_kinds (constant h) = head_kinds h
  plain_kinds (applied h ps v) =
      head_kinds h ++ mark symbols.OpenParen ++ parts_kinds symbols.Comma ps ++ literal_kinds v
      ++ mark symbols.CloseParen
  plain_kinds (fields o rs x v) =
      owner_kinds o ++ mark symbols.OpenBrace ++ rows_kinds rs ++ row_start x ++ literal_kinds v
      ++ mark symbols.CloseBrace
  plain_kinds (tuple ps u v) =
      mark symbols.OpenParen
      ++ (parts_kinds symbols.Comma ps ++ literal_kinds u ++ mark symbols.Comma) ++ literal_kinds v
      ++ mark symbols.CloseParen
  plain_kinds empty_array = mark symbols.OpenArray ++ mark symbols.CloseArray
  plain_kinds (array ps v) =
      mark symbols.OpenArray ++ parts_kinds symbols.Semicolon ps ++ literal_kinds v
      ++ mark symbols.CloseArray

  -- The lexemes of the parts, each part followed by the separator.
  pub parts_kinds : Symbol → Parts → Kinds
  parts_kinds separator no_parts = []
  parts_kinds separator (more_parts ps v) =
      parts_kinds separator ps ++ literal_kinds v ++ mark separator

  pub rows_kinds : FieldRows → Kinds
  rows_kinds no_rows = []
  rows_kinds (more_rows rs x v) =
      rows_kinds rs ++ row_start x ++ literal_kinds v ++ mark symbols.Semicolon

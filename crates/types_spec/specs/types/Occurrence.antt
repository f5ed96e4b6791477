-- The objects of the scope rules: the occurrences in a text of declarations, each with the index of
-- its lexeme.
use Rattle.std.specs.Prelude.{ℕ, Bool, List}
use Rattle.types_spec.specs.declared.types.decl.Decl.{Decl}
use Rattle.types_spec.specs.types.Ty.{Ty}

-- A name with the index of its lexeme.
abbrev pub Placed : Type 0
Placed = ℕ × List ℕ

-- An item of a bracket, as a bracket that contains only the item. The number is the index of the
-- item's first lexeme.
abbrev pub PlacedItem : Type 0
PlacedItem = ℕ × Ty

pub data Occurrence : Type 0 where
  -- The use of a type name with its arguments. If the use is inside a tag's argument, `in_tag` is
  -- true.
  use_of : (position : ℕ) (name : List ℕ) (arguments : List Ty) (in_tag : Bool) → Occurrence
  variable_at : (position : ℕ) (name : List ℕ) → Occurrence
  bracket_of : (items : List PlacedItem) → Occurrence

-- A declaration with the positions of its occurrences, in the order of the text.
pub record DeclPositions : Type 0 where
  pub decl : Decl
  -- The index of the lexeme that is the declared name.
  pub position : ℕ
  pub parameters : List Placed
  -- The fields of the record, or of each constructor's inline record.
  pub records : List (List Placed)
  pub constructors : List Placed
  -- The indices of the lexemes that are names of constructors with arguments.
  pub carrying : List ℕ
  pub occurrences : List Occurrence

-- The table that reads a path's lexemes one by one.
use Rattle.std.specs.Prelude.{ℕ, Bool, true, false, not, if◌then◌else◌, Option, Some, None}
use Rattle.std.specs.Prelude.{option_map, List, [], ◌∷◌, ◌++◌, map}
use Rattle.types_lex.specs.declared.lexeme.LexemeKind.{LexemeKind}
use Rattle.types_lex.specs.declared.lexeme.LexemeKind.TheVariants as kinds
use Rattle.types_lex.specs.declared.lexeme.Symbol.TheVariants as symbols
use Rattle.types_parse.specs.grammar.Grammar.{Kinds}
use Rattle.types_parse.specs.grammar.LexemeKinds.{number_of}
use Rattle.text_path.specs.PathGrammar.{dot, steps_kinds, path_kinds}

abbrev pub is_dot : LexemeKind → Bool
is_dot (kinds.Symbol symbols.Dot) = true
is_dot kind = false

-- The steps read up to now, and whether a dot follows the steps.
pub data PathState : Type 0 where
  at : (path : List ℕ) (after_dot : Bool) → PathState

abbrev pub start : PathState
start = at [] false

abbrev pub step : PathState → LexemeKind → Option PathState
step (at path true) kind = option_map (λ n. at (path ++ n ∷ []) false) (number_of kind)
step (at path false) kind = if is_dot kind then Some (at path true) else None

-- The state after a lexeme, if a path continues with the lexeme.
abbrev pub stepped : Bool → List ℕ → Bool → Option PathState
stepped goes path after_dot = if goes then Some (at path (not after_dot)) else None

abbrev pub prefix : PathState → Kinds
prefix (at path true) = steps_kinds path ++ dot ∷ []
prefix (at path false) = steps_kinds path

abbrev pub accepted : PathState → Option (List ℕ)
accepted (at [] true) = Some []
accepted (at (n ∷ ns) false) = Some (n ∷ ns)
accepted (at [] false) = None
accepted (at (n ∷ ns) true) = None

-- No lexeme of a path ends a type.
abbrev pub ends : List ℕ → List ℕ
ends path = map (λ (kind : LexemeKind). 0) (path_kinds path)

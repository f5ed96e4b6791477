-- The open broken brackets, the innermost first.
use Rattle.std.specs.Prelude.{List, [], ◌∷◌, Option, Some, None}
use Rattle.text_pretty.specs.declared.broken_bracket.BrokenBracket.{BrokenBracket}

abbrev pub first : List BrokenBracket → Option BrokenBracket
first [] = None
first (bracket ∷ outer) = Some bracket

abbrev pub others : List BrokenBracket → List BrokenBracket
others [] = []
others (bracket ∷ outer) = outer

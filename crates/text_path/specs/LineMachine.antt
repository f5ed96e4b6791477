-- The table that reads a line's lexemes one by one.
use Rattle.std.specs.Prelude.{ℕ, Bool, true, false, if◌then◌else◌, Option, Some, None, List, []}
use Rattle.std.specs.Prelude.{◌∷◌, ◌++◌, map, codes}
use Rattle.std.specs.Str.{bytes_eq}
use Rattle.types_lex.specs.declared.lexeme.LexemeKind.{LexemeKind}
use Rattle.types_lex.specs.declared.lexeme.LexemeKind.TheVariants as kinds
use Rattle.types_lex.specs.declared.lexeme.Symbol.TheVariants as symbols
use Rattle.types_parse.specs.grammar.Grammar.{Kinds}
use Rattle.types_parse.specs.grammar.LexemeKinds.{number_of, number}
use Rattle.text_path.specs.PathMachine.{PathState, at, step, prefix, accepted}
use Rattle.text_path.specs.LineGrammar.{LineTree, set_line, link_line, unshare_line, graft_line}
use Rattle.text_path.specs.LineGrammar.{assigned, line_kinds}
use Rattle.text_path.specs.declared.line_prefix.Role.{Role}
use Rattle.text_path.specs.declared.line_prefix.Role.TheVariants as roles
use Rattle.text_path.specs.declared.line_prefix.LinePrefix.{LinePrefix}
use Rattle.text_path.specs.declared.line_prefix.LinePrefix.TheVariants as prefixes
use Rattle.text_path.specs.declared.line_prefix.LexemeResult.{LexemeResult}
use Rattle.text_path.specs.declared.line_prefix.LexemeResult.TheVariants as nexts

-- The lexemes read up to now: at most up to the `=` of `set`, or beyond the `=`.
pub data LineState : Type 0 where
  reading : LinePrefix → LineState
  literal : (value : ℕ) (path : List ℕ) (read : Kinds) → LineState

abbrev pub line_start : LineState
line_start = reading prefixes.Start

-- ---- steps on a lexeme

abbrev pub valued : Option ℕ → LexemeResult
valued None = nexts.Nowhere
valued (Some value) = nexts.Onward (prefixes.Value value)

abbrev pub named_role : List ℕ → Option Role
named_role name =
    if bytes_eq name (codes "set") then Some roles.Set
    else (if bytes_eq name (codes "link") then Some roles.Link
    else (if bytes_eq name (codes "unshare") then Some roles.Unshare
    else (if bytes_eq name (codes "graft") then Some roles.Graft else None)))

abbrev pub role_of : LexemeKind → Option Role
role_of (kinds.Lower name) = named_role name
role_of kind = None

abbrev pub begun : ℕ → Option Role → LexemeResult
begun value None = nexts.Nowhere
begun value (Some role) = nexts.Onward (prefixes.Steps value role [] false)

abbrev pub is_equals : LexemeKind → Bool
is_equals (kinds.Symbol symbols.Equals) = true
is_equals kind = false

-- The state after an equals sign, if a complete path comes before the equals sign.
abbrev pub after_equals : ℕ → Role → Option (List ℕ) → LexemeResult
after_equals value role None = nexts.Nowhere
after_equals value roles.Set (Some path) = nexts.Literal value path
after_equals value roles.Link (Some path) =
    nexts.Onward (prefixes.Steps value (roles.Source path) [] false)
after_equals value roles.Graft (Some path) = nexts.Onward (prefixes.Other value path)
after_equals value role (Some path) = nexts.Nowhere

-- The state after the number of the source value of `graft`.
abbrev pub with_other : ℕ → List ℕ → Option ℕ → LexemeResult
with_other value path None = nexts.Nowhere
with_other value path (Some other) =
    nexts.Onward (prefixes.Steps value (roles.Part path other) [] false)

abbrev pub along : ℕ → Role → Option PathState → LexemeResult
along value role None = nexts.Nowhere
along value role (Some (at path after_dot)) =
    nexts.Onward (prefixes.Steps value role path after_dot)

abbrev pub steps_next : ℕ → Role → PathState → LexemeKind → LexemeResult
steps_next value role s kind =
    if is_equals kind then after_equals value role (accepted s) else along value role (step s kind)

abbrev pub next_of : LinePrefix → LexemeKind → LexemeResult
next_of prefixes.Start kind = valued (number_of kind)
next_of (prefixes.Value value) kind = begun value (role_of kind)
next_of (prefixes.Steps value role path after_dot) kind =
    steps_next value role (at path after_dot) kind
next_of (prefixes.Other value path) kind = with_other value path (number_of kind)

abbrev pub state_of : LexemeResult → Option LineState
state_of (nexts.Onward f) = Some (reading f)
state_of (nexts.Literal value path) = Some (literal value path [])
state_of nexts.Nowhere = None

abbrev pub line_step : LineState → LexemeKind → Option LineState
line_step (reading f) kind = state_of (next_of f kind)
line_step (literal value path read) kind = Some (literal value path (read ++ kind ∷ []))

-- ---- the lexemes that a state has read

abbrev pub role_kinds : Role → Kinds
role_kinds roles.Set = kinds.Lower (codes "set") ∷ []
role_kinds roles.Link = kinds.Lower (codes "link") ∷ []
role_kinds (roles.Source path) = kinds.Lower (codes "link") ∷ assigned path []
role_kinds roles.Unshare = kinds.Lower (codes "unshare") ∷ []
role_kinds roles.Graft = kinds.Lower (codes "graft") ∷ []
role_kinds (roles.Part path other) =
    kinds.Lower (codes "graft") ∷ assigned path (number other ∷ [])

abbrev pub prefix_kinds : LinePrefix → Kinds
prefix_kinds prefixes.Start = []
prefix_kinds (prefixes.Value value) = number value ∷ []
prefix_kinds (prefixes.Steps value role path after_dot) =
    number value ∷ (role_kinds role ++ prefix (at path after_dot))
prefix_kinds (prefixes.Other value path) =
    number value ∷ kinds.Lower (codes "graft") ∷ assigned path []

abbrev pub line_prefix : LineState → Kinds
line_prefix (reading f) = prefix_kinds f
line_prefix (literal value path read) = line_kinds (set_line value path read)

-- ---- the end of a line

abbrev pub ended : ℕ → Role → Option (List ℕ) → Option LineTree
ended value role None = None
ended value (roles.Source path) (Some source) = Some (link_line value path source)
ended value roles.Unshare (Some path) = Some (unshare_line value path)
ended value (roles.Part path other) (Some source) = Some (graft_line value path other source)
ended value role (Some path) = None

abbrev pub line_accepted : LineState → Option LineTree
line_accepted (reading (prefixes.Steps value role path after_dot)) =
    ended value role (accepted (at path after_dot))
line_accepted (reading f) = None
line_accepted (literal value path read) = Some (set_line value path read)

-- No lexeme of a line ends a type.
abbrev pub line_ends : LineTree → List ℕ
line_ends line = map (λ (kind : LexemeKind). 0) (line_kinds line)

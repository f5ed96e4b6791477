-- The grammar of a script line: `K set PATH = LITERAL`, `K link PATH = PATH`, `K unshare PATH` or
-- `K graft PATH = K PATH`.
use Rattle.std.specs.Prelude.{ℕ, List, ◌∷◌, ◌++◌, codes}
use Rattle.types_lex.specs.declared.lexeme.LexemeKind.{LexemeKind}
use Rattle.types_lex.specs.declared.lexeme.LexemeKind.TheVariants as kinds
use Rattle.types_lex.specs.declared.lexeme.Symbol.TheVariants as symbols
use Rattle.types_parse.specs.grammar.Grammar.{Kinds}
use Rattle.types_parse.specs.grammar.LexemeKinds.{number}
use Rattle.text_path.specs.PathGrammar.{path_kinds}

-- A line of a script: the number of the edited value and the edit. The literal of `set` is any list
-- of lexemes, possibly empty.
pub data LineTree : Type 0 where
  set_line : (value : ℕ) (path : List ℕ) (literal : Kinds) → LineTree
  link_line : (value : ℕ) (path source : List ℕ) → LineTree
  unshare_line : (value : ℕ) (path : List ℕ) → LineTree
  graft_line : (value : ℕ) (path : List ℕ) (other : ℕ) (source : List ℕ) → LineTree

abbrev pub equals : LexemeKind
equals = kinds.Symbol symbols.Equals

-- The lexemes of a path, an equals sign, and the lexemes `rest`.
abbrev pub assigned : List ℕ → Kinds → Kinds
assigned path rest = path_kinds path ++ equals ∷ rest

abbrev pub line_kinds : LineTree → Kinds
line_kinds (set_line value path literal) =
    number value ∷ kinds.Lower (codes "set") ∷ assigned path literal
line_kinds (link_line value path source) =
    number value ∷ kinds.Lower (codes "link") ∷ assigned path (path_kinds source)
line_kinds (unshare_line value path) =
    number value ∷ kinds.Lower (codes "unshare") ∷ path_kinds path
line_kinds (graft_line value path other source) =
    number value ∷ kinds.Lower (codes "graft") ∷ assigned path (number other ∷ path_kinds source)

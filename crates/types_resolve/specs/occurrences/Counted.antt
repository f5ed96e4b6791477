-- The occurrences in a type, by the tree of the type. The n-th name, tag, variable or included type
-- of the tree is at the n-th mark of the type's text.
use Rattle.std.specs.Prelude.{ℕ, suc, ◌+◌, Bool, true, false, List, [], ◌∷◌, ◌++◌}
use Rattle.std.specs.Prelude.{◌&&◌, drop, slice_index, if◌then◌else◌}
use Rattle.types_lex.specs.declared.lexeme.LexemeKind.{LexemeKind}
use Rattle.types_lex.specs.declared.lexeme.LexemeKind.TheVariants as kinds
use Rattle.types_lex.specs.declared.lexeme.Symbol.TheVariants as symbols
use Rattle.types_parse.specs.grammar.Grammar.{Kinds}
use Rattle.types_spec.specs.types.Ty.{Ty, variable, named, tuple, bracket, part, tag, tag_of}
use Rattle.types_spec.specs.types.Ty.{including}
use Rattle.types_spec.specs.types.Ty.{parts}
use Rattle.types_spec.specs.types.Occurrence.{Occurrence, PlacedItem, use_of, variable_at}
use Rattle.types_spec.specs.types.Occurrence.{bracket_of}

-- ---- lexemes

-- Tests whether the lexeme is a name, a tag or a variable.
abbrev pub is_marked : LexemeKind → Bool
is_marked (kinds.Lower name) = true
is_marked (kinds.Upper name) = true
is_marked (kinds.Tag name) = true
is_marked (kinds.Variable name) = true
is_marked kind = false

-- Tests whether an item of a bracket may begin directly after the lexeme.
abbrev pub opens_item : LexemeKind → Bool
opens_item (kinds.Symbol symbols.OpenBracket) = true
opens_item (kinds.Symbol symbols.Bar) = true
opens_item kind = false

-- Tests whether a type that a bracket includes may begin with the lexeme.
abbrev pub begins_type : LexemeKind → Bool
begins_type (kinds.Lower name) = true
begins_type (kinds.Variable name) = true
begins_type (kinds.Symbol symbols.OpenParen) = true
begins_type (kinds.Symbol symbols.OpenBracket) = true
begins_type kind = false

-- Tests whether an item of a bracket may begin directly after the lexemes.
abbrev pub after : Bool → Kinds → Bool
after fresh [] = fresh
after fresh (kind ∷ more) = after (opens_item kind) more

abbrev pub one_if : Bool → ℕ → List ℕ
one_if test k = if test then k ∷ [] else []

-- The marks of lexemes, the first of which has index `k`. Each name, tag and variable has a mark,
-- and each included type has a mark at its first lexeme. The mark of an included type precedes the
-- lexeme's own mark. If an item may begin with the first lexeme, `fresh` is true.
abbrev pub marks : ℕ → Bool → Kinds → List ℕ
marks k fresh [] = []
marks k fresh (kind ∷ more) =
    one_if (begins_type kind && fresh) k
    ++ (one_if (is_marked kind) k ++ marks (suc k) (opens_item kind) more)

-- ---- types

-- 1 if the type is a variable or begins with a name, and 0 for all other types.
abbrev pub own_count : Ty → ℕ
own_count (variable x) = 1
own_count (named x) = 1
own_count tuple = 0
own_count bracket = 0
own_count (part whole added) = own_count whole
own_count (tag whole x) = own_count whole
own_count (tag_of whole x argument) = own_count whole
own_count (including whole included) = own_count whole

-- The number of marks in the parts of a type.
abbrev pub inner_count : Ty → ℕ
inner_count (variable x) = 0
inner_count (named x) = 0
inner_count tuple = 0
inner_count bracket = 0
inner_count (part whole added) = inner_count whole + (inner_count added + own_count added)
inner_count (tag whole x) = inner_count whole + 1
inner_count (tag_of whole x argument) =
    inner_count whole + 1 + (inner_count argument + own_count argument)
inner_count (including whole included) =
    inner_count whole + 1 + (inner_count included + own_count included)

-- The items of a bracket, each with its first lexeme. `ms` begins with the first mark of the
-- bracket.
abbrev pub items_in : List ℕ → Ty → List PlacedItem
items_in ms (tag whole x) =
    items_in ms whole ++ (slice_index ms (inner_count whole), tag bracket x) ∷ []
items_in ms (tag_of whole x argument) =
    items_in ms whole ++ (slice_index ms (inner_count whole), tag_of bracket x argument) ∷ []
items_in ms (including whole included) =
    items_in ms whole ++ (slice_index ms (inner_count whole), including bracket included) ∷ []
items_in ms t = []

-- The occurrence of the variable, name or bracket with which a type begins, at the lexeme `k`.
abbrev pub begins : ℕ → Bool → List Ty → List PlacedItem → Ty → List Occurrence
begins k in_tag arguments items (variable x) = variable_at k x ∷ []
begins k in_tag arguments items (named x) = use_of k x arguments in_tag ∷ []
begins k in_tag arguments items tuple = []
begins k in_tag arguments items bracket = bracket_of items ∷ []
begins k in_tag arguments items (part whole added) = begins k in_tag arguments items whole
begins k in_tag arguments items (tag whole x) = begins k in_tag arguments items whole
begins k in_tag arguments items (tag_of whole x argument) = begins k in_tag arguments items whole
begins k in_tag arguments items (including whole included) = begins k in_tag arguments items whole

-- The occurrence with which a type begins. The mark of the occurrence follows the marks of the
-- type's parts.
abbrev pub own : List ℕ → Bool → Ty → List Occurrence
own ms in_tag t = begins (slice_index ms (inner_count t)) in_tag (parts t) (items_in ms t) t

-- The occurrences in the parts of a type.
abbrev pub inner : List ℕ → Bool → Ty → List Occurrence
inner ms in_tag (part whole added) =
    inner ms in_tag whole ++ (own (drop (inner_count whole) ms) in_tag added
    ++ inner (drop (inner_count whole) ms) in_tag added)
inner ms in_tag (tag whole x) = inner ms in_tag whole
inner ms in_tag (tag_of whole x argument) =
    inner ms in_tag whole ++ (own (drop (inner_count whole + 1) ms) true argument
    ++ inner (drop (inner_count whole + 1) ms) true argument)
inner ms in_tag (including whole included) =
    inner ms in_tag whole ++ (own (drop (inner_count whole + 1) ms) in_tag included
    ++ inner (drop (inner_count whole + 1) ms) in_tag included)
inner ms in_tag t = []

-- All occurrences in a type: the occurrence with which the type begins, and the occurrences in its
-- parts.
abbrev pub in_type : List ℕ → Bool → Ty → List Occurrence
in_type ms in_tag t = own ms in_tag t ++ inner ms in_tag t

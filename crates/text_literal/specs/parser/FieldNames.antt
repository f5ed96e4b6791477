-- The names of fields. The name of a field is two lexemes before the field's value.
use Rattle.std.specs.Prelude.{ℕ, zero, suc, ◌-◌, nat_lt, if◌then◌else◌, Option, Some, None, List}
use Rattle.std.specs.Prelude.{[], ◌∷◌, length, slice_get}
use Rattle.types_lex.specs.Lexemes.{lower_name}
use Rattle.types_parse.specs.grammar.Grammar.{Name, Kinds}
use Rattle.text_literal.specs.declared.literal_grammar.literal_node.LiteralNode.{LiteralNode}
use Rattle.text_literal.specs.parser.SubtreeEnds.{sibling}

-- The name of the field whose value begins at lexeme k.
abbrev pub name_before : Kinds → ℕ → Name
name_before all k = lower_name (slice_get all (k - 2))

abbrev pub name_of_node : Kinds → Option LiteralNode → Name
name_of_node all None = []
name_of_node all (Some n) = name_before all n.first

-- The field names of a given number of siblings from the node `position` on.
abbrev pub names_from : List LiteralNode → List ℕ → Kinds → ℕ → ℕ → List Name
names_from nodes ends all position zero = []
names_from nodes ends all position (suc n) =
    if nat_lt position (length nodes)
    then name_of_node all (slice_get nodes position)
    ∷ names_from nodes ends all (sibling ends position 1) n
    else []

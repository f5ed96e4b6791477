-- The first violation in a text of a rule that depends on heads, and the lexeme of the violation.
use Rattle.std.specs.Prelude.{ℕ, ◌<◌, ◌≤◌, List, Option, Some, None, Contains}
use Rattle.types_spec.specs.declared.types.decl.Decl.{Decl}
use Rattle.types_spec.specs.types.Occurrence.{PlacedItem, Occurrence, bracket_of, DeclPositions}
use Rattle.types_spec.specs.types.Scope.{Rule, not_variant, tag_clash, hash_clash, float_in_group}
use Rattle.types_spec.specs.types.Scope.{mixed_record, turn}
use Rattle.types_spec.specs.types.Scope.{decls_of}
use Rattle.types_wellformed.specs.brackets.Trees.{NamesHashAt}
use Rattle.types_wellformed.specs.declared.head_rules.broken.HeadBreak.{HeadBreak}
use Rattle.types_wellformed.specs.declared.head_rules.broken.HeadBreak.TheVariants as breaks

abbrev pub rule_of_break : HeadBreak → Rule
rule_of_break (breaks.NotVariant k) = not_variant
rule_of_break (breaks.TagClash k) = tag_clash
rule_of_break (breaks.HashClash k one other) = hash_clash
rule_of_break (breaks.FloatInGroup k) = float_in_group
rule_of_break (breaks.MixedRecord k) = mixed_record

abbrev pub position_of_break : HeadBreak → ℕ
position_of_break (breaks.NotVariant k) = k
position_of_break (breaks.TagClash k) = k
position_of_break (breaks.HashClash k one other) = k
position_of_break (breaks.FloatInGroup k) = k
position_of_break (breaks.MixedRecord k) = k

-- If the violation is a hash collision, then the collision's two names have the same hash at the
-- collision's lexeme.
abbrev pub NamesAre : (ℕ → List ℕ → List ℕ → Type 0) → HeadBreak → Type 0
NamesAre Hashes (breaks.HashClash k one other) = Hashes k one other
NamesAre Hashes b = Unit {0}

-- The first broken rule that depends on heads, with the least lexeme that breaks the rule. `None`
-- means that no rule that depends on heads is broken.
abbrev pub IsFirstOfHeads :
    (Rule → ℕ → Type 0) → (ℕ → List ℕ → List ℕ → Type 0) → Option HeadBreak → Type 0
IsFirstOfHeads Breaks Hashes None = (rule : Rule) (k : ℕ) → 7 ≤ turn rule → ¬ Breaks rule k
IsFirstOfHeads Breaks Hashes (Some b) =
    Breaks (rule_of_break b) (position_of_break b)
    × ((j : ℕ) → j < position_of_break b → ¬ Breaks (rule_of_break b) j)
    × ((other : Rule) (j : ℕ)
    → 7 ≤ turn other → turn other < turn (rule_of_break b) → ¬ Breaks other j)
    × NamesAre Hashes b

-- In some bracket, two tags with the names `one_name` and `other_name` have the same hash at lexeme
-- `k`.
abbrev pub TypeHashes :
    List Decl → List Occurrence → ℕ → List ℕ → List ℕ → Type 0
TypeHashes decls occurrences k one_name other_name =
    (items : List PlacedItem) × Contains occurrences (bracket_of items)
    × NamesHashAt decls items k one_name other_name

-- In some bracket of some declaration, two tags with the names `one_name` and `other_name` have the
-- same hash at lexeme `k`.
abbrev pub FileHashes : List DeclPositions → ℕ → List ℕ → List ℕ → Type 0
FileHashes all k one_name other_name =
    (d : DeclPositions) × Contains all d
    × TypeHashes (decls_of all) d.occurrences k one_name other_name

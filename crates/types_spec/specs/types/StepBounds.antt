-- The bound on the number of steps of a check. A step is the test of the root, the visit of an
-- object at a class, or the test of a required field of a visited pair. Tests whose results were
-- discarded before a search do not count.
use Rattle.std.specs.Prelude.{ℕ, suc, ◌+◌, ◌*◌, ◌==◌, if◌then◌else◌, List, [], ◌∷◌, length}
use Rattle.std.specs.Prelude.{sum_by}
use Rattle.std.specs.List.{list_any}
use Rattle.base_data.specs.declared.model.value.Obj.{Obj}
use Rattle.types_spec.specs.types.Typing.{values_of}
use Rattle.types_spec.specs.types.Table.{Table}

-- The number of distinct numbers in the second list that are not in `seen`.
abbrev pub new_numbers : List ℕ → List ℕ → ℕ
new_numbers seen [] = 0
new_numbers seen (n ∷ ns) =
    if list_any (λ other. other == n) seen then new_numbers seen ns
    else suc (new_numbers (n ∷ seen) ns)

-- The number of classes in a table.
abbrev pub class_count : Table → ℕ
class_count table = new_numbers [] table.classes

-- The number of fields of all blocks in a graph.
abbrev pub field_count : List Obj → ℕ
field_count graph = sum_by (λ object. length (values_of object)) graph

-- The bound on the number of steps: one step for the root and, for each class, one step for each
-- object and each field.
abbrev pub most_steps : Table → List Obj → ℕ
most_steps table graph = 1 + class_count table * (length graph + field_count graph)

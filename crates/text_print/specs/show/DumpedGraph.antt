-- The text of an untyped graph: a line for the root, and one line for each object in the order of
-- the objects' numbers.
use Rattle.std.specs.Prelude.{ℕ, suc, List, [], ◌∷◌, ◌++◌}
use Rattle.base_data.specs.declared.model.value.Val.{Val}
use Rattle.base_data.specs.declared.model.value.Obj.{Obj}
use Rattle.text_print.specs.leaves.DumpedObjects.{root_line, object_line}

-- The lines of the objects from number `k` on.
abbrev pub lines_from : ℕ → List Obj → List ℕ
lines_from k [] = []
lines_from k (object ∷ more) = object_line k object ++ lines_from (suc k) more

unfoldable pub dump_text : List Obj → Val → List ℕ
dump_text graph root = root_line root ++ lines_from 0 graph

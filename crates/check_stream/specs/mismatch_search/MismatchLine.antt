-- The output line of a value whose first fault was found.
use Rattle.std.specs.Prelude.{ℕ, List, ◌++◌, map, codes}
use Rattle.base_data.specs.model.PathText.{path_text}
use Rattle.types_spec.specs.types.Table.{Table, table_shapes}
use Rattle.types_spec.specs.types.VerdictText.{IsNoLine}
use Rattle.marshal_spec.specs.format.Tree.{root, objects_of}
use Rattle.check_stream.specs.declared.mismatch_search.mismatch.FoundMismatch.{FoundMismatch}
use Rattle.check_stream.specs.declared.mismatch_search.way.Link.{Link}
use Rattle.check_stream.specs.mismatch_search.Judge.{summary_text}
use Rattle.check_stream.specs.mismatch_search.Find.{IsFound}

-- The path to the mismatch, as field indices.
abbrev pub path_in : FoundMismatch → List ℕ
path_in found = map (λ (link : Link). link.field) found.links.items

-- The text of the output line: the path to the mismatch, the expected type, and what was found.
abbrev pub found_text : (ℕ → List ℕ) → FoundMismatch → List ℕ
found_text type_text found =
    path_text (path_in found) ++ codes ": expected " ++ type_text found.ty ++ codes ", found "
    ++ summary_text found.summary

-- The mismatch alone determines the output line. The value itself is not needed.
abbrev pub FoundHasLine : Type 0
FoundHasLine =
    (table : Table) (limit n : ℕ) (bytes : List ℕ) (found : FoundMismatch) (type_text : ℕ → List ℕ)
    (f : IsFound table limit n bytes found)
    → IsNoLine (table_shapes table) type_text (objects_of f.prefix.tree 0) (root f.prefix.tree 0) 0
    (codes "no " ++ found_text type_text found)

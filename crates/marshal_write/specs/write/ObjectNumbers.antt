-- The numbers of the objects of a value, in the order of their first visit.
use Rattle.std.specs.Prelude.{ℕ, List, length}
use Rattle.base_data.specs.declared.model.value.Val.{Val}
use Rattle.base_data.specs.declared.model.value.Obj.{Obj}
use Rattle.marshal_spec.specs.format.Tree.{Tree}
use Rattle.marshal_spec.specs.canonical.Numbering.{IsNumbering}
use Rattle.marshal_write.specs.write.WriteWalk.{AreMarked}

-- The mark of each object in the tree is the object's position, counted from 1. The mark of every
-- other object is 0.
abbrev pub AreNumbered : List Obj → Val → Tree → List ℕ → Type 0
AreNumbered g v tree marks =
    (ks : List ℕ) × IsNumbering g v tree ks × AreMarked g ks (length ks) marks

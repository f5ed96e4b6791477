-- The objects that a value reaches, and the position of each object.
use Rattle.std.specs.Prelude.{ℕ, List, length}
use Rattle.base_data.specs.declared.model.value.Val.{Val}
use Rattle.base_data.specs.declared.model.value.Obj.{Obj}
use Rattle.marshal_spec.specs.format.Tree.{Tree}
use Rattle.marshal_spec.specs.format.Isomorphism.{IsTreeOf}
use Rattle.marshal_spec.specs.canonical.Numbering.{IsNumbering}
use Rattle.marshal_write.specs.write.WriteWalk.{AreMarked}

-- `ks` are the numbers of the objects that the value reaches, in the order of their first visit.
-- The mark of each of these objects is the object's position in `ks`, counted from 1.
pub record IsOrder (graph : List Obj) (v : Val) (marks ks : List ℕ) : Type 0 where
  pub tree : Tree
  pub is : IsTreeOf graph v tree
  pub numbering : IsNumbering graph v tree ks
  pub marked : AreMarked graph ks (length ks) marks

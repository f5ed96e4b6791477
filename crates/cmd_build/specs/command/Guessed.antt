-- A value that a line denotes, up to the numbers of its objects.
use Rattle.std.specs.Prelude.{ℕ, List, length}
use Rattle.base_data.specs.declared.model.value.Val.{Val}
use Rattle.base_data.specs.declared.model.value.Obj.{Obj}
use Rattle.base_data.specs.model.Graph.{IsValue}
use Rattle.marshal_spec.specs.format.Canonical.{canon}
use Rattle.marshal_spec.specs.format.Isomorphism.{IsTreeOf}
use Rattle.marshal_spec.specs.format.Tree.{Tree}
use Rattle.run_types.specs.Language.{TypeOver}
use Rattle.cmd_build.specs.command.InputLines.{IsMade}

-- The value belongs to the graph, and the line gives the canonical bytes of its tree.
pub record IsRight (t : TypeOver) (line : List ℕ) (graph : List Obj) (root : Val) : Type 0 where
  pub valid : IsValue (length graph) root
  pub made : (tree : Tree) → IsTreeOf graph root tree → IsMade t line (canon tree)

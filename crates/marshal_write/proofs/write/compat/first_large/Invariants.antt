use Rattle.std.proofs.Common.{◌≡◌, true, ◌-◌, ◌^◌, take, None}
use Rattle.std.specs.Prelude.{find}
use Rattle.marshal_spec.specs.format.Compat.{is_large}
use Rattle.marshal_spec.specs.format.Isomorphism.{IsTreeOf}
use Rattle.marshal_spec.specs.format.Tree.{Tree, tokens}
use Rattle.marshal_write.specs.write.WriteWalk.{IsWalk}
use Rattle.marshal_write.proofs.write.compat.first_large.Given as goal

abbrev pub invariant-tokens : goal.invariant-tokens
invariant-tokens l = record {
  walk : IsWalk l.heap l.walk;
  root : l.walk.root ≡ l.fn.walk.root;
  again : l.walk.again ≡ true;
  none : (tree : Tree) → IsTreeOf l.heap l.walk.root tree → find is_large (take l.walk.given (tokens tree)) ≡ None;
}

abbrev pub decreases-tokens : goal.decreases-tokens
decreases-tokens l = 2 ^ 64 - l.walk.given

use Rattle.std.proofs.Common.{◌≡◌, true, ◌-◌, ◌≤◌, ◌^◌, take, vec_capacity}
use Rattle.marshal_spec.specs.format.Canonical.{data_encoding}
use Rattle.marshal_spec.specs.format.Isomorphism.{IsTreeOf}
use Rattle.marshal_spec.specs.format.Tree.{Tree, tokens}
use Rattle.marshal_write.specs.write.WriteBuffer.{AddsAll}
use Rattle.marshal_write.specs.write.WriteWalk.{IsWalk}
use Rattle.marshal_write.specs.declared.write.write_buffer.TheConstants.{LIMIT}
use Rattle.marshal_write.proofs.write.writer.add_tokens.Given as goal

abbrev pub invariant-tokens : goal.invariant-tokens
invariant-tokens g l = record {
  walk : IsWalk l.heap l.walk;
  root : l.walk.root ≡ l.fn.walk.root;
  again : l.walk.again ≡ true;
  adds : (tree : Tree) → IsTreeOf l.heap l.walk.root tree
      → AddsAll (g.K.Sink.state l.initial.out) (g.K.Sink.state l.out) l.initial.buffer.items l.buffer.items (data_encoding (take l.walk.given (tokens tree)));
  room : LIMIT ≤ vec_capacity l.buffer;
}

abbrev pub decreases-tokens : goal.decreases-tokens
decreases-tokens g l = 2 ^ 64 - l.walk.given

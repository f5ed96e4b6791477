-- Lemmas for `tally_of`: the sink receives the bytes of each tree of the value.
use Rattle.std.proofs.Common.{◌≡◌, List, ℕ, [], length, sym, ◌∙◌, ap}
use Rattle.base_data.specs.declared.model.value.Val.{Val}
use Rattle.base_data.specs.declared.model.value.Obj.{Obj}
use Rattle.base_data.specs.model.Graph.{IsValue}
use Rattle.marshal_spec.specs.format.Canonical.{canon}
use Rattle.marshal_spec.specs.format.Isomorphism.{IsTreeOf}
use Rattle.marshal_spec.specs.format.Tree.{Tree}
use Rattle.marshal_spec.proofs.canonical.Walk.{has_one_tree}
use Rattle.marshal_heap.specs.heap.Heap.{IsHeap}
use Rattle.base_io.specs.StreamState.{change}
use Rattle.base_io.specs.Sink.{Writes}
use Rattle.cmd_gen.specs.generator.Tally.{Known, tally_state}

-- A value has exactly one tree.
same_tree : (g : List Obj) (v : Val) (one other : Tree) → IsHeap g → IsValue (length g) v → IsTreeOf g v one → IsTreeOf g v other → one ≡ other
same_tree g v one other heap valid is_one is_other = let t = has_one_tree g v heap.is_graph valid in t.only one is_one ∙ sym (t.only other is_other)

-- If a text is written to an empty sink, then the sink contains exactly this text.
pub all_written : (before after : Known) (text : List ℕ) → before.written ≡ [] → Writes (change (tally_state before) (tally_state after)) text → after.written ≡ text
all_written before after text empty writes = let e = writes.appended in cc

pub written_is : (g : List Obj) (v : Val) (before after : Known) (one tree : Tree) → IsHeap g → IsValue (length g) v → before.written ≡ []
    → IsTreeOf g v one → Writes (change (tally_state before) (tally_state after)) (canon one) → IsTreeOf g v tree → after.written ≡ canon tree
written_is g v before after one tree heap valid empty is_one writes is_tree =
    all_written before after (canon one) empty writes ∙ ap canon (same_tree g v one tree heap valid is_one is_tree)

use Rattle.std.proofs.Common.{ap, ◌∙◌, [], List, ℕ}
use Rattle.types_table.specs.declared.store.stored_node.StoredNode.{StoredNode}
use Rattle.types_table.specs.store.View.{types_in}
use Rattle.types_table.proofs.store.StoreLemmas.{types_in-none}
use Rattle.types_table.proofs.store.type_store.TypeStore.new.Goals as goal

pub returns : goal.returns
returns c =
    ap (λ (ns : List (List ℕ)). types_in ns c.new-2.result.keys) c.new.ensures
    ∙ ap (λ (ns : List StoredNode). types_in [] ns) c.new-2.ensures.empty ∙ types_in-none

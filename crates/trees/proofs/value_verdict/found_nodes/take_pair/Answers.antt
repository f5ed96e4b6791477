use Rattle.std.proofs.Common.{◌∙◌, ◌++◌, [], ◌∷◌, cond, sym, ap, append-nil}
use Rattle.trees.specs.value_verdict.NodePairs.{marked_objects}
use Rattle.trees.proofs.value_verdict.PairLemmas.{marked_more}
use Rattle.std.proofs.Common.{take}
use Rattle.trees.proofs.value_verdict.found_nodes.take_pair.Goals as goal

pub returns-in_ok-push : goal.returns-in_ok-push
returns-in_ok-push c =
    let found = c.args.found.now in
    let o = c.get-object.result.0 in
    let so_far = marked_objects found (take c.args.k c.args.typing.now) in
    c.in_ok-push.ensures.items
    ∙ ap (λ xs. xs ++ o ∷ []) c.requires.so_far
    ∙ sym (marked_more found c.args.typing.now c.args.k o c.get-object.result.1 c.get-object.ensures
    ∙ ap (λ b. so_far ++ cond b (o ∷ []) []) (sym c.is_marked.ensures ∙ c.if-is_marked.true))

pub returns-else-is_marked : goal.returns-else-is_marked
returns-else-is_marked c =
    let found = c.args.found.now in
    let o = c.get-object.result.0 in
    let so_far = marked_objects found (take c.args.k c.args.typing.now) in
    c.requires.so_far
    ∙ sym (marked_more found c.args.typing.now c.args.k o c.get-object.result.1 c.get-object.ensures
    ∙ ap (λ b. so_far ++ cond b (o ∷ []) []) (sym c.is_marked.ensures ∙ c.if-is_marked.false)
    ∙ append-nil so_far)

use Rattle.std.proofs.Common.{ap, ◌∙◌, ◌++◌, ◌∷◌, []}
use Rattle.types_table.proofs.partition.PartitionEndLemmas.{started}
use Rattle.types_table.proofs.partition.all_classes.start.Goals as goal

pub returns-clause-under_way : goal.returns-clause-under_way
returns-clause-under_way c = started c.args.forms.now _ _ _ _ _ _ _ _ c.in_ok-class.ensures.many
    c.in_ok-class.ensures.zero c.in_ok-signatures.ensures c.in_ok-members.ensures c.in_ok-waiting.ensures
    c.in_ok-numbers_below.ensures c.in_ok-numbers_below-2.ensures
    (c.in_ok-push-2.ensures.items ∙ ap (λ l. l ++ 0 ∷ []) c.new-todo.ensures.items)

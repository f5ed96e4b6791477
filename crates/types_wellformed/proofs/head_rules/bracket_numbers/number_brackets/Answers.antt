use Rattle.std.proofs.Common.{List, [], sym, subst}
use Rattle.types_wellformed.specs.declared.head_rules.item.NumberedItem.{NumberedItem}
use Rattle.types_wellformed.specs.head_rules.NumberedTypes.{AreAllNumbered}
use Rattle.types_wellformed.proofs.head_rules.bracket_numbers.number_brackets.Goals as goal

pub returns-clause-ok : goal.returns-clause-ok
returns-clause-ok c =
    c.in_ok-write_types.ensures.ok []
    (subst (λ (bs : List (List NumberedItem)). AreAllNumbered c.args.types.now bs []) (sym c.new-brackets.ensures) tt)

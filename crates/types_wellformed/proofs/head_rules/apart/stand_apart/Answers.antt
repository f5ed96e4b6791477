use Rattle.std.proofs.Common.{List, length, Option, sym, subst}
use Rattle.std.specs.Prelude.{IsTrue, IfSome}
use Rattle.std.proofs.lemmas.Result.{IfOk-weaker}
use Rattle.types_wellformed.specs.declared.brackets.tag_item.TagItem.{TagItem}
use Rattle.types_wellformed.specs.head_rules.Apart.{AreListed, NoneConflict, StandApart}
use Rattle.types_wellformed.proofs.head_rules.HeadRuleApartLemmas.{all_apart}
use Rattle.types_wellformed.proofs.head_rules.apart.stand_apart.Goals as goal

pub returns-in-Some-clause-ok : goal.returns-in-Some-clause-ok
returns-in-Some-clause-ok c =
    let decls = c.args.decls.now in
    let types = c.add_bodies.new.types in
    let items = c.as_slice.result.now in
    let each : AreListed types items (length types) =
    subst (λ (items : List TagItem). AreListed types items (length types)) (sym c.as_slice.ensures)
    (subst (λ (found : Option (List TagItem)). IfSome found (λ items. AreListed types items (length types))) c.in-Some.is
    c.in_ok-items.ensures) in
    IfOk-weaker c.none_conflict.result (λ none. IsTrue none → NoneConflict items) (λ apart. IsTrue apart → StandApart decls types)
    (λ none to is. all_apart decls types items c.in_ok-add_bodies.ensures.there each (to is)) c.none_conflict.ensures

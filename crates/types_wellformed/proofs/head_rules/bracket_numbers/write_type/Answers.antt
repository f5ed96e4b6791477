use Rattle.std.proofs.Common.{◌≡◌, ◌<◌, List, length, get_or, sym, subst, append-nil}
use Rattle.types_spec.specs.types.TypeNodes.{types_of}
use Rattle.types_resolve.specs.declared.scope.type_brackets.BracketItem.{BracketItem}
use Rattle.types_resolve.specs.scope.TypeBrackets.{items_known}
use Rattle.types_table.proofs.store.StoreHeldLemmas.{Grows-then}
use Rattle.types_table.proofs.store.StoreInstanceLemmas.{numbers_kept}
use Rattle.types_wellformed.specs.head_rules.NumberedTypes.{AreNumbered, AreAllNumbered}
use Rattle.types_wellformed.proofs.head_rules.HeadRuleNumberedLemmas.{brackets_kept, brackets_turn}
use Rattle.types_wellformed.proofs.head_rules.bracket_numbers.write_type.Goals as goal

pub loop-items-init : goal.loop-items-init
loop-items-init c = record {
  grown = c.in_ok-numbers.ensures.ok.grown;
  has = c.in_ok-numbers.ensures.ok.has;
  known = λ all h. subst (AreAllNumbered c.add_nodes.new.self c.args.brackets.now) (sym (append-nil all))
      (brackets_kept c.args.types.now c.add_nodes.new.self c.args.brackets.now all c.in_ok-numbers.ensures.ok.grown h);
}

pub loop-items-preserved : goal.loop-items-preserved
loop-items-preserved c =
    let tree = types_of c.args.found.now.nodes.now in
    let grown = c.in_ok-number_items.ensures.grown in
    let here : AreNumbered c.number_items.new.types c.in_ok-number_items.field-0 (items_known tree c.items-item.result) =
    subst (λ (items : List BracketItem). AreNumbered c.number_items.new.types c.in_ok-number_items.field-0 (items_known tree items))
    c.as_slice-in-loop-items.ensures c.in_ok-number_items.ensures.ok in
    let borrowed = c.as_slice-items-items.ensures in
    let below = subst (λ (l : List (List BracketItem)). c.loop-items.items-index < length l) borrowed c.loop-items-test.true in
    let read = subst (λ (l : List (List BracketItem)). c.items-item.result ≡ get_or l c.loop-items.items-index c.items-item.result)
    borrowed c.items-item.is in
    record {
      grown = Grows-then c.args.types.now c.loop-items.types c.number_items.new.types c.loop-items.invariant.grown grown;
      has = numbers_kept c.loop-items.types c.number_items.new.types tree c.in_ok-numbers.numbers.items
          c.loop-items.invariant.has grown;
      known = λ all h. brackets_turn c.loop-items.types c.number_items.new.types tree c.loop-items.brackets c.push.new.self
          c.args.found.now.brackets c.loop-items.items-index c.items-item.result c.items-item.result
          c.in_ok-number_items.field-0 all grown below read c.in_ok-push.ensures.ok here (c.loop-items.invariant.known all h);
    }

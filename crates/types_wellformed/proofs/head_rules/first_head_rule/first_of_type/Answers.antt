use Rattle.std.proofs.Common.{List, subst, sym}
use Rattle.std.proofs.lemmas.Result.{IfOk-weaker}
use Rattle.types_spec.specs.types.Scope.{BreaksInType}
use Rattle.types_resolve.specs.scope.TypeBrackets.{all_known}
use Rattle.types_wellformed.specs.declared.head_rules.item.NumberedItem.{NumberedItem}
use Rattle.types_wellformed.specs.head_rules.Broken.{IsFirstOfHeads, TypeHashes}
use Rattle.types_wellformed.specs.head_rules.NumberedTypes.{AreAllNumbered}
use Rattle.types_wellformed.specs.head_rules.Rules.{BracketsBreak, BracketsHash, brackets_at}
use Rattle.types_wellformed.proofs.head_rules.HeadRuleTextLemmas.{all_within, type_first}
use Rattle.types_wellformed.proofs.head_rules.first_head_rule.first_of_type.Goals as goal

pub first_of_brackets-requires : goal.first_of_brackets-requires
first_of_brackets-requires g c = record {
  within = all_within c.number_brackets.new.types c.as_slice.result.now (all_known c.args.brackets.now)
      (subst
      (λ (bs : List (List NumberedItem)). AreAllNumbered c.number_brackets.new.types bs (all_known c.args.brackets.now))
      (sym c.as_slice.ensures) c.in_ok-numbered.ensures.ok);
}

pub returns : goal.returns
returns g c =
    let types = c.number_brackets.new.types in
    let bs = c.as_slice.result.now in
    IfOk-weaker c.first_of_brackets.result
    (IsFirstOfHeads (BracketsBreak c.args.decls.now (brackets_at types bs)) (BracketsHash c.args.decls.now (brackets_at types bs)))
    (IsFirstOfHeads (BreaksInType c.args.decls.now g.occurrences) (TypeHashes c.args.decls.now g.occurrences))
    (type_first c.args.brackets.now g.occurrences c.requires c.args.decls.now types bs
    (subst (λ (ns : List (List NumberedItem)). AreAllNumbered types ns (all_known c.args.brackets.now)) (sym c.as_slice.ensures)
    c.in_ok-numbered.ensures.ok))
    c.first_of_brackets.ensures

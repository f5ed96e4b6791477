use Rattle.std.proofs.Common.{List, subst, sym, ap, is_some}
use Rattle.types_spec.specs.types.Scope.{BreaksInFile}
use Rattle.std.specs.List.{flat_map}
use Rattle.types_resolve.specs.scope.TypeBrackets.{all_known}
use Rattle.types_wellformed.specs.declared.head_rules.item.NumberedItem.{NumberedItem}
use Rattle.types_wellformed.specs.head_rules.NumberedTypes.{AreAllNumbered}
use Rattle.types_resolve.specs.scope.Least.{IsLeast}
use Rattle.types_wellformed.specs.head_rules.Rules.{IsFlatDecl, SomeDeclBreaks}
use Rattle.types_wellformed.specs.head_rules.Broken.{IsFirstOfHeads, FileHashes}
use Rattle.types_wellformed.proofs.head_rules.HeadRuleFirstLemmas.{is_none}
use Rattle.types_wellformed.proofs.head_rules.HeadRuleTextLemmas.{are_ordered, all_within, file_first, flat_first, mixed_result}
use Rattle.types_wellformed.proofs.head_rules.first_head_rule.first_of_file.Goals as goal

pub number_declared-requires : goal.number_declared-requires
number_declared-requires g c = are_ordered c.args.brackets.now g.all c.requires.1.1

pub first_of_brackets-requires : goal.first_of_brackets-requires
first_of_brackets-requires g c = record {
  within = all_within c.number_declared.new.types c.as_slice.result.now (flat_map all_known c.args.brackets.now)
      (subst
      (λ (bs : List (List NumberedItem)). AreAllNumbered c.number_declared.new.types bs (flat_map all_known c.args.brackets.now))
      (sym c.as_slice.ensures) c.in_ok-numbered.ensures.ok);
}

pub returns-in-Some : goal.returns-in-Some
returns-in-Some g c =
    subst (IsFirstOfHeads (BreaksInFile g.all) (FileHashes g.all)) c.in-Some.is
    (file_first c.args.brackets.now g.all c.requires.1.1 c.args.decls.now c.number_declared.new.types
    c.as_slice.result.now c.requires.0
    (subst
    (λ (bs : List (List NumberedItem)). AreAllNumbered c.number_declared.new.types bs (flat_map all_known c.args.brackets.now))
    (sym c.as_slice.ensures) c.in_ok-numbered.ensures.ok)
    c.in_ok-found.field-0 c.in_ok-found.ensures (ap is_some c.in-Some.is))

pub returns-in-Some-2 : goal.returns-in-Some-2
returns-in-Some-2 g c =
    flat_first c.args.brackets.now g.all c.requires.1.1 c.args.decls.now c.number_declared.new.types
    c.as_slice.result.now c.requires.0
    (subst
    (λ (bs : List (List NumberedItem)). AreAllNumbered c.number_declared.new.types bs (flat_map all_known c.args.brackets.now))
    (sym c.as_slice.ensures) c.in_ok-numbered.ensures.ok)
    c.in_ok-found.field-0 c.in_ok-found.ensures c.args.names.now c.requires.1.0
    (ap is_some (is_none c.in_ok-found.field-0 c.in_default.not-Some)) c.in-Some-2.position
    (subst (IsLeast (SomeDeclBreaks (IsFlatDecl c.args.decls.now) c.args.decls.now c.args.names.now)) c.in-Some-2.is
    c.in_ok-position.ensures)

pub returns : goal.returns
returns g c =
    subst (IsFirstOfHeads (BreaksInFile g.all) (FileHashes g.all)) (sym c.mixed_break.ensures)
    (mixed_result c.args.brackets.now g.all c.requires.1.1 c.args.decls.now c.number_declared.new.types
    c.as_slice.result.now c.requires.0
    (subst
    (λ (bs : List (List NumberedItem)). AreAllNumbered c.number_declared.new.types bs (flat_map all_known c.args.brackets.now))
    (sym c.as_slice.ensures) c.in_ok-numbered.ensures.ok)
    c.in_ok-found.field-0 c.in_ok-found.ensures c.args.names.now c.requires.1.0
    (ap is_some (is_none c.in_ok-found.field-0 c.in_default.not-Some))
    (subst (IsLeast (SomeDeclBreaks (IsFlatDecl c.args.decls.now) c.args.decls.now c.args.names.now))
    (is_none c.in_ok-position.field-0 c.in_default-2.not-Some) c.in_ok-position.ensures)
    c.in_ok-mixed.mixed c.in_ok-mixed.ensures)

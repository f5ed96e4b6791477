use Rattle.std.proofs.Common.{List, subst, sym}
use Rattle.std.proofs.lemmas.Result.{IfOk-weaker}
use Rattle.types_spec.specs.declared.types.decl.Decl.{Decl}
use Rattle.types_resolve.specs.scope.Least.{IsLeast}
use Rattle.types_wellformed.specs.declared.brackets.tag_item.TagItem.{TagItem}
use Rattle.types_wellformed.specs.head_rules.Apart.{StandApart}
use Rattle.types_wellformed.specs.head_rules.Broken.{IsFirstOfHeads}
use Rattle.types_wellformed.specs.head_rules.Rules.{SomeBreaks, ItemsInclude, AreTagged, TagsBreak, CollideAmong, BracketsBreak, BracketsHash, brackets_at}
use Rattle.types_wellformed.proofs.head_rules.HeadRuleFirstLemmas.{is_none}
use Rattle.types_wellformed.proofs.head_rules.JoinedLemmas.{variant_first, tags_first, apart_first, apart_before}
use Rattle.types_table.proofs.store.StoreHeldLemmas.{Grows-then}
use Rattle.types_wellformed.proofs.head_rules.first_head_rule.first_of_brackets.Goals as goal

pub returns-in-Some : goal.returns-in-Some
returns-in-Some c =
    variant_first c.args.decls.now c.args.types.now c.args.brackets.now c.in-Some.position
    (subst (IsLeast (SomeBreaks c.args.brackets.now (ItemsInclude c.args.decls.now c.args.types.now))) c.in-Some.is
    c.in_ok-position.ensures.ok)

pub returns-then-branch : goal.returns-then-branch
returns-then-branch c =
    let types = c.args.types.now in
    apart_first c.args.decls.now types c.args.brackets.now c.requires.within
    (subst (IsLeast (SomeBreaks c.args.brackets.now (ItemsInclude c.args.decls.now types)))
    (is_none c.in_ok-position.field-0 c.in_default.not-Some) c.in_ok-position.ensures.ok)
    (apart_before c.args.decls.now types c.stand_apart.new.types
    (Grows-then types c.least_not_variant.new.types c.stand_apart.new.types c.in_ok-position.ensures.grown
    c.in_ok-stand_apart.ensures.grown)
    (subst (λ (ds : List Decl). StandApart ds c.stand_apart.new.types) c.all.ensures
    (c.in_ok-stand_apart.ensures.ok c.if-branch.true)))

pub returns : goal.returns
returns c =
    let all = brackets_at c.args.types.now c.args.brackets.now in
    IfOk-weaker c.first_of_tags.result
    (IsFirstOfHeads (TagsBreak c.as_slice.result.now) (CollideAmong c.as_slice.result.now))
    (IsFirstOfHeads (BracketsBreak c.args.decls.now all) (BracketsHash c.args.decls.now all))
    (λ found first. tags_first c.args.decls.now c.args.types.now c.args.brackets.now c.stand_apart.new.types
    c.tagged_brackets.new.types c.as_slice.result.now found
    (Grows-then c.args.types.now c.least_not_variant.new.types c.stand_apart.new.types c.in_ok-position.ensures.grown
    c.in_ok-stand_apart.ensures.grown)
    c.requires.within
    (subst (IsLeast (SomeBreaks c.args.brackets.now (ItemsInclude c.args.decls.now c.args.types.now)))
    (is_none c.in_ok-position.field-0 c.in_default.not-Some) c.in_ok-position.ensures.ok)
    (subst
    (λ (tagged : List (List TagItem)). AreTagged c.tagged_brackets.new.types c.args.decls.now tagged
    (brackets_at c.stand_apart.new.types c.args.brackets.now))
    (sym c.as_slice.ensures) c.in_ok-tagged.ensures.ok)
    first)
    c.first_of_tags.ensures

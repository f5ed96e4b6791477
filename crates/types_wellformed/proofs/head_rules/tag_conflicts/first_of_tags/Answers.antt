use Rattle.std.proofs.Common.{subst}
use Rattle.types_resolve.specs.scope.Least.{IsLeast}
use Rattle.types_wellformed.specs.brackets.TagItems.{ConflictsIn}
use Rattle.types_wellformed.specs.head_rules.Rules.{SomeBreaks, IsLeastAmong}
use Rattle.types_wellformed.proofs.head_rules.HeadRuleFirstLemmas.{is_none}
use Rattle.types_wellformed.proofs.head_rules.JoinedLemmas.{conflict_first, hash_first, tags_kept}
use Rattle.types_wellformed.proofs.head_rules.tag_conflicts.first_of_tags.Goals as goal

pub returns-in-Some : goal.returns-in-Some
returns-in-Some c =
    conflict_first c.args.tagged.now c.in-Some.position
    (subst (IsLeast (SomeBreaks c.args.tagged.now ConflictsIn)) c.in-Some.is c.in_ok-position.ensures)

pub returns-in_ok-hash_break-in-Some-2 : goal.returns-in_ok-hash_break-in-Some-2
returns-in_ok-hash_break-in-Some-2 c =
    hash_first c.args.tagged.now c.in-Some-2.found c.in_ok-hash_break-in-Some-2.field-0
    c.in_ok-hash_break-in-Some-2.ensures
    (subst (IsLeast (SomeBreaks c.args.tagged.now ConflictsIn)) (is_none c.in_ok-position.field-0 c.in_default.not-Some)
    c.in_ok-position.ensures)
    (subst (IsLeastAmong c.args.tagged.now) c.in-Some-2.is c.in_ok-found.ensures)

pub returns-in-None : goal.returns-in-None
returns-in-None c =
    tags_kept c.args.tagged.now
    (subst (IsLeast (SomeBreaks c.args.tagged.now ConflictsIn)) (is_none c.in_ok-position.field-0 c.in_default.not-Some)
    c.in_ok-position.ensures)
    (subst (IsLeastAmong c.args.tagged.now) c.in-None.is c.in_ok-found.ensures)

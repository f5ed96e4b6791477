use Rattle.std.proofs.Common.{◌≡◌, ◌∙◌, ◌<◌, ◌++◌, [], length, sym, ap, subst, arith}
use Rattle.std.specs.Prelude.{vec_len}
use Rattle.std.proofs.lemmas.List.{append-nil}
use Rattle.types_spec.specs.types.TypeNodes.{types_of}
use Rattle.types_resolve.specs.occurrences.Adds.{Adds}
use Rattle.types_resolve.specs.scope.TypeBrackets.{brackets_known, brackets_among}
use Rattle.types_resolve.specs.occurrences.Walk.{task_own, task_seen, stack_seen}
use Rattle.types_resolve.proofs.occurrences.AddsLemmas.{Adds-none, Adds-then}
use Rattle.types_resolve.proofs.occurrences.OccurrenceFoundLemmas.{known_next}
use Rattle.types_resolve.proofs.occurrences.OccurrenceWalkLemmas.{popped_below, none_left, next_below, next_weight, next_seen}
use Rattle.types_resolve.proofs.occurrences.walk.walk.Goals as goal

pub write_own-requires-clause-task : goal.write_own-requires-clause-task
write_own-requires-clause-task c =
    popped_below (length c.args.nodes.now) c.loop-task.tasks.items c.pop.new.self.items c.in-Some.task
    c.in-Some.ensures.items c.loop-task.invariant.below

pub offset_bounds-nodes-task : goal.offset_bounds-nodes-task
offset_bounds-nodes-task c =
    let below : c.in-Some.task.node < length c.args.nodes.now =
    popped_below (length c.args.nodes.now) c.loop-task.tasks.items c.pop.new.self.items c.in-Some.task
    c.in-Some.ensures.items c.loop-task.invariant.below in
    omega arith

pub bounds-nodes-task : goal.bounds-nodes-task
bounds-nodes-task c =
    popped_below (length c.args.nodes.now) c.loop-task.tasks.items c.pop.new.self.items c.in-Some.task
    c.in-Some.ensures.items c.loop-task.invariant.below

pub loop-task-smaller : goal.loop-task-smaller
loop-task-smaller c = next_weight c.args.nodes.now c.requires.ordered c.args.facts.now c.requires.facts c.in-Some.task c.index-nodes-task.result
    c.index-nodes-task.is c.loop-task.tasks.items c.pop.new.self.items c.push_parts.new.tasks.items c.in-Some.ensures.items
    c.in_ok-push_parts.ensures c.loop-task.invariant.below

pub loop-task-preserved : goal.loop-task-preserved
loop-task-preserved c =
    let small : length c.args.marks.now < 18446744073709551616 = omega arith in
    let types = types_of c.args.nodes.now in
    let own = task_own types c.args.marks.now c.in-Some.task in
    let next = stack_seen types c.args.marks.now c.push_parts.new.tasks.items in
    let seen : stack_seen types c.args.marks.now c.loop-task.tasks.items ≡ own ++ next =
    next_seen c.args.nodes.now c.requires.ordered c.args.facts.now c.requires.facts c.in-Some.task
    c.index-nodes-task.result c.index-nodes-task.is c.loop-task.tasks.items c.pop.new.self.items
    c.push_parts.new.tasks.items c.in-Some.ensures.items c.in_ok-push_parts.ensures c.loop-task.invariant.below
    c.args.marks.now small in
    record {
      below = next_below c.args.nodes.now c.requires.ordered c.args.facts.now c.requires.facts c.in-Some.task c.index-nodes-task.result
          c.index-nodes-task.is c.loop-task.tasks.items c.pop.new.self.items c.push_parts.new.tasks.items c.in-Some.ensures.items
          c.in_ok-push_parts.ensures c.loop-task.invariant.below;
      left = λ last h. c.loop-task.invariant.left last
          (subst (Adds c.loop-task.site last [] []) (sym seen)
          (Adds-then c.loop-task.site c.write_own.new.site last [] [] [] [] own next c.in_ok-write_own.ensures.site h));
      known = known_next (brackets_known types c.loop-task.brackets) (brackets_known types c.write_own.new.brackets)
          (brackets_known types c.args.brackets.now ++ brackets_among (task_seen types c.args.marks.now c.args.top))
          (stack_seen types c.args.marks.now c.loop-task.tasks.items) own next seen c.in_ok-write_own.ensures.brackets
          c.loop-task.invariant.known;
    }

pub returns-clause-site : goal.returns-clause-site
returns-clause-site c =
    let empty : c.loop-task.tasks.items ≡ [] =
    none_left c.loop-task.tasks.items c.pop.new.self.items (vec_len c.loop-task.tasks) c.in_default.ensures.items
    c.in_default.ensures.rest c.in_default.ensures.cases.0 in
    c.loop-task.invariant.left c.loop-task.site
    (subst (Adds c.loop-task.site c.loop-task.site [] [])
    (sym (ap (stack_seen (types_of c.args.nodes.now) c.args.marks.now) empty)) (Adds-none c.loop-task.site))

pub returns-clause-brackets : goal.returns-clause-brackets
returns-clause-brackets c =
    let empty : c.loop-task.tasks.items ≡ [] =
    none_left c.loop-task.tasks.items c.pop.new.self.items (vec_len c.loop-task.tasks) c.in_default.ensures.items
    c.in_default.ensures.rest c.in_default.ensures.cases.0 in
    let known = brackets_known (types_of c.args.nodes.now) c.loop-task.brackets in
    sym (append-nil known)
    ∙ ap (λ tasks. known ++ brackets_among (stack_seen (types_of c.args.nodes.now) c.args.marks.now tasks)) (sym empty)
    ∙ c.loop-task.invariant.known

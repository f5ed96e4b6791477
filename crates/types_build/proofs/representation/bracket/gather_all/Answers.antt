use Rattle.std.proofs.Common.{rules, ◌≡◌, ◌∙◌, ◌<◌, List, length, reverse, vec_len, None, sym, subst}
use Rattle.types_table.proofs.store.StoreHeldLemmas.{Grows-none, Grows-then}
use Rattle.types_build.specs.declared.representation.bracket.BracketStep.{BracketStep}
use Rattle.types_build.specs.representation.Tags.{tags_at, tags_of_entries}
use Rattle.types_build.specs.representation.RepresentationSteps.{AreGathered, steps_work}
use Rattle.types_build.proofs.representation.RepresentationFoundLemmas.{found_kept}
use Rattle.types_build.proofs.representation.RepresentationGatherLemmas.{nothing_waits, nothing_left, pushed_first, step_within}
use Rattle.types_build.proofs.representation.bracket.gather_all.Goals as goal

pub step-init : goal.step-init
step-init c = record {
  grown = Grows-none c.args.types.now;
  known = c.none_known-known.ensures c.args.decls.now None;
  gathered = λ all was. rw c.new-settled.ensures.empty was;
}

pub gather-requires-clause-step : goal.gather-requires-clause-step
gather-requires-clause-step c =
    let first = pushed_first c.pop.new.self.items c.step.waiting.items c.in-Some.step c.in-Some.ensures.items in
    let was = c.step.invariant.gathered c.requires.gathered.0 c.requires.gathered.1 in
    step_within c.args.decls.now c.step.types (tags_at c.step.types (tags_of_entries c.step.tags.entries)) c.requires.gathered.0
    c.in-Some.step (reverse c.pop.new.self.items)
    (subst (λ (ss : List BracketStep). AreGathered c.args.decls.now c.step.types (tags_of_entries c.step.tags.entries) c.step.settled.keys ss c.requires.gathered.0)
    first was).left

pub gather-requires-clause-found : goal.gather-requires-clause-found
gather-requires-clause-found c =
    found_kept c.args.decls.now c.args.types.now c.args.found.now.by_position c.args.found.now.met.now.keys c.args.found.now.heads.now c.step.types
    c.step.invariant.grown c.requires.found

pub step-smaller : goal.step-smaller
step-smaller c =
    let decls = c.args.decls.now in
    let all = c.requires.gathered.0 in
    let first = pushed_first c.pop.new.self.items c.step.waiting.items c.in-Some.step c.in-Some.ensures.items in
    subst (λ (ss : List BracketStep). steps_work decls c.gather.new.types (reverse c.gather.new.waiting.items) < steps_work decls c.step.types ss)
    (sym first)
    (c.in_ok-gather.ensures.less all
    (subst (λ (ss : List BracketStep). AreGathered decls c.step.types (tags_of_entries c.step.tags.entries) c.step.settled.keys ss all) first
    (c.step.invariant.gathered all c.requires.gathered.1)))

pub step-preserved : goal.step-preserved
step-preserved c =
    let decls = c.args.decls.now in
    let first = pushed_first c.pop.new.self.items c.step.waiting.items c.in-Some.step c.in-Some.ensures.items in
    record {
      grown = Grows-then c.args.types.now c.step.types c.gather.new.types c.step.invariant.grown c.gather.ensures.grown;
      known = c.in_ok-gather.ensures.known;
      gathered = λ all was. c.in_ok-gather.ensures.gathered all
          (subst (λ (ss : List BracketStep). AreGathered decls c.step.types (tags_of_entries c.step.tags.entries) c.step.settled.keys ss all) first
          (c.step.invariant.gathered all was));
    }

pub returns-in_err-gather-clause-grown : goal.returns-in_err-gather-clause-grown
returns-in_err-gather-clause-grown c =
    Grows-then c.args.types.now c.step.types c.gather.new.types c.step.invariant.grown c.gather.ensures.grown

pub returns-clause-gathered : goal.returns-clause-gathered
returns-clause-gathered c = λ all was.
    let len : vec_len c.step.waiting ≡ length c.step.waiting.items = search rules in
    nothing_left c.args.decls.now c.step.types (tags_of_entries c.step.tags.entries) c.step.settled.keys (reverse c.step.waiting.items) all
    (nothing_waits c.step.waiting.items (sym len ∙ c.in_default.ensures.cases.0)) (c.step.invariant.gathered all was)

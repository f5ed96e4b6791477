use Rattle.std.proofs.Common.{ℕ, ◌<◌, ◌∷◌, List, reverse, sym, subst}
use Rattle.std.proofs.lemmas.Result.{on_ok_weaker}
use Rattle.types_build.specs.declared.representation.bracket.BracketStep.{BracketStep}
use Rattle.types_spec.specs.declared.types.head.TagOf.{TagOf}
use Rattle.types_build.specs.representation.Tags.{tags_of_entries}
use Rattle.types_build.specs.representation.RepresentationSteps.{AreGathered, steps_work}
use Rattle.types_build.proofs.representation.RepresentationFoundLemmas.{locations_there, found_gathered}
use Rattle.types_build.proofs.representation.RepresentationGatherLemmas.{settle_gathered, settle_less}
use Rattle.types_build.proofs.representation.bracket.gather.Goals as goal

pub returns-in-Item-clause-gathered : goal.returns-in-Item-clause-gathered
returns-in-Item-clause-gathered c =
    on_ok_weaker c.gather_item.result
    (λ gathers all was.
    gathers c.args.decls.now c.args.settled.now.keys all
    (subst (λ (s : BracketStep). AreGathered c.args.decls.now c.args.types.now (tags_of_entries c.args.tags.now.entries) c.args.settled.now.keys
    (s ∷ reverse c.args.waiting.now.items) all) c.in-Item.is was))
    c.gather_item.ensures.gathered

pub returns-in-Item-clause-less : goal.returns-in-Item-clause-less
returns-in-Item-clause-less c =
    on_ok_weaker c.gather_item.result
    (λ less all was.
    subst (λ (s : BracketStep). steps_work c.args.decls.now c.args.types.now (reverse c.gather_item.new.waiting.items)
    < steps_work c.args.decls.now c.args.types.now (s ∷ reverse c.args.waiting.now.items)) (sym c.in-Item.is)
    (less c.args.decls.now))
    c.gather_item.ensures.less

pub returns-in-None-clause-gathered : goal.returns-in-None-clause-gathered
returns-in-None-clause-gathered c =
    let found = tags_of_entries c.args.tags.now.entries in
    on_ok_weaker c.include.result
    (λ gathers all was.
    gathers found all
    (subst (λ (s : BracketStep). AreGathered c.args.decls.now c.args.types.now found c.args.settled.now.keys
    (s ∷ reverse c.args.waiting.now.items) all) c.in-Included.is was))
    c.include.ensures.gathered

pub returns-in-None-clause-less : goal.returns-in-None-clause-less
returns-in-None-clause-less c =
    let found = tags_of_entries c.args.tags.now.entries in
    on_ok_weaker c.include.result
    (λ less all was.
    subst (λ (s : BracketStep). steps_work c.args.decls.now c.include.new.types (reverse c.include.new.waiting.items)
    < steps_work c.args.decls.now c.args.types.now (s ∷ reverse c.args.waiting.now.items)) (sym c.in-Included.is)
    (less found all
    (subst (λ (s : BracketStep). AreGathered c.args.decls.now c.args.types.now found c.args.settled.now.keys
    (s ∷ reverse c.args.waiting.now.items) all) c.in-Included.is was)))
    c.include.ensures.less

pub add_found-requires : goal.add_found-requires
add_found-requires c =
    let found = c.args.found.now in
    locations_there c.args.decls.now c.args.types.now found.by_position found.met.now.keys found.heads.now c.requires.found
    c.in-Some.more.now c.in-Included.included c.in-Some.ensures

pub returns-in-Some-clause-gathered : goal.returns-in-Some-clause-gathered
returns-in-Some-clause-gathered c =
    let decls = c.args.decls.now in
    let types = c.args.types.now in
    let found = c.args.found.now in
    let more = c.in-Some.more.now in
    let gathered = tags_of_entries c.args.tags.now.entries in
    let settled = c.args.settled.now.keys in
    let rest = reverse c.args.waiting.now.items in
    on_ok_weaker c.add_found.result
    (λ write all was.
    subst (λ (ts : List (TagOf ℕ)). AreGathered decls types ts settled rest all)
    (sym write)
    (found_gathered decls types found.by_position found.met.now.keys found.heads.now c.requires.found more c.in-Included.included c.in-Some.ensures
    gathered settled rest all
    (subst (λ (s : BracketStep). AreGathered decls types gathered settled (s ∷ rest) all) c.in-Included.is was)))
    c.add_found.ensures

pub returns-in-Settle-clause-gathered : goal.returns-in-Settle-clause-gathered
returns-in-Settle-clause-gathered c =
    let found = tags_of_entries c.args.tags.now.entries in
    let rest = reverse c.args.waiting.now.items in
    on_ok_weaker c.settle.result
    (λ brings all was.
    settle_gathered c.args.decls.now c.args.types.now c.settle.new.types c.settle.ensures.grown found c.args.settled.now.keys
    c.in-Settle.decl rest all
    (subst (λ (s : BracketStep). AreGathered c.args.decls.now c.args.types.now found c.args.settled.now.keys (s ∷ rest) all) c.in-Settle.is was)
    c.settle.new.settled.keys brings)
    c.settle.ensures.settled

pub returns-in-Settle-clause-less : goal.returns-in-Settle-clause-less
returns-in-Settle-clause-less c =
    let found = tags_of_entries c.args.tags.now.entries in
    let rest = reverse c.args.waiting.now.items in
    on_ok_weaker c.settle.result
    (λ brings all was.
    subst (λ (s : BracketStep). steps_work c.args.decls.now c.settle.new.types rest
    < steps_work c.args.decls.now c.args.types.now (s ∷ rest)) (sym c.in-Settle.is)
    (settle_less c.args.decls.now c.args.types.now c.settle.new.types c.settle.ensures.grown found c.args.settled.now.keys
    c.in-Settle.decl rest all
    (subst (λ (s : BracketStep). AreGathered c.args.decls.now c.args.types.now found c.args.settled.now.keys (s ∷ rest) all) c.in-Settle.is was)))
    c.settle.ensures.settled

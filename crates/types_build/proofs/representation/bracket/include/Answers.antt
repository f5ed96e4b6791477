use Rattle.std.proofs.Common.{◌∙◌, ◌∷◌, None, length, length-append, sym, ap, arith, reverse}
use Rattle.std.proofs.lemmas.Option.{MatchOption-at_some, MatchOption-at_none}
use Rattle.std.proofs.lemmas.Result.{on_ok_weaker}
use Rattle.types_spec.specs.types.TypeNodes.{type_at}
use Rattle.types_spec.specs.types.Declarations.{unfolded}
use Rattle.types_spec.specs.types.Head.{head}
use Rattle.types_build.specs.declared.representation.bracket.BracketStep.TheVariants as steps
use Rattle.types_build.specs.representation.Tags.{tags_at}
use Rattle.types_build.proofs.representation.NearerLemmas.{type_kept, nearer_head, nearer_work_more}
use Rattle.types_build.proofs.representation.RepresentationGatherLemmas.{gathered_kept, left_by, include_there, include_next, included_less, next_less, last_less}
use Rattle.types_build.proofs.representation.RepresentationSettledLemmas.{settled_at, abbreviation_within, sure_joined}
use Rattle.types_build.proofs.representation.bracket.include.Goals as goal

pub returns-then-is_settled-clause-gathered : goal.returns-then-is_settled-clause-gathered
returns-then-is_settled-clause-gathered c = λ found all was.
    let decls = c.args.decls.now in
    let types = c.args.types.now in
    let rest = reverse c.args.waiting.now.items in
    let t = type_at types c.args.included in
    left_by decls types found c.args.settled.now.keys rest all (steps.Included c.args.included ∷ rest) was
    (λ left.
    include_there decls c.holds.ensures types c.args.included rest (tags_at types found) all left
    (settled_at decls (tags_at types found) t c.abbreviation-decl.result c.abbreviation-decl.ensures
    (c.is_settled.ensures c.if-is_settled.true decls (tags_at types found) was.brought)))

pub returns-then-is_settled-clause-less : goal.returns-then-is_settled-clause-less
returns-then-is_settled-clause-less c = λ found all was.
    included_less c.args.decls.now c.args.types.now c.args.included (reverse c.args.waiting.now.items)

pub returns-in-Some-clause-gathered : goal.returns-in-Some-clause-gathered
returns-in-Some-clause-gathered c =
    let decls = c.args.decls.now in
    let old = c.args.types.now in
    let new = c.nearer_from.new.types in
    let grown = c.in_ok-next.ensures.grown in
    let n = c.args.included in
    let rest = reverse c.args.waiting.now.items in
    let nearer = MatchOption-at_some _ _ c.in-Some.next c.in-Some.is c.in_ok-next.ensures.ok in
    let kept = type_kept old new n grown c.requires.included in
    let same = nearer_head decls None c.holds.ensures new (type_at old n) c.in-Some.next nearer ∙ ap (head decls) (sym kept) in
    on_ok_weaker c.push_next.result
    (λ write found all was.
    left_by decls new found c.args.settled.now.keys (reverse c.push_next.new.waiting.items) all (steps.Included n ∷ rest)
    (gathered_kept decls old new grown found c.args.settled.now.keys (steps.Included n ∷ rest) all was)
    (λ left.
    write decls new (tags_at new found) all (abbreviation_within decls (tags_at new found) (type_at old n) c.abbreviation-decl.result c.abbreviation-decl.ensures)
    (sure_joined decls c.holds.ensures (type_at old n) (type_at new c.in-Some.next) c.abbreviation-decl.result (tags_at new found)
    c.abbreviation-decl.ensures (nearer_head decls None c.holds.ensures new (type_at old n) c.in-Some.next nearer))
    (include_next decls c.holds.ensures new n rest (tags_at new found) all left c.in-Some.next nearer.within same)))
    c.push_next.ensures.left

pub returns-in-Some-clause-less : goal.returns-in-Some-clause-less
returns-in-Some-clause-less c =
    let decls = c.args.decls.now in
    let old = c.args.types.now in
    let new = c.nearer_from.new.types in
    let n = c.args.included in
    let nearer = MatchOption-at_some _ _ c.in-Some.next c.in-Some.is c.in_ok-next.ensures.ok in
    on_ok_weaker c.push_next.result
    (λ write found all was.
    next_less decls old new c.in_ok-next.ensures.grown found c.args.settled.now.keys n (reverse c.args.waiting.now.items)
    (reverse c.push_next.new.waiting.items) all c.requires.included was c.in-Some.next
    (nearer_work_more decls None c.holds.ensures new (type_at old n) c.in-Some.next nearer) (write decls new))
    c.push_next.ensures.work

pub returns-in-None-clause-gathered : goal.returns-in-None-clause-gathered
returns-in-None-clause-gathered c =
    let decls = c.args.decls.now in
    let old = c.args.types.now in
    let new = c.nearer_from.new.types in
    let grown = c.in_ok-next.ensures.grown in
    let n = c.args.included in
    let rest = reverse c.args.waiting.now.items in
    let none = MatchOption-at_none _ _ c.in-None.is c.in_ok-next.ensures.ok in
    let ended = ap (unfolded decls) (type_kept old new n grown c.requires.included) ∙ none in
    on_ok_weaker c.write_items.result
    (λ write found all was.
    left_by decls new found c.args.settled.now.keys (reverse c.write_items.new.waiting.items) all (steps.Included n ∷ rest)
    (gathered_kept decls old new grown found c.args.settled.now.keys (steps.Included n ∷ rest) all was)
    (λ left. write decls (tags_at new found) all c.holds.ensures ended left))
    c.write_items.ensures.left

pub returns-in-None-clause-less : goal.returns-in-None-clause-less
returns-in-None-clause-less c =
    let decls = c.args.decls.now in
    let old = c.args.types.now in
    let new = c.nearer_from.new.types in
    let grown = c.in_ok-next.ensures.grown in
    let n = c.args.included in
    let none = MatchOption-at_none _ _ c.in-None.is c.in_ok-next.ensures.ok in
    let kept = type_kept old new n grown c.requires.included in
    on_ok_weaker c.write_items.result
    (λ write found all was.
    last_less decls old new grown found c.args.settled.now.keys n (reverse c.args.waiting.now.items)
    (reverse c.write_items.new.waiting.items) all c.requires.included was kept
    (write decls c.holds.ensures (ap (unfolded decls) kept ∙ none)))
    c.write_items.ensures.work

pub write_items-requires : goal.write_items-requires
write_items-requires c =
    let more = c.in_ok-next.ensures.grown in
    omega (arith, ap length more.kept, length-append c.args.types.now more.added, c.requires.included)

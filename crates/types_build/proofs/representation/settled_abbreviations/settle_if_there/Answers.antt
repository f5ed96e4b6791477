use Rattle.std.proofs.Common.{ℕ, List, sym, subst}
use Rattle.std.proofs.lemmas.Option.{get_or_from_slice_get}
use Rattle.types_spec.specs.types.Ty.{tuple}
use Rattle.types_build.specs.representation.Tags.{tags_at, tags_of_entries}
use Rattle.types_build.specs.representation.RepresentationSteps.{AreSettled, EachBringsNone}
use Rattle.types_build.proofs.representation.RepresentationSettledLemmas.{settled_added, settles}
use Rattle.types_build.proofs.representation.settled_abbreviations.settle_if_there.Goals as goal

pub returns-in_ok-insert-clause-settled : goal.returns-in_ok-insert-clause-settled
returns-in_ok-insert-clause-settled c = λ settled.
    let decls = c.args.decls.now in
    let types = c.add.new.self in
    let there = tags_at types (tags_of_entries c.args.tags.now.entries) in
    let body = c.in-Abbreviation.body in
    let at = get_or_from_slice_get types c.in_ok-number.number body tuple c.in_ok-number.ensures.ok.there in
    let each = subst (EachBringsNone decls there) at (c.in_ok-are_there.ensures c.if-branch.true settled) in
    subst (λ (ks : List ℕ). AreSettled decls there ks) (sym c.in_ok-insert.ensures.keys)
    (settled_added decls there c.args.settled.now.keys c.args.decl settled
    (settles decls there c.holds.ensures c.args.decl c.at.result.now body c.at.ensures c.in-Abbreviation.is each))

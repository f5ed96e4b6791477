use Rattle.std.proofs.Common.{ℕ, ◌≡◌, ◌∙◌, List, None, length, arith, sym, subst}
use Rattle.std.proofs.lemmas.List.{nil_from_length}
use Rattle.std.proofs.lemmas.Result.{on_ok_weaker}
use Rattle.types_build.specs.representation.Tags.{tags_at, tags_of_entries}
use Rattle.types_build.specs.representation.RepresentationSteps.{AreSettled}
use Rattle.types_build.proofs.representation.RepresentationWayLemmas.{is_bare}
use Rattle.types_build.proofs.representation.RepresentationSettledLemmas.{settled_added}
use Rattle.types_build.proofs.representation.settled_abbreviations.settle.Goals as goal

pub returns-then-is_empty-clause-settled : goal.returns-then-is_empty-clause-settled
returns-then-is_empty-clause-settled c = λ sure settled.
    let decls = c.args.decls.now in
    let few : length c.as_slice.result.now ≡ 0 = grind (arith, c.if-is_empty.true, c.is_empty.ensures) in
    let none = sym c.as_slice.ensures ∙ nil_from_length c.as_slice.result.now few in
    let there = tags_at c.args.types.now (tags_of_entries c.args.tags.now.entries) in
    subst (λ (ks : List ℕ). AreSettled decls there ks) (sym c.in_ok-insert.ensures.keys)
    (settled_added decls there c.args.settled.now.keys c.args.decl settled
    (sure (is_bare decls None c.args.decl c.at.result.now c.at.ensures none)))

pub returns-clause-settled : goal.returns-clause-settled
returns-clause-settled c =
    on_ok_weaker c.settle_if_there.result (λ kept sure settled. kept settled) c.settle_if_there.ensures.settled

use Rattle.std.proofs.Common.{◌≡◌, ◌∙◌, ◌<◌, length, map, get_or, sym, subst}
use Rattle.std.specs.Prelude.{Contains}
use Rattle.std.proofs.lemmas.List.{get_or_read}
use Rattle.marshal_heap.specs.isomorphism.Paired.{Paired, IsNew, left_of, right_of}
use Rattle.marshal_heap.specs.isomorphism.Meeting.{AreMet, CannotMeet}
use Rattle.marshal_heap.proofs.isomorphism.IndexLemmas.{new_at_zero, met_already, met_anew, cannot_meet}
use Rattle.marshal_heap.proofs.isomorphism.pairing.Pairing.meet_objects.Goals as goal

pub returns-then-position-index-clause-meets : goal.returns-then-position-index-clause-meets
returns-then-position-index-clause-meets c =
    let lefts = c.self.inside.left.items in
    let rights = c.self.inside.right.items in
    let less : c.args.left < length lefts = subst (λ (p : Paired). c.args.left < p.lefts) (sym c.self.view_is) c.requires.left in
    let less' : c.args.right < length rights = subst (λ (p : Paired). c.args.right < p.rights) (sym c.self.view_is) c.requires.right in
    let a : c.index-position.result.now ≡ get_or lefts c.args.left 0 = get_or_read lefts c.args.left c.index-position.result.now less c.index-position.ensures 0 in
    let b : c.index.result.now ≡ get_or rights c.args.right 0 = get_or_read rights c.args.right c.index.result.now less' c.index.ensures 0 in
    subst (λ (p : Paired). CannotMeet p.pairs (λ all. Contains all (c.args.left, c.args.right))) c.self.view_is
    (cannot_meet lefts rights c.self.inside.pairs.items c.args.left c.args.right c.self.invariant.0 c.self.invariant.1 (λ same. c.if-position-index.true (a ∙ same ∙ sym b)))

pub add-requires-clause-left_new : goal.add-requires-clause-left_new
add-requires-clause-left_new c =
    let lefts = c.self.inside.left.items in
    let less : c.args.left < length lefts = subst (λ (p : Paired). c.args.left < p.lefts) (sym c.self.view_is) c.requires.left in
    let a : c.index-position.result.now ≡ get_or lefts c.args.left 0 = get_or_read lefts c.args.left c.index-position.result.now less c.index-position.ensures 0 in
    subst (λ (p : Paired). IsNew (map left_of p.pairs) c.args.left) c.self.view_is
    (new_at_zero lefts (map left_of c.self.inside.pairs.items) c.args.left c.self.invariant.0 (sym a ∙ c.if-position-eq0.true))

pub add-requires-clause-right_new : goal.add-requires-clause-right_new
add-requires-clause-right_new c =
    let rights = c.self.inside.right.items in
    let less' : c.args.right < length rights = subst (λ (p : Paired). c.args.right < p.rights) (sym c.self.view_is) c.requires.right in
    let b : c.index.result.now ≡ get_or rights c.args.right 0 = get_or_read rights c.args.right c.index.result.now less' c.index.ensures 0 in
    subst (λ (p : Paired). IsNew (map right_of p.pairs) c.args.right) c.self.view_is
    (new_at_zero rights (map right_of c.self.inside.pairs.items) c.args.right c.self.invariant.1 (sym b ∙ sym c.if-position-index.false ∙ c.if-position-eq0.true))

pub returns-in_ok-add-clause-meets : goal.returns-in_ok-add-clause-meets
returns-in_ok-add-clause-meets c =
    subst (λ after. AreMet c.args.self.now.pairs after (λ all. Contains all (c.args.left, c.args.right))) (sym c.in_ok-add.ensures.ok)
    (met_anew c.args.self.now.pairs c.args.left c.args.right)

pub returns-else-position-eq0-clause-meets : goal.returns-else-position-eq0-clause-meets
returns-else-position-eq0-clause-meets c =
    let lefts = c.self.inside.left.items in
    let rights = c.self.inside.right.items in
    let less : c.args.left < length lefts = subst (λ (p : Paired). c.args.left < p.lefts) (sym c.self.view_is) c.requires.left in
    let less' : c.args.right < length rights = subst (λ (p : Paired). c.args.right < p.rights) (sym c.self.view_is) c.requires.right in
    let a : c.index-position.result.now ≡ get_or lefts c.args.left 0 = get_or_read lefts c.args.left c.index-position.result.now less c.index-position.ensures 0 in
    let b : c.index.result.now ≡ get_or rights c.args.right 0 = get_or_read rights c.args.right c.index.result.now less' c.index.ensures 0 in
    subst (λ (p : Paired). AreMet p.pairs p.pairs (λ all. Contains all (c.args.left, c.args.right))) c.self.view_is
    (met_already lefts rights c.self.inside.pairs.items c.args.left c.args.right c.self.invariant.0 c.self.invariant.1 (sym a ∙ c.if-position-index.false ∙ b) (λ z. c.if-position-eq0.false (a ∙ z)))

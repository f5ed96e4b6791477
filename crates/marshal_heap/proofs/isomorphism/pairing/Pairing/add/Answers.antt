use Rattle.std.proofs.Common.{◌≡◌, ◌+◌, ◌<◌, length, map, sym, subst, arith}
use Rattle.std.proofs.lemmas.Grind.{common_steps}
use Rattle.marshal_heap.specs.isomorphism.Paired.{Paired, IsNew, left_of, right_of}
use Rattle.marshal_heap.proofs.isomorphism.IsomorphismFieldLemmas.{index_added}
use Rattle.marshal_heap.proofs.isomorphism.pairing.Pairing.add.Goals as goal

pub index_mut-requires : goal.index_mut-requires
index_mut-requires c =
    let less : c.args.left < length c.self.inside.left.items = subst (λ (p : Paired). c.args.left < p.lefts) (sym c.self.view_is) c.requires.left in
    grind (arith, common_steps)

pub index_mut-requires-2 : goal.index_mut-requires-2
index_mut-requires-2 c =
    let less : c.args.right < length c.self.inside.right.items = subst (λ (p : Paired). c.args.right < p.rights) (sym c.self.view_is) c.requires.right in
    grind (arith, common_steps)

pub invariant_of-self-2 : goal.invariant_of-self-2
invariant_of-self-2 c =
    let pairs = c.self.inside.pairs.items in
    let less : c.args.left < length c.self.inside.left.items = subst (λ (p : Paired). c.args.left < p.lefts) (sym c.self.view_is) c.requires.left in
    let less' : c.args.right < length c.self.inside.right.items = subst (λ (p : Paired). c.args.right < p.rights) (sym c.self.view_is) c.requires.right in
    let many : c.len-position.result ≡ length pairs + 1 = grind (arith, common_steps) in (
      index_added c.self.inside.left.items left_of pairs c.push.new.self.items (c.args.left, c.args.right) c.len-position.result c.self.invariant.0 less
          (subst (λ (p : Paired). IsNew (map left_of p.pairs) c.args.left) (sym c.self.view_is) c.requires.left_new) c.in_ok-push.ensures.items many,
      index_added c.self.inside.right.items right_of pairs c.push.new.self.items (c.args.left, c.args.right) c.len-position.result c.self.invariant.1 less'
          (subst (λ (p : Paired). IsNew (map right_of p.pairs) c.args.right) (sym c.self.view_is) c.requires.right_new) c.in_ok-push.ensures.items many,
    )

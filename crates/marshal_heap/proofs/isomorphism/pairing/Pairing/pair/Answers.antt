use Rattle.std.proofs.Common.{◌≡◌, ◌<◌, length, map, Some, refl, sym, subst}
use Rattle.std.specs.Prelude.{slice_get}
use Rattle.std.proofs.lemmas.Option.{slice_get_read}
use Rattle.marshal_heap.specs.isomorphism.Paired.{Paired, left_of, right_of}
use Rattle.marshal_heap.proofs.isomorphism.IndexLemmas.{key_in_range, left_key, right_key}
use Rattle.marshal_heap.proofs.isomorphism.pairing.Pairing.pair.Goals as goal

pub returns-clause-left : goal.returns-clause-left
returns-clause-left c =
    let pairs = c.self.inside.pairs.items in
    let inside : c.args.i < length pairs = subst (λ (p : Paired). c.args.i < length p.pairs) (sym c.self.view_is) c.requires in
    let at_i : slice_get pairs c.args.i ≡ Some c.index.result.now = slice_get_read pairs (length pairs) c.args.i c.index.result.now refl inside c.index.ensures in
    subst (λ (p : Paired). c.index.result.now.0 < p.lefts) c.self.view_is
    (key_in_range c.self.inside.left.items (map left_of pairs) c.args.i c.index.result.now.0 c.self.invariant.0 (left_key pairs c.args.i c.index.result.now.0 c.index.result.now.1 at_i))

pub returns-clause-right : goal.returns-clause-right
returns-clause-right c =
    let pairs = c.self.inside.pairs.items in
    let inside : c.args.i < length pairs = subst (λ (p : Paired). c.args.i < length p.pairs) (sym c.self.view_is) c.requires in
    let at_i : slice_get pairs c.args.i ≡ Some c.index.result.now = slice_get_read pairs (length pairs) c.args.i c.index.result.now refl inside c.index.ensures in
    subst (λ (p : Paired). c.index.result.now.1 < p.rights) c.self.view_is
    (key_in_range c.self.inside.right.items (map right_of pairs) c.args.i c.index.result.now.1 c.self.invariant.1 (right_key pairs c.args.i c.index.result.now.0 c.index.result.now.1 at_i))

use Rattle.std.proofs.Common.{◌+◌, ◌-◌, ◌≡◌, ◌∙◌, length, Some, sym, ap, arith}
use Rattle.std.specs.Prelude.{slice_get}
use Rattle.check_heap.proofs.check.ScannedLemmas.{length_pairs, pair_first, pair_later}
use Rattle.check_heap.proofs.check.settled_objects.SettledObjects.get.Goals as goal

pub returns-then-k-objects : goal.returns-then-k-objects
returns-then-k-objects c =
    ap (λ pairs. slice_get pairs c.args.k) (sym c.self.view_is)
    ∙ pair_first c.self.inside.types c.self.inside.seconds c.args.k (omega (arith, c.if-k-objects.true, c.len-objects.ensures))
    ∙ ap (λ t. Some (c.args.k, t)) (sym c.get.ensures)

pub get-requires-2 : goal.get-requires-2
get-requires-2 c =
    let both = length_pairs c.self.inside.types c.self.inside.seconds in
    let all = ap length c.self.view_is in
    omega (arith, both, all, c.requires, c.if-k-objects.false, c.len-objects.ensures)

pub returns : goal.returns
returns c =
    let rest : c.args.k ≡ length c.self.inside.types + (c.args.k - c.len-objects.result) = omega (arith, c.if-k-objects.false, c.len-objects.ensures) in
    ap (λ pairs. slice_get pairs c.args.k) (sym c.self.view_is)
    ∙ pair_later c.self.inside.types c.self.inside.seconds c.args.k (c.args.k - c.len-objects.result) (c.get-2.result.0, c.get-2.result.1) rest c.get-2.ensures

use Rattle.std.proofs.Common.{◌∷◌, [], refl, arith}
use Rattle.std.proofs.lemmas.List.{take_more}
use Rattle.types_build.proofs.builder.BuilderPlacedLemmas.{placed_none, placed_next, placed_all}
use Rattle.types_build.proofs.builder.discovered_types.positions.Goals as goal

pub loop-number-init : goal.loop-number-init
loop-number-init c =
    rw c.new-found.ensures.items (placed_none (λ n. n ∷ []) (λ f n. f n) (λ ns. ns) c.args.met.now.keys refl)

pub loop-number-preserved : goal.loop-number-preserved
loop-number-preserved c =
    rw c.in_ok-push.ensures.items
    (placed_next (λ n. n ∷ []) (λ f n. f n) (λ ns. ns) c.args.met.now.keys c.loop-number.met.keys c.position.new.met.keys _ _ _ _ c.in_ok-position.position
    (take_more c.args.numbers.now c.loop-number.number-index 0 (omega arith)) refl c.loop-number.invariant
    (record { met = c.in_ok-position.ensures.met; same = λ f g says. says.at _ _ c.in_ok-position.ensures.there }))

pub returns : goal.returns
returns c =
    rw c.of.ensures
    (placed_all (λ n. n ∷ []) (λ f n. f n) (λ ns. ns) c.args.met.now.keys c.loop-number.met.keys c.args.numbers.now c.loop-number.found.items
    c.loop-number.number-index (omega arith) c.loop-number.invariant)

use Rattle.std.proofs.Common.{subst, refl, length, arith, List, ℕ, ◌≡◌}
use Rattle.std.proofs.lemmas.Option.{slice_get_read}
use Rattle.types_resolve.specs.scope.NamePositions.{number_of, added}
use Rattle.types_resolve.proofs.scope.ScopeNameLemmas.{positions_more}
use Rattle.types_resolve.proofs.scope.variables.table_of.Goals as goal

pub loop-i-preserved : goal.loop-i-preserved
loop-i-preserved c =
    let names = c.args.parameters.now in
    let i = c.loop-i.i in
    let x = c.index-parameters-i.result in
    positions_more names i x (number_of c.loop-i.table) (number_of c.add.new.table)
    (slice_get_read names (length names) i x refl (omega arith) c.index-parameters-i.is) c.loop-i.invariant
    (subst (λ (n : List ℕ). (q : List ℕ) → number_of c.add.new.table q ≡ added (number_of c.loop-i.table) n i q) c.as_slice.ensures c.in_ok-add.ensures.added)

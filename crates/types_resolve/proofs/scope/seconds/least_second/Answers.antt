use Rattle.std.proofs.Common.{ap, subst, ◌∙◌, arith, List, ℕ, Bool, ◌≡◌}
use Rattle.std.specs.Prelude.{is_some}
use Rattle.types_resolve.specs.scope.Least.{position_if}
use Rattle.types_resolve.specs.scope.NamePositions.{number_of, added}
use Rattle.types_resolve.proofs.scope.ScopeNameLemmas.{positions_more}
use Rattle.types_resolve.proofs.scope.ScopeSecondLemmas.{names_of, more_seconds, all_seconds, name_at}
use Rattle.types_resolve.proofs.scope.seconds.least_second.Goals as goal

pub loop-i-preserved : goal.loop-i-preserved
loop-i-preserved c =
    let row = c.args.row.now in
    let i = c.loop-i.i in
    let p = c.index-row-i.result in
    let at = name_at row i p (omega arith) c.index-row-i.is in
    record {
      positions = positions_more (names_of row) i p.1 (number_of c.loop-i.table) (number_of c.add.new.table) at
          c.loop-i.invariant.positions (subst (λ (n : List ℕ). (q : List ℕ) → number_of c.add.new.table q ≡ added (number_of c.loop-i.table) n i q) c.name.ensures c.in_ok-had.ensures.added);
      least = more_seconds row i p (number_of c.loop-i.table) c.loop-i.best c.in_ok-had.had c.position_if.result c.earliest-best.result
          (omega arith) c.index-row-i.is c.loop-i.invariant.positions c.loop-i.invariant.least (c.in_ok-had.ensures.had ∙ ap (number_of c.loop-i.table) c.name.ensures)
          (c.position_if.ensures ∙ ap (λ (b : Bool). position_if b c.position.result) c.is_some.ensures
          ∙ ap (λ (k : ℕ). position_if (is_some c.in_ok-had.had) k) c.position.ensures) c.earliest-best.ensures;
    }

pub returns : goal.returns
returns c = all_seconds c.args.row.now c.loop-i.i c.loop-i.best (omega arith) (omega arith) c.loop-i.invariant.least

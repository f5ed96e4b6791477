use Rattle.std.proofs.Common.{subst, arith, List, ℕ, ◌≡◌}
use Rattle.types_resolve.specs.scope.Breaks.{names_of_decls}
use Rattle.types_resolve.specs.scope.NamePositions.{number_of, added}
use Rattle.types_resolve.proofs.scope.ScopeNameLemmas.{positions_more}
use Rattle.types_resolve.proofs.scope.ScopeDeclaredLemmas.{decl_named}
use Rattle.types_resolve.proofs.scope.environment.positions_of.Goals as goal

pub loop-i-preserved : goal.loop-i-preserved
loop-i-preserved c =
    let decls = c.args.decls.now in
    let i = c.loop-i.i in
    let d = c.index-decls-i.result in
    positions_more (names_of_decls decls) i d.name (number_of c.loop-i.table) (number_of c.add.new.table)
    (decl_named decls i d (omega arith) c.index-decls-i.is) c.loop-i.invariant
    (subst (λ (n : List ℕ). (q : List ℕ) → number_of c.add.new.table q ≡ added (number_of c.loop-i.table) n i q) c.as_slice.ensures c.in_ok-add.ensures.added)

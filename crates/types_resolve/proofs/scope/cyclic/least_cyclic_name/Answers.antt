use Rattle.std.proofs.Common.{◌+◌, length, refl, sym, ap, subst, arith, ◌∙◌, ◌≡◌}
use Rattle.std.proofs.lemmas.Bool.{false≢true}
use Rattle.std.proofs.lemmas.Option.{slice_get_read}
use Rattle.types_resolve.specs.scope.Cyclic.{CyclicAt, ComesBefore}
use Rattle.types_resolve.specs.scope.Least.{IsLeast, earliest, position_if}
use Rattle.types_resolve.proofs.scope.ScopeLeastLemmas.{Before}
use Rattle.types_resolve.proofs.scope.CyclicLemmas.{more_cyclic, late_cyclic}
use Rattle.types_resolve.proofs.scope.cyclic.least_cyclic_name.Goals as goal
use Rattle.types_resolve.proofs.scope.cyclic.least_cyclic_name.Goals.{then-comes_before+in_ok-back, else-comes_before}

pub loop-i-preserved : goal.loop-i-preserved
loop-i-preserved c =
    let names = c.args.names.now in
    let p = c.index-names-i.result in
    let p_is = slice_get_read names (length names) c.loop-i.i p refl (omega arith) c.index-names-i.is in
    elim c.if-comes_before.branch [
      | then-comes_before+in_ok-back w ↦
          let back = w.in_ok-back.back in
          subst (IsLeast (Before (CyclicAt c.args.graph.now names) (c.loop-i.i + 1)))
          (sym (w.best-is ∙ w.earliest-best.ensures ∙ ap (earliest c.loop-i.best)
          (w.position_if.ensures ∙ ap (position_if back) c.position-position.ensures)))
          (more_cyclic c.args.graph.now names c.loop-i.i p c.loop-i.best p_is c.loop-i.invariant back w.in_ok-back.ensures)
      | else-comes_before w ↦
          subst (IsLeast (Before (CyclicAt c.args.graph.now names) (c.loop-i.i + 1))) (sym w.best-is)
          (late_cyclic c.args.graph.now names c.loop-i.i p c.loop-i.best p_is c.loop-i.invariant
          (λ before. false≢true (sym w.if-comes_before.false ∙ c.comes_before.ensures.1
          (subst (λ n. ComesBefore n c.loop-i.best) (sym c.position-position.ensures) before))))
    ]

pub returns : goal.returns
returns c = let e : c.loop-i.i ≡ length c.args.names.now = omega arith in
    subst (λ n. IsLeast (Before (CyclicAt c.args.graph.now c.args.names.now) n) c.loop-i.best) e c.loop-i.invariant

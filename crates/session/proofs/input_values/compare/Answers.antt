use Rattle.std.proofs.Common.{◌≡◌, List, [], ◌∷◌, length, get_or, inl, sym, subst, arith}
use Rattle.cli_spec.specs.Outcome.{comparison}
use Rattle.base_io.specs.Sink.{Writes, WritesPart}
use Rattle.base_io.specs.StreamState.{change}
use Rattle.run_spec.proofs.runs.RunWriteLemmas.{writes_nothing}
use Rattle.session.proofs.SessionReadLemmas.{compares_agree, compares_none, last_fault}
use Rattle.run_spec.proofs.runs.RunValueLemmas.{comparison-ok}
use Rattle.session.proofs.input_values.compare.Goals as goal

-- A list of two values consists of its first and its second value.
two :
    {X : Type 0} (xs : List X) (x y : X) → length xs ≡ 2 → x ≡ get_or xs 0 x → y ≡ get_or xs 1 y
    → xs ≡ x ∷ y ∷ []
two [] x y n a b = absurd (cc n)
two (p ∷ []) x y n a b = absurd (cc n)
two (p ∷ q ∷ []) x y n a b = cc
two (p ∷ q ∷ r ∷ rest) x y n a b = absurd (omega arith)

pub returns-then-kept-ne2 : goal.returns-then-kept-ne2
returns-then-kept-ne2 g c = λ trees are. (inl (compares_none c.args.kept.now trees are c.if-kept-ne2.true), writes_nothing (g.K.Sink.state c.args.out.now))

pub returns-in_err-write_all : goal.returns-in_err-write_all
returns-in_err-write_all g c = λ trees are.
    let both = two c.args.kept.now c.index-kept-0.result c.index-kept-1.result c.if-kept-ne2.false c.index-kept-0.is c.index-kept-1.is in
    last_fault trees _ c.from_residual-in_err-write_all.result c.from_residual-in_err-write_all.ensures.1 (comparison c.in_ok-agree.agree)
    (compares_agree c.args.kept.now trees are c.index-kept-0.result c.index-kept-1.result both c.in_ok-agree.agree c.in_ok-agree.ensures)
    (subst (λ text. WritesPart (change (g.K.Sink.state c.args.out.now) (g.K.Sink.state c.write_all.new.sink)) text) c.comparison_line.ensures c.in_err-write_all.ensures.writes)

pub returns : goal.returns
returns g c = λ trees are.
    let both = two c.args.kept.now c.index-kept-0.result c.index-kept-1.result c.if-kept-ne2.false c.index-kept-0.is c.index-kept-1.is in (
      comparison c.in_ok-agree.agree,
      compares_agree c.args.kept.now trees are c.index-kept-0.result c.index-kept-1.result both c.in_ok-agree.agree c.in_ok-agree.ensures,
      sym (comparison-ok c.in_ok-agree.agree),
      subst (λ text. Writes (change (g.K.Sink.state c.args.out.now) (g.K.Sink.state c.write_all.new.sink)) text) c.comparison_line.ensures c.in_ok-write_all.ensures.writes,
    )

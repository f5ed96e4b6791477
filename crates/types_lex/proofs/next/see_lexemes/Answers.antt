use Rattle.std.proofs.Common.{◌++◌, [], sym, subst, arith, append_assoc}
use Rattle.std.proofs.lemmas.List.{append-nil}
use Rattle.types_lex.specs.Lexemes.{Reached}
use Rattle.types_lex.proofs.PartLaws.{reached_end}
use Rattle.types_lex.proofs.next.see_lexemes.Goals as goal

pub loop-at-init : goal.loop-at-init
loop-at-init c = (omega (arith, c.requires), λ prefix r. ([], subst (Reached c.args.text.now c.args.from) (sym (append-nil prefix)) r))

pub loop-at-smaller : goal.loop-at-smaller
loop-at-smaller c = omega (arith, c.in-Ok.ensures.end.0, c.in-Ok.ensures.end.1, c.loop-at-test.true)

pub loop-at-preserved : goal.loop-at-preserved
loop-at-preserved c = (
  c.in-Ok.ensures.end.1,
  λ prefix r.
      let so_far = c.loop-at.invariant.1 prefix r in
      let on = c.in-Ok.ensures.over (prefix ++ so_far.0) so_far.1 in
      (so_far.0 ++ on.0, subst (Reached c.args.text.now c.in-Ok.end) (append_assoc prefix so_far.0 on.0) on.1),
)

pub returns-in-Err : goal.returns-in-Err
returns-in-Err c prefix r = let so_far = c.loop-at.invariant.1 prefix r in c.in-Err.ensures.over (prefix ++ so_far.0) so_far.1

pub returns : goal.returns
returns c prefix r =
    let so_far = c.loop-at.invariant.1 prefix r in
    (so_far.0, reached_end c.args.text.now c.loop-at.at (prefix ++ so_far.0) so_far.1 (omega (arith, c.loop-at-test.false)))

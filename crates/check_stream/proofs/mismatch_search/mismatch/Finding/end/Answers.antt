use Rattle.std.proofs.Common.{rules, ◌≡◌, length, subst}
use Rattle.std.specs.Prelude.{All}
use Rattle.check_stream.proofs.checker.Weaker.{if_true, on_true_weaker}
use Rattle.check_stream.specs.checker.CheckerState.{IsSpent}
use Rattle.check_stream.specs.mismatch_search.Find.{IsAlone}
use Rattle.check_stream.proofs.mismatch_search.mismatch.Finding.end.Goals as goal

pub returns : goal.returns
returns c =
    let many : c.len-objects.result ≡ length c.args.self.now.types.items = search rules in
    on_true_weaker c.are_alone.result
    (λ alone. (
      c.in-Some.found,
      record {
        its = c.in-Some.is;
        alone = subst (All (IsAlone c.args.self.now.again.marks.items)) c.as_slice.ensures.value alone;
        spent = subst (λ n. IsSpent c.args.head.now c.args.start c.args.at c.args.self.now.words n) many (if_true c.is_spent.result c.if-not-is_spent.false c.is_spent.ensures);
      },
    ))
    c.are_alone.ensures

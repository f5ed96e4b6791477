use Rattle.std.proofs.Common.{sym, ◌∙◌}
use Rattle.std.proofs.lemmas.Bool.{false≢true}
use Rattle.types_resolve.proofs.scope.ScopeRankLemmas.{rank_of, ranked-off_cycle}
use Rattle.types_resolve.proofs.scope.cyclic.comes_back.Goals as goal

pub returns-then-is_ranked : goal.returns-then-is_ranked
returns-then-is_ranked c =
    let rank = rank_of c.args.marks.now c.args.node (sym c.is_ranked.ensures ∙ c.if-is_ranked.true) in (
      λ never. absurd (false≢true never),
      λ cycle. absurd (ranked-off_cycle c.args.graph.now c.args.marks.now c.requires.ranks c.args.node rank.0 rank.1 cycle),
    )

use Rattle.std.proofs.Common.{refl, [], sym, subst, ◌∙◌, List, ℕ, ◌≡◌, true}
use Rattle.std.specs.Prelude.{slice_index_or}
use Rattle.std.specs.List.{list_all}
use Rattle.types_resolve.specs.declared.scope.ranks.VisitState.TheVariants as marks
use Rattle.types_resolve.specs.scope.Ranks.{is_ranked}
use Rattle.types_resolve.proofs.scope.ScopeRankLemmas.{ranks_opened, below_opened, ranks_more, below_more_ranks, all_ranked}
use Rattle.types_resolve.proofs.scope.ranks.rank_or_open.Goals as goal

pub returns-then-are_ranked-clause-ranks : goal.returns-then-are_ranked-clause-ranks
returns-then-are_ranked-clause-ranks c =
    ranks_more c.args.marks.now c.args.node (marks.Ranked c.args.turn) (sym c.is_ranked.ensures ∙ c.if-is_ranked.false)
    c.args.graph.now c.args.turn c.requires.ranks c.requires.below refl
    (all_ranked c.args.marks.now (slice_index_or c.args.graph.now c.args.node [])
    (subst (λ (nodes : List ℕ). list_all (λ i. is_ranked c.args.marks.now i) nodes ≡ true) c.successors.ensures
    (sym c.are_ranked.ensures ∙ c.if-are_ranked.true)))

pub returns-then-are_ranked-clause-below : goal.returns-then-are_ranked-clause-below
returns-then-are_ranked-clause-below c =
    below_more_ranks c.args.marks.now c.args.node (marks.Ranked c.args.turn) (sym c.is_ranked.ensures ∙ c.if-is_ranked.false) c.args.turn c.requires.below refl

pub returns-then-is_new-clause-ranks : goal.returns-then-is_new-clause-ranks
returns-then-is_new-clause-ranks c =
    ranks_opened c.args.marks.now c.args.node marks.Opened (sym c.is_ranked.ensures ∙ c.if-is_ranked.false) c.args.graph.now c.requires.ranks refl

pub returns-then-is_new-clause-below : goal.returns-then-is_new-clause-below
returns-then-is_new-clause-below c =
    below_opened c.args.marks.now c.args.node marks.Opened (sym c.is_ranked.ensures ∙ c.if-is_ranked.false) c.args.turn c.requires.below refl

use Rattle.std.proofs.Common.{subst, sym, ap, arith, List, ℕ, Bool, ◌≡◌, ◌∙◌, ◌++◌, ◌∷◌, [], ◌-◌, length, take, drop}
use Rattle.std.proofs.lemmas.Grind.{common_steps}
use Rattle.base_data.proofs.model.Options.{Contains-first}
use Rattle.types_resolve.specs.scope.CycleSearch.{IsSearch}
use Rattle.types_resolve.proofs.scope.ScopeSearchLemmas.{search_first, search_pop, search_answer}
use Rattle.types_resolve.proofs.scope.cycle_search.is_on_cycle.Goals as goal

pub expand-requires : goal.expand-requires
expand-requires c =
    (search_pop c.args.graph.now c.args.node c.in-Some.next c.loop-next.seen.items c.pop.new.self.items
    (subst (IsSearch c.args.graph.now c.args.node c.loop-next.seen.items) c.in-Some.ensures.items c.loop-next.invariant)).within
    c.in-Some.next (Contains-first c.in-Some.next c.pop.new.self.items)

pub loop-next-preserved : goal.loop-next-preserved
loop-next-preserved c =
    let popped = search_pop c.args.graph.now c.args.node c.in-Some.next c.loop-next.seen.items c.pop.new.self.items
    (subst (IsSearch c.args.graph.now c.args.node c.loop-next.seen.items) c.in-Some.ensures.items c.loop-next.invariant) in
    let e : take c.loop-next.seen.len (c.expand.new.seen ++ drop (length c.expand.new.seen) c.loop-next.seen.items) ≡ c.expand.new.seen = grind (arith, common_steps) in
    subst (λ (seen : List Bool). IsSearch c.args.graph.now c.args.node seen c.expand.new.stack.items) (sym e)
    (c.in_ok-expand.ensures.search c.args.node
    (subst (λ (seen : List Bool). IsSearch c.args.graph.now c.args.node seen (c.in-Some.next ∷ c.pop.new.self.items)) (sym c.deref_mut.ensures.value)
    popped))

pub loop-next-init : goal.loop-next-init
loop-next-init c = search_first c.args.graph.now c.args.node c.in_ok-seen.seen.items c.in_ok-stack.stack.items c.requires
    (c.in_ok-seen.ensures.items_if_clones_equal (λ y same. same)) c.in_ok-stack.ensures.items

pub returns : goal.returns
returns c =
    let popped = c.in_default.ensures in
    search_answer c.args.graph.now c.args.node c.loop-next.seen.items c.loop-next.stack.items c.index.result.now
    c.loop-next.invariant
    (popped.items ∙ ap (λ (xs : List ℕ). xs ++ []) (popped.rest ∙ ap (λ n. take (n - 1) c.loop-next.stack.items) popped.cases.0))
    c.requires c.index.ensures

use Rattle.std.proofs.Common.{ℕ, ◌≡◌, List, [], ◌∷◌, length, refl, subst, sym, arith}
use Rattle.std.specs.Global.{Vec}
use Rattle.types_table.specs.partition.Start.{IsParted}
use Rattle.types_table.proofs.partition.PartitionEndLemmas.{one_class, keeps_then, none_waits}
use Rattle.types_table.proofs.partition.all_classes.parted.Goals as goal

empty : (xs : List ℕ) → length xs ≡ 0 → xs ≡ []
empty [] none = refl
empty (x ∷ xs) none = absurd (omega arith)

pub loop-turn-init : goal.loop-turn-init
loop-turn-init c = (c.in_ok-refinement.ensures.under_way, one_class _ _ c.in_ok-refinement.ensures.zero)

pub loop-turn-preserved : goal.loop-turn-preserved
loop-turn-preserved c =
    (c.in_ok-turn-in-Some.ensures.under_way, keeps_then _ _ _ c.loop-turn.invariant.1 c.in_ok-turn-in-Some.ensures.keeps)

pub returns-in-None : goal.returns-in-None
returns-in-None c =
    let todo = c.loop-turn.refinement.todo.items in
    let none : length todo ≡ 0 = omega (arith, c.in-None.ensures.cases) in
    subst (λ (v : Vec ℕ). IsParted c.args.forms.now v.items) (sym c.class_of.ensures)
    (none_waits c.args.forms.now _ _ _ _ _ c.loop-turn.invariant.0 (empty todo none) c.loop-turn.invariant.1)

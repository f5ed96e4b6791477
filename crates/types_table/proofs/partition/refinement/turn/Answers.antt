use Rattle.std.proofs.Common.{ℕ, subst, sym, ap, arith}
use Rattle.std.specs.Global.{Vec}
use Rattle.std.proofs.lemmas.List.Elements.{Contains-push}
use Rattle.types_table.specs.partition.Lists.{IsTaken}
use Rattle.types_table.specs.partition.Refinement.{PartsNoEqual}
use Rattle.types_table.proofs.partition.PartitionEndLemmas.{opened, open_members, open_same}
use Rattle.types_table.proofs.partition.refinement.turn.Goals as goal

pub taken-waited-requires : goal.taken-waited-requires
taken-waited-requires c = omega (
  arith,
  c.requires.under_way.ready.within c.args.class
      (Contains-push c.args.refinement.now.todo.items c.args.class),
)

pub shorten_members-requires : goal.shorten_members-requires
shorten_members-requires c = omega (
  arith,
  c.requires.under_way.rooms,
  c.requires.under_way.waits,
  c.requires.under_way.ready.within c.args.class
      (Contains-push c.args.refinement.now.todo.items c.args.class),
)

pub part-requires-clause-open : goal.part-requires-clause-open
part-requires-clause-open c =
    let is = c.in_ok-shorten_members.ensures in
    open_same c.args.forms.now c.args.refinement.now.class.items _ c.args.refinement.now.signatures.items _ _
    c.taken-waited.new.lists.items _ c.args.refinement.now.todo.items _ _ c.args.class
    (ap (λ (v : Vec ℕ). v.items) is.class) (ap (λ (v : Vec (Vec ℕ)). v.items) is.signatures)
    (ap (λ (v : Vec (Vec ℕ)). v.items) is.waiting) (ap (λ (v : Vec ℕ). v.items) is.todo)
    (open_members c.args.forms.now c.args.refinement.now.class.items _ c.args.refinement.now.members.items _ _ _ _ c.args.class
    is.members
    (opened c.args.forms.now _ _ _ _ _ _ _ c.args.class c.requires.under_way
    (subst (λ l. IsTaken c.args.refinement.now.waiting.items c.args.class l c.taken-waited.new.lists.items)
    (sym c.as_slice-2.ensures.value) c.taken-waited.ensures)))

pub returns-clause-keeps : goal.returns-clause-keeps
returns-clause-keeps c = subst
    (λ (v : Vec ℕ). PartsNoEqual c.args.forms.now v.items c.part.new.refinement.class.items)
    c.in_ok-shorten_members.ensures.class c.in_ok-part.ensures.keeps

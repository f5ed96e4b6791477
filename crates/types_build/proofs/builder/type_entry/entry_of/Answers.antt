use Rattle.std.proofs.lemmas.Result.{IfOk-weaker}
use Rattle.types_spec.specs.types.TypeNodes.{type_at}
use Rattle.types_build.proofs.builder.ListingLemmas.{placed_is_met}
use Rattle.types_build.proofs.builder.type_entry.entry_of.Goals as goal

pub returns-clause-within : goal.returns-clause-within
returns-clause-within c =
    IfOk-weaker c.placed_entry.result _ _
    (λ entry placed.
    (placed_is_met c.args.decls.now (type_at c.args.types.now c.args.number) c.args.types.now c.representation_with.new.types c.stand_once.ensures
    c.in_ok-representation.ensures.grown c.args.met.now.keys c.placed_entry.new.met.keys c.requires.found.within c.in_ok-representation.representation
    c.in_ok-representation.ensures.ok entry placed).within)
    c.placed_entry.ensures

pub returns-clause-ok : goal.returns-clause-ok
returns-clause-ok c =
    IfOk-weaker c.placed_entry.result _ _
    (λ entry placed.
    (placed_is_met c.args.decls.now (type_at c.args.types.now c.args.number) c.args.types.now c.representation_with.new.types c.stand_once.ensures
    c.in_ok-representation.ensures.grown c.args.met.now.keys c.placed_entry.new.met.keys c.requires.found.within c.in_ok-representation.representation
    c.in_ok-representation.ensures.ok entry placed).is)
    c.placed_entry.ensures

use Rattle.std.proofs.Common.{ℕ, List, ◌++◌, subst, arith}
use Rattle.std.specs.Prelude.{IsTrue, ◌↔◌}
use Rattle.types_spec.specs.declared.types.head.TagOf.{TagOf}
use Rattle.types_wellformed.specs.brackets.TagTables.{AreArguments, SomeConflicts}
use Rattle.types_wellformed.proofs.brackets.BracketLemmas.{no_conflicts, more_conflicts, all_conflicts}
use Rattle.types_wellformed.proofs.brackets.BracketTreeLemmas.{least_conflict_of}
use Rattle.types_wellformed.proofs.brackets.arguments.least_conflict.Goals as goal

pub loop-item-init : goal.loop-item-init
loop-item-init c = no_conflicts c.args.items.now c.empty-table.result c.empty-table.ensures

pub loop-item-preserved : goal.loop-item-preserved
loop-item-preserved c =
    more_conflicts c.args.items.now c.loop-item.item-index c.item-item.result c.loop-item.table c.add_arguments.new.table
    c.loop-item.best c.conflicts.result c.position_if.result c.earliest-best.result c.loop-item-test.true c.item-item.is c.loop-item.invariant
    (subst (λ (tags : List (TagOf ℕ)). (seen : List (TagOf ℕ)) → AreArguments seen c.loop-item.table → IsTrue c.conflicts.result ↔ SomeConflicts seen tags)
    c.as_slice-tags.ensures c.conflicts.ensures)
    (subst (λ (tags : List (TagOf ℕ)). (seen : List (TagOf ℕ)) → AreArguments seen c.loop-item.table → AreArguments (seen ++ tags) c.add_arguments.new.table)
    c.as_slice-tags.ensures c.in_ok-add_arguments.ensures)
    c.position_if.ensures c.earliest-best.ensures

pub returns : goal.returns
returns c =
    let least = all_conflicts c.args.items.now c.loop-item.item-index c.loop-item.table c.loop-item.best (omega arith) (omega arith) c.loop-item.invariant in
    record {
      least = least;
      of_types = λ types decls all are. least_conflict_of types decls c.args.items.now all are c.loop-item.best least;
    }

use Rattle.std.proofs.Common.{sym, subst}
use Rattle.types_table.specs.type_table.Made.{table_of}
use Rattle.check_heap.specs.check.Met.{AreAllMet}
use Rattle.check_heap.proofs.check.CheckMetLemmas.{none_met}
use Rattle.check_heap.proofs.check.meetings.met.Goals as goal

pub returns-in_ok-visits-in_default : goal.returns-in_ok-visits-in_default
returns-in_ok-visits-in_default c =
    subst (AreAllMet (table_of c.args.table.now) c.args.heap.now c.args.root) (sym c.in_ok-visits-in_default.ensures.none)
    (none_met (table_of c.args.table.now) c.args.heap.now c.holds.ensures.lawful c.args.root c.in_default.not-Ref)

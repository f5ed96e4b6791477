use Rattle.std.proofs.Common.{◌∙◌, true, false, sym, ap}
use Rattle.types_spec.specs.types.Fitting.{is_asked}
use Rattle.types_spec.specs.types.Table.{node_or_none}
use Rattle.types_table.specs.type_table.Made.{table_of}
use Rattle.check_fault.proofs.FaultStepLemmas.{none_needed, needed_by}
use Rattle.check_fault.proofs.near.needed_type.Goals as goal

pub returns-in_default-clause-is : goal.returns-in_default-clause-is
returns-in_default-clause-is c =
    none_needed (table_of c.args.tried.now.table.now) c.args.tried.now.heap.now c.args.tried.now.value c.args.tried.now.at c.args.i (sym c.in_default.is ∙ c.type_in.ensures.is)

pub returns-then-is_asked-clause-is : goal.returns-then-is_asked-clause-is
returns-then-is_asked-clause-is c =
    needed_by (table_of c.args.tried.now.table.now) c.args.tried.now.heap.now c.args.tried.now.value c.args.tried.now.at c.args.i c.in-Some.ty true (sym c.in-Some.is ∙ c.type_in.ensures.is)
    (ap (λ n. is_asked (node_or_none n)) c.shape.ensures ∙ sym c.is_asked.ensures ∙ c.if-is_asked.true)

pub returns-else-is_asked-clause-is : goal.returns-else-is_asked-clause-is
returns-else-is_asked-clause-is c =
    needed_by (table_of c.args.tried.now.table.now) c.args.tried.now.heap.now c.args.tried.now.value c.args.tried.now.at c.args.i c.in-Some.ty false (sym c.in-Some.is ∙ c.type_in.ensures.is)
    (ap (λ n. is_asked (node_or_none n)) c.shape.ensures ∙ sym c.is_asked.ensures ∙ c.if-is_asked.false)

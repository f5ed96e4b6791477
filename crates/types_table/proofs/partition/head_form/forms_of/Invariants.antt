use Rattle.std.proofs.Common.{take}
use Rattle.types_table.proofs.partition.Loops.{FormsSoFar}
use Rattle.types_table.proofs.partition.head_form.forms_of.Given as goal

abbrev pub invariant-loop-head : goal.invariant-loop-head
invariant-loop-head l = FormsSoFar l.names (take l.head-index l.all) l.forms

use Rattle.std.proofs.Common.{length}
use Rattle.base_data.specs.model.Graph.{IsValue}
use Rattle.test_conformance.proofs.check_steps.answer_edits.Given as goal

abbrev pub invariant-loop-line : goal.invariant-loop-line
invariant-loop-line l = IsValue (length l.value.heap) l.value.root

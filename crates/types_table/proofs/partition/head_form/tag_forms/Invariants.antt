use Rattle.std.proofs.Common.{take}
use Rattle.types_table.proofs.partition.Loops.{TagsSoFar}
use Rattle.types_table.proofs.partition.head_form.tag_forms.Given as goal

abbrev pub invariant-loop-tag : goal.invariant-loop-tag
invariant-loop-tag l = TagsSoFar l.fn.names l.names (take l.tag-index l.tags) l.forms.items

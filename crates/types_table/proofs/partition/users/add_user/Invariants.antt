use Rattle.std.proofs.Common.{◌++◌, take}
use Rattle.std.specs.List.{flat_map}
use Rattle.types_spec.specs.types.Reached.{listed_if}
use Rattle.types_table.specs.declared.partition.head_form.TagForm.{TagForm}
use Rattle.types_table.proofs.partition.Loops.{UsesSoFar}
use Rattle.types_table.proofs.partition.users.add_user.Given as goal

abbrev pub invariant-loop-part : goal.invariant-loop-part
invariant-loop-part l = UsesSoFar l.fn.users.items l.users.items (take l.part-index l.part-items) l.user

abbrev pub invariant-loop-tag : goal.invariant-loop-tag
invariant-loop-tag l =
    UsesSoFar l.fn.users.items l.users.items
    (l.form.parts ++ flat_map (λ (tag : TagForm). listed_if tag.argument) (take l.tag-index l.tag-items)) l.user

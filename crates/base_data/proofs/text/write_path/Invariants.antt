use Rattle.std.proofs.Common.{◌≡◌, ◌++◌, take}
use Rattle.base_data.specs.model.PathText.{steps_text}
use Rattle.base_data.proofs.text.write_path.Given as goal

-- The text contains the steps that were visited.
abbrev pub invariant-loop-i : goal.invariant-loop-i
invariant-loop-i l = l.text.items ≡ l.initial.text.items ++ steps_text (take l.i l.path)

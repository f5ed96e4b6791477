use Rattle.std.proofs.Common.{◌≡◌, ◌++◌, take}
use Rattle.std.specs.Int.{w64, to_le_bytes}
use Rattle.std.specs.List.{flat_map}
use Rattle.text_print.specs.leaves.LeafTexts.{escaped}
use Rattle.text_print.proofs.leaves.string_text.write_words.Given as goal

abbrev pub invariant-loop-j : goal.invariant-loop-j
invariant-loop-j l = l.text.items ≡ l.fn.text.items ++ flat_map (escaped 34) (flat_map (to_le_bytes w64) (take l.j l.words))

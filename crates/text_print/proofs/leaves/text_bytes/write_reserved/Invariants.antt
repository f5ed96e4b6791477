use Rattle.std.proofs.Common.{◌≡◌, ◌+◌, ◌++◌, take}
use Rattle.std.specs.Prelude.{vec_len, vec_capacity}
use Rattle.text_print.proofs.leaves.text_bytes.write_reserved.Given as goal

abbrev pub invariant-loop-i : goal.invariant-loop-i
invariant-loop-i l =
    (l.text.items ≡ l.fn.text.items ++ take l.i l.bytes) × (vec_len l.text ≡ vec_len l.fn.text + l.i) × (vec_capacity l.text ≡ vec_capacity l.fn.text)

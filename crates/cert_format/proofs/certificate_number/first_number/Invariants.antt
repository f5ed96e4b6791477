use Rattle.std.proofs.Common.{◌≡◌, ◌≤◌, ◌-◌, take, length}
use Rattle.std.specs.Str.Parse.{AllDigits, digits_value}
use Rattle.cert_format.proofs.certificate_number.first_number.Given as goal

-- The first `i` bytes are digits, and `n` is the number of these digits.
abbrev pub invariant-loop-i : goal.invariant-loop-i
invariant-loop-i l =
    (AllDigits 10 (take l.i l.text) × (l.n ≡ digits_value 10 (take l.i l.text)))
    × (l.i ≤ 18) × (l.i ≤ length l.text)

abbrev pub decreases-loop-i : goal.decreases-loop-i
decreases-loop-i l = length l.text - l.i

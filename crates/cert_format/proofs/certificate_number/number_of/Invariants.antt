use Rattle.std.proofs.Common.{◌≡◌, take}
use Rattle.std.specs.Str.Parse.{AllDigits, digits_value}
use Rattle.cert_format.proofs.certificate_number.number_of.Given as goal

-- The first `i` bytes are digits, and `n` is the number of these digits.
abbrev pub invariant-loop-i : goal.invariant-loop-i
invariant-loop-i l = AllDigits 10 (take l.i l.digits) × (l.n ≡ digits_value 10 (take l.i l.digits))

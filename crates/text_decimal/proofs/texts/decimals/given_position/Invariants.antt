use Rattle.std.proofs.Common.{◌≡◌, ◌≤◌, ◌^◌, drop}
use Rattle.text_decimal.specs.texts.PlainTexts.{given_from, given_position, AreWithin}
use Rattle.text_decimal.proofs.texts.decimals.given_position.Given as goal

abbrev pub invariant-loop-decimal : goal.invariant-loop-decimal
invariant-loop-decimal l =
    (l.at ≤ 2 ^ 63) × (l.plain ≤ l.byte) × AreWithin l.at (drop l.decimal-index l.decimals) (2 ^ 63)
    × (given_from l.at l.plain (drop l.decimal-index l.decimals) l.byte ≡ given_position l.decimals l.byte)

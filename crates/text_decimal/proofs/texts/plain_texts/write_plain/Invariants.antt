use Rattle.std.proofs.Common.{◌≡◌, ◌≤◌, ◌++◌, drop, length}
use Rattle.text_decimal.specs.texts.PlainTexts.{plain_with, AreWithin}
use Rattle.text_decimal.proofs.texts.plain_texts.write_plain.Given as goal

abbrev pub invariant-loop-decimal : goal.invariant-loop-decimal
invariant-loop-decimal l =
    (l.at ≤ length l.text) × AreWithin l.at (drop l.decimal-index l.decimals) (length l.text)
    × (l.new.items ++ plain_with l.text l.at (drop l.decimal-index l.decimals) ≡ l.fn.new.items ++ plain_with l.text 0 l.decimals)

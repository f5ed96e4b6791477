use Rattle.std.proofs.Common.{◌≡◌, w64}
use Rattle.std.proofs.Math.Facts.{to_z-of_z}
use Rattle.std.specs.Fmt.{signed_decimal}
use mir.Val.{SFits}
use Rattle.cli_errors.proofs.refusal_text.range_text.Goals as goal

pub returns : goal.returns
returns c =
    let fits : SFits w64 c.args.value = c.ranges.value in
    let digits : c.format.result.now ≡ signed_decimal c.args.value = simp to_z-of_z at c.format.ensures.text in
    rw (← digits) c.digits_text.ensures

use Rattle.std.proofs.Common.{◌+◌, ap}
use Rattle.std.proofs.lemmas.Bool.{OnTrue_at}
use Rattle.cert_format.proofs.StemLemmas.{pair_agree}
use Rattle.cert_format.proofs.stems.first_agree.Goals as goal

pub returns : goal.returns
returns c =
    let range = c.if-not-is_ascii_digit.ensures.cases in
    pair_agree c.args.text.now c.args.stem.now c.args.tens _ c.in_ok-ty.ty c.in_ok-ty.rest.now c.requires c.if-text-len.false
    (OnTrue_at c.if-not-begins_with.false c.begins_with.ensures) range.0 range.1 c.if-text-len-ne32.false c.in_ok-ty.ensures
    (ap (λ n. c.args.tens + n) c.from.ensures)

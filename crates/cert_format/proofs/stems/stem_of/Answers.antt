use Rattle.std.proofs.Common.{◌-◌, length, refl, arith}
use Rattle.cert_format.proofs.StemLemmas.{next_stem}
use Rattle.cert_format.proofs.stems.stem_of.Goals as goal

pub returns : goal.returns
returns c =
    let small = c.if-object-ge100000000000000000.false in
    next_stem c.args.text.now c.args.behind.now c.args.object (length c.args.text.now - length c.args.behind.now) c.requires.line
    c.if-object-lt10.false (omega (arith, small)) refl c.if-end-lt9.false c.if-end-gt17.false

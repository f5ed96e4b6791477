use Rattle.cert_format.proofs.CutLemmas.{is_cut_slice}
use Rattle.cert_format.proofs.cuts.until.Goals as goal

pub returns : goal.returns
returns c =
    is_cut_slice c.args.bytes.now c.args.at c.position_of-position.result c.position_of-position.ensures.within c.position_of-position.ensures.before
    c.position_of-position.ensures.found

use Rattle.check_stream.proofs.mismatch_theory.MismatchStatedLemmas.{one_missed_prefixes}
use Rattle.check_stream.proofs.mismatch_theory.laws.one_missed_prefixes.Goals as goal

pub returns : goal.returns
returns c table limit bytes head start n tokens back made missed lawful passing stated others =
    one_missed_prefixes table limit bytes head start n tokens back made missed lawful passing stated others

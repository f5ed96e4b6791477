use Rattle.check_stream.proofs.mismatch_theory.LawLemmas.{only_missed}
use Rattle.check_stream.proofs.mismatch_theory.laws.only_missed_is_least.Goals as goal

pub returns : goal.returns
returns c table lawful back tree made missed is passed others = only_missed table lawful back tree made missed is passed others

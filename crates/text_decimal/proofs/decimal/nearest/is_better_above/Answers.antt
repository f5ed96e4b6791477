use Rattle.text_decimal.proofs.decimal.NearestLemmas.{few_powers}
use Rattle.text_decimal.proofs.decimal.nearest.is_better_above.Goals as goal

pub against_halfway-requires : goal.against_halfway-requires
against_halfway-requires c = record { small = few_powers c.args.size.bits c.args.digits c.args.power c.args.size.some c.requires.reads }

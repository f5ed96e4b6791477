use Rattle.text_pretty.proofs.JoinLemmas.{pretty_is_plain_lem}
use Rattle.text_pretty.proofs.ShortLemmas.{pretty_is_short_lem}
use Rattle.text_pretty.proofs.laws.pretty_is_plain.Goals as goal

pub returns : goal.returns
returns c = record { plain = pretty_is_plain_lem; short = pretty_is_short_lem }

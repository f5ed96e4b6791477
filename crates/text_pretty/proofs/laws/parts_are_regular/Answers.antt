use Rattle.text_pretty.proofs.PrettyPartLemmas.{parts_are_regular_lem}
use Rattle.text_pretty.proofs.laws.parts_are_regular.Goals as goal

pub returns : goal.returns
returns c = parts_are_regular_lem

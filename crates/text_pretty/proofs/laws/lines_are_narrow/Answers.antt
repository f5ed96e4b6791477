use Rattle.text_pretty.proofs.NarrowSteps.{pretty_is_narrow_lem}
use Rattle.text_pretty.proofs.laws.lines_are_narrow.Goals as goal

pub returns : goal.returns
returns c = pretty_is_narrow_lem

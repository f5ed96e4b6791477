use Rattle.cmd_build.proofs.spec.BuildSpecLawfulLemmas.{building_turns}
use Rattle.cmd_build.proofs.spec.laws.building_takes_turns.Goals as goal

pub returns : goal.returns
returns g c = building_turns g.B.Builds.language g.B.Builds.TextOf c.requires

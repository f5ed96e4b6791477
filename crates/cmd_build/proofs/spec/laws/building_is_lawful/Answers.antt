use Rattle.cmd_build.proofs.spec.BuildSpecLawfulLemmas.{building_lawful}
use Rattle.cmd_build.proofs.spec.laws.building_is_lawful.Goals as goal

pub returns : goal.returns
returns g c = building_lawful g.B.Builds.language g.B.Builds.TextOf c.requires.language c.requires.once

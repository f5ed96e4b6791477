use Rattle.cmd_build.proofs.spec.BuildSpecTableLemmas.{exact}
use Rattle.cmd_build.proofs.spec.laws.texts_have_exit_statuses.Goals as goal

pub returns : goal.returns
returns g c = exact g.B.Builds.language g.B.Builds.TextOf

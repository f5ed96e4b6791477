use Rattle.std.proofs.Common.{vec_len}
use Rattle.std.specs.Vec.{vec_capacity}
use Rattle.session.proofs.EarlierLemmas.{pushed}
use Rattle.session.proofs.earlier.keep_made.Goals as goal

pub returns : goal.returns
returns c = pushed c.push-pushed.result c.args.kept.now.items _ c.args.made (vec_len c.args.kept.now) (vec_capacity c.args.kept.now) c.push-pushed.ensures.items c.push-pushed.ensures.full c.requires

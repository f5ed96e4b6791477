use Rattle.std.proofs.lemmas.Result.{IfOk-weaker}
use Rattle.types_build.proofs.representation.RepresentationLemmas.{names_by_types}
use Rattle.types_build.proofs.representation.representation_names.names_at.Goals as goal

pub returns : goal.returns
returns c = IfOk-weaker c.names_by_head.result _ _ (λ names are. names_by_types c.args.decls.now c.args.at.now names are) c.names_by_head.ensures

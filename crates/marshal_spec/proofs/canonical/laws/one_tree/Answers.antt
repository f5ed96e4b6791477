use Rattle.marshal_spec.proofs.canonical.Walk.{has_one_tree}
use Rattle.marshal_spec.proofs.canonical.laws.one_tree.Goals as goal

pub returns : goal.returns
returns c = has_one_tree

use Rattle.types_spec.specs.types.Shape.{shape}
use Rattle.types_spec.specs.types.Head.{head}
use Rattle.types_spec.specs.types.Names.{names_of}
use Rattle.types_spec.specs.types.Equal.{Equal}
use Rattle.types_theory.proofs.equality.EqualLemmas.{equal_turned, equal_joined}
use Rattle.types_theory.proofs.equality.TyEquality.{types_same_or_not}
use Rattle.trees.proofs.search_trees.SearchTreeVerdictLemmas.{one_verdict}
use Rattle.trees.proofs.search_trees.laws.tree_verdicts_are_one.Goals as goal

pub returns : goal.returns
returns c decls graph root t one other first second =
    one_verdict (Equal decls) (equal_turned (head decls)) (equal_joined (head decls) types_same_or_not)
    (shape decls) (names_of decls) graph root t one other first second

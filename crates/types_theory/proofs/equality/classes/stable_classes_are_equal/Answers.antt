use Rattle.types_theory.proofs.equality.ClassLemmas.{stable_is_equal}
use Rattle.types_theory.proofs.equality.classes.stable_classes_are_equal.Goals as goal

pub returns : goal.returns
returns c = stable_is_equal

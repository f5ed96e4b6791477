use Rattle.trees.proofs.value_verdict.TreeVerdictTableLemmas.{judges_trees}
use Rattle.trees.proofs.value_verdict.laws.tables_judge_trees.Goals as goal

pub returns : goal.returns
returns c decls t table well sound is = judges_trees decls t table is well sound

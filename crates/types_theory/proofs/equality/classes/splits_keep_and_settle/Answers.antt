use Rattle.std.specs.Prelude.{IsTrue}
use Rattle.types_theory.proofs.equality.ClassLemmas.{start_keeps, split_keeps, split_settles}
use Rattle.types_theory.proofs.equality.classes.splits_keep_and_settle.Goals as goal

pub returns-clause-keep : goal.returns-clause-keep
returns-clause-keep c n head old new member within split keeps =
    split_keeps n head within old new split.keeps keeps

pub returns-clause-settle : goal.returns-clause-settle
returns-clause-settle c n head old new member done split stable =
    split_settles n head old new (λ i. IsTrue (member i)) (λ i. IsTrue (done i)) split stable

pub returns-clause-start : goal.returns-clause-start
returns-clause-start c n head class similar = start_keeps n head class similar

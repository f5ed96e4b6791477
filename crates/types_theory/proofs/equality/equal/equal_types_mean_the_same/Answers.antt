use Rattle.types_theory.proofs.equality.EqualityLawfulLemmas.{reached_lawful}
use Rattle.types_theory.proofs.equality.equal.equal_types_mean_the_same.Goals as goal

pub returns : goal.returns
returns c decls t types sound reached known = reached_lawful decls sound t types reached known

use Rattle.types_theory.proofs.equality.EqualityNeedLemmas.{head_again, head_plain, only_head}
use Rattle.types_theory.proofs.equality.RankedLemmas.{are_ranked}
use Rattle.types_theory.proofs.equality.equal.heads_are_found.Goals as goal

pub returns-clause-replaced : goal.returns-clause-replaced
returns-clause-replaced c decls t u sound is =
    head_again decls sound.rank (are_ranked decls sound) t u is

pub returns-clause-written : goal.returns-clause-written
returns-clause-written c decls t sound is =
    head_plain decls sound.rank (are_ranked decls sound) t is

pub returns-clause-only : goal.returns-clause-only
returns-clause-only c decls other sound again plain t =
    only_head decls sound.rank (are_ranked decls sound) other again plain t

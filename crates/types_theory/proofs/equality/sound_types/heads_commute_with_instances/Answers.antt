use Rattle.types_spec.specs.types.Head.{head}
use Rattle.types_theory.proofs.equality.HeadInstance.{head-instance, includes_of, free_head}
use Rattle.types_theory.proofs.equality.HeadVariable.{head-variable}
use Rattle.types_theory.proofs.equality.EqualityInstanceLemmas.{unfolded-instance}
use Rattle.types_theory.proofs.equality.sound_types.heads_commute_with_instances.Goals as goal

pub returns-clause-replacements : goal.returns-clause-replacements
returns-clause-replacements c decls value t well whole given =
    unfolded-instance decls well value t whole given

pub returns-clause-heads : goal.returns-clause-heads
returns-clause-heads c decls value t well s free =
    head-instance decls well value t s.written s.arguments (includes_of decls well t s.brackets)
    (free_head (head decls t) free)

pub returns-clause-variables : goal.returns-clause-variables
returns-clause-variables c decls value t x well s same =
    head-variable decls well value x t s.written s.arguments same

use Rattle.std.proofs.Common.{◌∙◌, sym, ap}
use Rattle.check_stream.specs.theory.AskedNeeds.{values_in}
use Rattle.check_stream.proofs.theory.BlockLemmas.{values_of_types}
use Rattle.check_stream.specs.checker.OpenPositions.{open_needs}
use Rattle.check_stream.specs.declared.checker.open_positions.BlockPositions.{BlockPositions}
use Rattle.check_stream.proofs.checker.CheckerPositionLemmas.{values_each}
use Rattle.check_stream.proofs.checker.open_positions.values_of.Goals as goal

pub returns-in-Listed : goal.returns-in-Listed
returns-in-Listed c = sym (ap (λ (block : BlockPositions). values_in (open_needs block)) c.in-Listed.is ∙ values_of_types c.in-Listed.types.now)

pub returns-in-Each : goal.returns-in-Each
returns-in-Each c = sym (ap (λ (block : BlockPositions). values_in (open_needs block)) c.in-Each.is ∙ values_each c.in-Each.count c.in-Each.field-1)

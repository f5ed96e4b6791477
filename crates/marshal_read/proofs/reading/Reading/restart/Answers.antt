use Rattle.std.proofs.Common.{refl, ap}
use Rattle.marshal_read.specs.Build.{Bounded}
use Rattle.marshal_read.proofs.ChunksLemmas.{nothing_read}
use Rattle.marshal_read.proofs.reading.Reading.restart.Goals as goal

pub returns-clause-leads : goal.returns-clause-leads
returns-clause-leads c = (refl, nothing_read c.args.limit, ap (λ (s : Bounded). s.built) c.restart.ensures)

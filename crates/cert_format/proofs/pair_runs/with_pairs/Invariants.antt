use Rattle.std.proofs.Common.{length}
use Rattle.cert_format.specs.PairRuns.{IsStem}
use Rattle.cert_format.proofs.CertificateRunLemmas.{IsPast}
use Rattle.cert_format.proofs.pair_runs.with_pairs.Given as goal

abbrev pub invariant-loop-pair : goal.invariant-loop-pair
invariant-loop-pair l = record {
  past : IsPast l.fn.pairs l.text l.longer l.lines l.rest;
  stem : IsStem l.stem l.tens;
}

abbrev pub decreases-loop-pair : goal.decreases-loop-pair
decreases-loop-pair l = length l.rest

use Rattle.cert_format.proofs.CertificateRunLemmas.{none_past, one_past}
use Rattle.cert_format.proofs.StemLemmas.{thousand}
use Rattle.cert_format.proofs.pair_runs.with_pairs.Goals as goal

pub loop-pair-preserved : goal.loop-pair-preserved
loop-pair-preserved c = record {
  past = one_past c.args.pairs c.args.text.now c.loop-pair.longer c.loop-pair.lines c.loop-pair.rest.now
      c.loop-pair.invariant.past c.in-Some.pair c.in-Some.behind.now c.push.new.self c.in-Some.ensures.0
      c.in_ok-push.ensures.ok;
  stem = c.in-Some.ensures.1;
}

pub loop-pair-init : goal.loop-pair-init
loop-pair-init c = record {
  past = none_past c.args.pairs c.args.text.now c.requires;
  stem = rw c.as_slice-stem.ensures thousand;
}

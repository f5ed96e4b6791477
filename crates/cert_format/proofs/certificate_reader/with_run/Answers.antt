use Rattle.std.proofs.Common.{rules, ◌∙◌, Some, ap}
use Rattle.cert_format.specs.Increasing.{AreIncreasing}
use Rattle.cert_format.proofs.CertificateReadLemmas.{run_read}
use Rattle.cert_format.proofs.certificate_reader.with_run.Goals as goal

pub returns-in_ok-longer-in-Some-Pairs : goal.returns-in_ok-longer-in-Some-Pairs
returns-in_ok-longer-in-Some-Pairs c =
    let increasing : AreIncreasing c.in_ok-longer-in-Some-Pairs.longer = search rules in
    run_read c.args.reading c.in-Some-Pairs.pairs c.in_ok-longer-in-Some-Pairs.longer c.args.text.now
    c.in_ok-longer-in-Some-Pairs.many c.in_ok-longer-in-Some-Pairs.taken c.requires (c.in-Some-Pairs.is ∙ ap Some c.in-Some-Pairs.field-0-is)
    increasing c.in_ok-longer-in-Some-Pairs.ensures

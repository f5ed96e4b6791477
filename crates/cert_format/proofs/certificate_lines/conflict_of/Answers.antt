use Rattle.std.proofs.lemmas.Option.{MatchOption-at_none}
use Rattle.cert_format.specs.CertificateReading.{IsPathText, IsNoPathText}
use Rattle.cert_format.proofs.CertificateHeadLemmas.{no_conflict_space, no_conflict_first, no_conflict_second}
use Rattle.cert_format.proofs.certificate_lines.conflict_of.Goals as goal

pub returns-in_default : goal.returns-in_default
returns-in_default c section stated is =
    no_conflict_space c.args.paths.now c.until.result.0.now c.until.result.1.now c.until.ensures c.in_default.ensures section stated is

pub returns-in_default-2 : goal.returns-in_default-2
returns-in_default-2 c section stated is =
    no_conflict_first c.args.paths.now c.until.result.0.now c.until.result.1.now c.until.ensures
    (MatchOption-at_none (IsNoPathText c.until.result.0.now) (IsPathText c.until.result.0.now) c.in_default-2.is c.in_ok-first.ensures) section stated
    is

pub returns-in-None : goal.returns-in-None
returns-in-None c section stated is =
    no_conflict_second c.args.paths.now c.until.result.0.now c.until.result.1.now c.until.ensures c.in-Some.other.now c.in-Some.ensures
    (MatchOption-at_none (IsNoPathText c.in-Some.other.now) (IsPathText c.in-Some.other.now) c.in-None.is c.in_ok-second.ensures) section stated is

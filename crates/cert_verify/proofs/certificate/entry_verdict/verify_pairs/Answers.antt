use Rattle.std.proofs.Common.{inl, refl}
use Rattle.std.proofs.lemmas.Bool.{OnTrue_at}
use Rattle.cert_verify.proofs.certificate.entry_verdict.verify_pairs.Goals as goal

pub returns-then-are_accepted : goal.returns-then-are_accepted
returns-then-are_accepted c = inl (OnTrue_at c.if-are_accepted.true c.are_accepted.ensures, refl)

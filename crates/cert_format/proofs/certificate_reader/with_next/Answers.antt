use Rattle.std.proofs.Common.{◌∙◌, sym}
use Rattle.std.proofs.lemmas.Bool.{false≢true}
use Rattle.cert_format.proofs.CertificateReadLemmas.{has_one_more, no_longer}
use Rattle.cert_format.proofs.certificate_reader.with_next.Goals as goal

pub returns-then-not-is_above : goal.returns-then-not-is_above
returns-then-not-is_above c pair above is =
    no_longer c.args.pairs (c.in-Some.object, c.in-Some.ty) c.args.line.now c.in-Some.ensures
    (λ own. false≢true (sym c.if-not-is_above.true ∙ c.is_above.ensures.1 own)) pair above is

pub returns : goal.returns
returns c =
    has_one_more c.args.pairs c.push.new.self (c.in-Some.object, c.in-Some.ty) c.args.line.now c.requires
    (c.is_above.ensures.0 c.if-not-is_above.false) c.in-Some.ensures c.in_ok-push.ensures.ok

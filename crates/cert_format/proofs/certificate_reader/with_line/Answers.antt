use Rattle.std.proofs.Common.{ℕ, rules, ◌≡◌, codes, subst}
use Rattle.std.proofs.lemmas.Option.{MatchOption-at_none}
use Rattle.cert_format.specs.CertificateReading.{IsHead, IsNoHead, HasOneMore, HasNoMore}
use Rattle.cert_format.proofs.CertificateReadLemmas.{reading_closed, reading_without_head, reading_without_more}
use Rattle.cert_format.proofs.certificate_reader.with_line.Goals as goal

pub returns-then-eq : goal.returns-then-eq
returns-then-eq c =
    let end : c.args.line.now ≡ codes "end" = search rules in
    reading_closed c.args.reading c.in-Some.section c.args.line.now c.push.new.self c.requires c.in-Some.is end c.in_ok-push-in-Some.ensures.ok

pub returns-in-None-2 : goal.returns-in-None-2
returns-in-None-2 c prefix =
    reading_without_head c.args.reading c.args.line.now c.requires c.in-None.is
    (subst (λ (k : ℕ). IsNoHead k c.args.line.now) c.len.ensures
    (MatchOption-at_none (IsNoHead c.len.result c.args.line.now) (IsHead c.len.result c.args.line.now) c.in-None-2.is c.in_ok-section-in-None.ensures))
    prefix

pub returns-in-None-3 : goal.returns-in-None-3
returns-in-None-3 c prefix =
    let other : c.args.line.now ≡ codes "end" → ⊥ = search rules in
    reading_without_more c.args.reading c.in-Some.section c.args.line.now c.requires c.in-Some.is other
    (MatchOption-at_none (HasNoMore c.in-Some.section c.args.line.now) (HasOneMore c.in-Some.section c.args.line.now) c.in-None-3.is
    c.in_ok-longer-in-Some.ensures)
    prefix

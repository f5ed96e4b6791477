use Rattle.std.proofs.Common.{◌≡◌, false}
use Rattle.std.specs.Prelude.{is_some}
use Rattle.cert_format.proofs.CertificateHeadLemmas.{no_bytes}
use Rattle.cert_format.proofs.ComingLemmas.{cut_lacks, kept_longer}
use Rattle.cert_format.proofs.certificate_reader.CertReader.take.Goals as goal

pub returns-then-is_empty : goal.returns-then-is_empty
returns-then-is_empty c bytes come =
    let none : is_some c.args.self.now.fault ≡ false = cc in
    kept_longer c.args.self.now.reading c.args.self.now.lines c.args.self.now.kept.items bytes c.args.chunk.now c.args.self.now.fault
    c.extend_from_slice.new.self.items none c.in_ok-extend_from_slice.ensures.items
    (cut_lacks c.args.chunk.now c.until.result.0.now c.until.result.1.now c.until.ensures
    (no_bytes c.until.result.1.now c.is_empty.result c.is_empty.ensures c.if-is_empty.true))
    come

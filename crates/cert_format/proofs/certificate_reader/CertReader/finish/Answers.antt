use Rattle.cert_format.proofs.ComingLemmas.{fault_known}
use Rattle.cert_format.proofs.certificate_reader.CertReader.finish.Goals as goal

pub returns-in-Some-clause-err : goal.returns-in-Some-clause-err
returns-in-Some-clause-err c bytes come =
    fault_known c.args.self.reading c.args.self.lines c.args.self.kept.items bytes c.args.self.fault c.in-Some.line c.in-Some.is come

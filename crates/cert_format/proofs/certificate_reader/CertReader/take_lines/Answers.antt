use Rattle.std.proofs.Common.{◌≡◌, arith}
use Rattle.cert_format.proofs.ComingLemmas.{fault_few}
use Rattle.cert_format.proofs.certificate_reader.CertReader.take_lines.Goals as goal

pub overflow_add-self-in-Err-Syntax : goal.overflow_add-self-in-Err-Syntax
overflow_add-self-in-Err-Syntax c =
    let own = c.requires.kept in
    let text : c.as_slice.result.now ≡ c.args.self.now.kept.items = cc in
    let few = fault_few c.args.self.now.reading c.args.self.now.lines c.args.self.now.kept.items own.0 own.1
    c.replace-reading.result c.as_slice.result.now c.in-Err-Syntax.line c.replace-reading.ensures.value text
    (rw c.in-Err-Syntax.field-0-is at c.in-Err-Syntax.ensures.err) in
    let short = own.2 in
    omega (arith, few, short)

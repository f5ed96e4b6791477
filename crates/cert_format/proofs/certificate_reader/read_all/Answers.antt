use Rattle.std.proofs.Common.{[], refl}
use Rattle.cert_format.proofs.CertificateHeadLemmas.{some_bytes}
use Rattle.cert_format.proofs.CertificateReadLemmas.{unended, unclosed_by_test}
use Rattle.cert_format.proofs.certificate_reader.read_all.Goals as goal
use Rattle.cert_format.proofs.certificate_reader.read_all.Goals.{else-is_empty-via-then-is_empty+else-is_none, else-is_empty-via-else-is_empty}

pub returns-else-is_empty-clause-err : goal.returns-else-is_empty-clause-err
returns-else-is_empty-clause-err c bytes at = elim c.else-is_empty.branch [
  | else-is_empty-via-then-is_empty+else-is_none w ↦
      unclosed_by_test bytes c.args.reading c.args.lines c.args.line.now [] at refl w.is_none.result w.is_none.ensures w.if-is_none.false
  | else-is_empty-via-else-is_empty w ↦
      unended bytes c.args.reading c.args.lines c.args.line.now [] at refl
      (some_bytes c.args.line.now c.is_empty.result c.is_empty.ensures w.if-is_empty.false)
]

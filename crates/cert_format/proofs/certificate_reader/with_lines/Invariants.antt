use Rattle.std.proofs.Common.{◌+◌, ◌≤◌, ◌++◌, length}
use Rattle.cert_format.specs.Format.{text_of}
use Rattle.cert_format.specs.CertificateReading.{lines_read, IsAt}
use Rattle.cert_format.proofs.certificate_reader.with_lines.Given as goal

abbrev pub invariant-loop-rest : goal.invariant-loop-rest
invariant-loop-rest l =
    IsAt (text_of (lines_read l.fn.reading) ++ l.text) l.longer (length (lines_read l.fn.reading) + l.lines) l.line l.rest
    × (l.lines + length l.rest ≤ length l.text)

abbrev pub decreases-loop-rest : goal.decreases-loop-rest
decreases-loop-rest l = length l.rest

use Rattle.std.proofs.Common.{refl}
use Rattle.cert_format.specs.Format.{section_text}
use Rattle.cmd_certify.specs.command.CertifiedOutput.{is_yes}
use Rattle.cmd_certify.proofs.command.CertifyLineLemmas.{output_of}
use Rattle.cmd_certify.proofs.command.certified_values.write_output.Goals as goal

pub returns-in-Ok : goal.returns-in-Ok
returns-in-Ok g c =
    let section = c.in_ok-section.section in
    let text = section_text c.args.number section in (
      text,
      (section, c.in_ok-section.ensures, output_of c.args.number section text c.is_yes.result refl c.is_yes.ensures),
      c.in-Ok.ensures.writes,
    )

pub returns-in-Err-Fault : goal.returns-in-Err-Fault
returns-in-Err-Fault g c =
    let section = c.in_ok-section.section in
    (section_text c.args.number section, is_yes section, (section, c.in_ok-section.ensures, refl), rw c.in-Err-Fault.field-0-is at c.in-Err-Fault.ensures.writes)

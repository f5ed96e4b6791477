use Rattle.thm_certificates.proofs.all_commands.AllCommandsLemmas.{all_confirm}
use Rattle.thm_certificates.proofs.all_commands.laws.all_commands_confirm_certificates.Goals as goal

pub returns : goal.returns
returns c =
    all_confirm c.all_commands_have_parts.ensures.sections
    c.all_commands_have_parts.ensures.certificates c.written_certificates_are_accepted.ensures

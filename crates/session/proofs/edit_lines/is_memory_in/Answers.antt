use Rattle.session.proofs.EditLemmas.{literal_known}
use Rattle.session.proofs.edit_lines.is_memory_in.Goals as goal

pub returns-in_default : goal.returns-in_default
returns-in_default c = λ same. literal_known c.args.fault c.in_default.not-Memory

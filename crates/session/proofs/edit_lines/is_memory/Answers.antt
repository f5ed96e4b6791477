use Rattle.session.proofs.EditLemmas.{step_known, type_known}
use Rattle.session.proofs.edit_lines.is_memory.Goals as goal

pub returns-in-NoField : goal.returns-in-NoField
returns-in-NoField c = λ same. step_known c.args.refusal.now _ _ c.in-NoField.is

pub returns-in-IllTyped : goal.returns-in-IllTyped
returns-in-IllTyped c = λ same. type_known c.args.refusal.now _ c.in-IllTyped.is

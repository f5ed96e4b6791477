use Rattle.session.proofs.commands.values_have_one_outcome.Goals as goal

pub returns : goal.returns
returns c = c.commands_answer_once.ensures.outcome

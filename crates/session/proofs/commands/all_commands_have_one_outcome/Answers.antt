use Rattle.session.proofs.commands.all_commands_have_one_outcome.Goals as goal

pub returns : goal.returns
returns c = c.lawful_commands.ensures.outcome

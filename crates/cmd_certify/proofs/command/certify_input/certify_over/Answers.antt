use Rattle.cmd_certify.proofs.command.certify_input.certify_over.Goals as goal

pub returns : goal.returns
returns g c = c.certify_by.ensures

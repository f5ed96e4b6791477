use Rattle.cmd_verify.proofs.command.verify_input.verify_over.Goals as goal

pub returns : goal.returns
returns g c = c.verify_by.ensures

use Rattle.session.proofs.top.edit_over.Goals as goal

pub returns : goal.returns
returns g c = c.edit_by.ensures

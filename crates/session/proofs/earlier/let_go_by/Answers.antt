use Rattle.session.proofs.EarlierLemmas.{no_copy}
use Rattle.session.proofs.earlier.let_go_by.Goals as goal

pub returns-in-Edit : goal.returns-in-Edit
returns-in-Edit c = no_copy c.args.action.now _ c.args.number c.args.kept.now c.in-Edit.is

pub returns-in-Graft : goal.returns-in-Graft
returns-in-Graft c = rw c.in-Graft.is c.let_go_of.ensures

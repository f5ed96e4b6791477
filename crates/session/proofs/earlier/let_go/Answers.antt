use Rattle.session.proofs.EarlierLemmas.{other_left, later_left, past_left}
use Rattle.session.proofs.earlier.let_go.Goals as goal

pub returns-then-made-from : goal.returns-then-made-from
returns-then-made-from c = other_left c.args.from c.args.number c.args.made.now c.if-made-from.true

pub returns-then-number-made : goal.returns-then-number-made
returns-then-number-made c = later_left c.args.from c.args.number c.args.made.now c.if-made-from.false c.if-number-made.true

pub returns : goal.returns
returns c = past_left c.args.from c.args.number c.args.made.now c.if-made-from.false c.if-number-made.false

use Rattle.std.proofs.Common.{arith}
use Rattle.session.proofs.earlier.make_room.Goals as goal

pub returns-then-last-number-clause-room : goal.returns-then-last-number-clause-room
returns-then-last-number-clause-room c = λ less. let used = c.if-last-number.true in absurd (omega (arith, less, used))

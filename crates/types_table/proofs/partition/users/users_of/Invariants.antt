use Rattle.types_table.proofs.partition.Loops.{UsersSoFar}
use Rattle.types_table.proofs.partition.users.users_of.Given as goal

abbrev pub invariant-loop-user : goal.invariant-loop-user
invariant-loop-user l = UsersSoFar l.forms l.user l.users.items

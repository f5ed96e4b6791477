use Rattle.cmd_build.proofs.command.checked_guess.guess_line.Goals as goal

pub is_right-requires : goal.is_right-requires
is_right-requires c = record {
  encoded = rw c.table-table.ensures.same at (c.is_worth_it.ensures c.if-not-is_worth_it.false);
}

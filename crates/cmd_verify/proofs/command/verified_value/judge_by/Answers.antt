use Rattle.cmd_verify.proofs.command.verified_value.judge_by.Goals as goal

pub known-requires : goal.known-requires
known-requires c = rw c.table.ensures.same at c.in_ok-verified.ensures.answer

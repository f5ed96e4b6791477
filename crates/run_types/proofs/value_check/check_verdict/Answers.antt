use Rattle.run_types.proofs.RunTypesVerdictLemmas.{yes_declared}
use Rattle.run_types.proofs.value_check.check_verdict.Goals as goal

pub returns-in-Yes : goal.returns-in-Yes
returns-in-Yes c =
    yes_declared c.args.requested.now c.holds.ensures c.tables_decide.ensures.root c.tables_decide.ensures.decide c.args.value.now.heap.now c.args.value.now.root c.args.verdict.now
    c.requires.verdict _ c.in-Yes.is

use Rattle.session.proofs.SessionVerdictLemmas.{writes_yes, writes_text}
use Rattle.session.proofs.value_output.write_known.Goals as goal

pub write_styled_at-requires-clause-number : goal.write_styled_at-requires-clause-number
write_styled_at-requires-clause-number c = c.holds-in-Text.ensures.lawful.rooted

pub write_styled_at-requires-clause-typed : goal.write_styled_at-requires-clause-typed
write_styled_at-requires-clause-typed c = rw c.table-table.ensures.same c.requires.typed

pub returns-in_ok-write-in-Verdict : goal.returns-in_ok-write-in-Verdict
returns-in_ok-write-in-Verdict c =
    writes_yes c.args.requested.now c.holds.ensures c.tables_decide.ensures.root c.args.value.now.heap.now c.args.value.now.root c.tables_decide.ensures.decide c.requires.typed
    c.args.query c.in-Verdict.is _ _ c.in_ok-write-in-Verdict.ensures

pub returns-in_ok-write_styled_at-in-Text : goal.returns-in_ok-write_styled_at-in-Text
returns-in_ok-write_styled_at-in-Text c =
    writes_text c.args.requested.now c.holds.ensures c.tables_decide.ensures.root c.args.value.now.heap.now c.args.value.now.root c.tables_decide.ensures.decide c.requires.typed
    c.roots_show_agree.ensures c.in-Text.style c.args.query c.in-Text.is _ _ (rw c.table-table.ensures.same at c.in_ok-write_styled_at-in-Text.ensures)

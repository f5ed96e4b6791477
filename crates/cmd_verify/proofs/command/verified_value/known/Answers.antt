use Rattle.std.proofs.Common.{◌∙◌, ◌++◌, ap}
use Rattle.std.specs.Prelude.{codes}
use Rattle.cmd_verify.specs.command.VerifiedSections.{why_text}
use Rattle.cmd_verify.proofs.command.VerifyJudgeLemmas.{judged_yes, judged_rejected}
use Rattle.cmd_verify.proofs.command.verified_value.known.Goals as goal

pub returns-in_ok-write-in-Yes : goal.returns-in_ok-write-in-Yes
returns-in_ok-write-in-Yes c =
    judged_yes c.args.requested.now c.holds.ensures c.args.value.now.heap.now c.args.value.now.root
    c.args.section.now c.tables_decide.ensures.root
    (rw c.table.ensures.same at c.holds-2.ensures.lawful) c.tables_decide.ensures.decide
    c.args.verified.now c.in-Yes.is c.requires c.of.result
    (c.of.ensures ∙ (c.in_ok-write-in-Yes.ensures
    ∙ ap (λ items. items ++ codes "yes\n") c.new-text.ensures.items))

pub returns-in_ok-write_why-in-Rejected : goal.returns-in_ok-write_why-in-Rejected
returns-in_ok-write_why-in-Rejected c =
    judged_rejected c.args.requested.now c.holds.ensures c.args.value.now.heap.now
    c.args.value.now.root c.args.section.now c.args.verified.now c.in-Rejected.why c.in-Rejected.is
    c.requires
    c.of-in-Rejected.result
    (c.of-in-Rejected.ensures ∙ (c.in_ok-write_why-in-Rejected.ensures
    ∙ ap (λ items. items ++ why_text c.in-Rejected.why)
    (c.in_ok-write-in-Rejected.ensures
    ∙ ap (λ items. items ++ codes "certificate ") c.new-text-in-Rejected.ensures.items)))

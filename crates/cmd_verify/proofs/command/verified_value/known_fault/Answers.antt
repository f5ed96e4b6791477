use Rattle.std.proofs.Common.{◌∙◌, ◌++◌, ◌∷◌, [], ap}
use Rattle.std.specs.Prelude.{codes}
use Rattle.cmd_verify.proofs.command.VerifyJudgeLemmas.{stated, judged_no}
use Rattle.cmd_verify.proofs.command.verified_value.known_fault.Goals as goal

pub fault_text-requires : goal.fault_text-requires
fault_text-requires c = record {
  fault = rw c.table.ensures.same
      (stated c.args.requested.now c.holds.ensures c.args.value.now.heap.now c.args.value.now.root
      c.args.section.now c.args.fault.now c.requires);
}

pub returns : goal.returns
returns c =
    judged_no c.args.requested.now c.holds.ensures c.args.value.now.heap.now c.args.value.now.root
    c.args.section.now c.tables_decide.ensures.root c.tables_have_the_faults.ensures.all
    c.texts_are_of_types.ensures c.type_or_fault.ensures.never_both c.args.fault.now c.requires
    c.in_ok-why.why (rw c.table.ensures.same at c.in_ok-why.ensures) c.of.result
    (c.of.ensures ∙ (c.in_ok-write-3.ensures
    ∙ ap (λ items. items ++ 10 ∷ [])
    (c.in_ok-write-2.ensures ∙ (ap (λ items. items ++ c.as_slice.result.now)
    (c.in_ok-write.ensures ∙ ap (λ items. items ++ codes "no ") c.new-text.ensures.items)
    ∙ ap (λ why. codes "no " ++ why) c.as_slice.ensures))))

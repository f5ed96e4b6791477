use Rattle.std.proofs.Common.{◌∙◌, ◌++◌, ap}
use Rattle.std.specs.Prelude.{codes}
use Rattle.std.proofs.lemmas.List.{append_assoc}
use Rattle.run_types.proofs.RunTypesVerdictLemmas.{writes_no}
use Rattle.run_types.proofs.type_verdict.write_no.Goals as goal

pub write_fault-requires : goal.write_fault-requires
write_fault-requires c = record { fault = rw c.table.ensures.same c.requires.least.is_fault }

pub returns : goal.returns
returns c =
    let (why, is_text, added) = rw c.table.ensures.same at c.in_ok-write_fault.ensures in
    writes_no c.args.requested.now c.holds.ensures c.tables_decide.ensures.root c.args.value.now.heap.now c.args.value.now.root
    c.tables_have_the_faults.ensures.least c.texts_are_of_types.ensures
    c.args.fault.now c.requires.least why is_text _ _
    (added ∙ (ap (λ prefix. prefix ++ why) c.in_ok-write.ensures ∙ append_assoc c.args.text.now.items (codes "no ") why))

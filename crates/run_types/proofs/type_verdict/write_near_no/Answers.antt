use Rattle.std.proofs.Common.{◌∙◌, ◌++◌, refl, ap}
use Rattle.std.specs.Prelude.{codes}
use Rattle.std.proofs.lemmas.List.{append_assoc}
use Rattle.types_spec.specs.declared.types.fault.Fault.TheVariants.{Mismatch}
use Rattle.types_spec.specs.types.VerdictText.{mismatch_text}
use Rattle.check_fault.specs.Near.{path_in}
use Rattle.check_fault.specs.FaultText.{text_at}
use Rattle.run_types.proofs.RunTypesVerdictLemmas.{writes_no}
use Rattle.run_types.proofs.type_verdict.write_near_no.Goals as goal

pub write_near-requires-clause-value : goal.write_near-requires-clause-value
write_near-requires-clause-value c = c.in-Some.ensures.there.valid

pub write_near-requires-clause-number : goal.write_near-requires-clause-number
write_near-requires-clause-number c = c.in-Some.ensures.there.node

pub returns : goal.returns
returns c =
    let r = c.args.requested.now in
    let graph = c.args.value.now.heap.now in
    let near = c.in-Some.near in
    let is_near = rw c.table-table.ensures.same at c.in-Some.ensures in
    let write = rw c.table-table.ensures.same at c.in_ok-write_near.ensures in
    let why = mismatch_text (text_at r.table) graph (path_in near.way) near.value near.at in
    writes_no r c.holds.ensures c.tables_decide.ensures.root graph c.args.value.now.root
    c.tables_have_the_faults.ensures.least c.texts_are_of_types.ensures
    (Mismatch (path_in near.way)) is_near.least why (near.value, near.at, is_near.there.leads, refl) _ _
    (write
    ∙ (ap (λ prefix. prefix ++ why) c.in_ok-write.ensures ∙ append_assoc c.args.text.now.items (codes "no ") why))

use Rattle.std.proofs.Common.{◌∙◌, ◌++◌, ap}
use Rattle.std.specs.Prelude.{codes}
use Rattle.std.proofs.lemmas.List.{append_assoc}
use Rattle.marshal_spec.specs.format.Tree.{root, objects_of}
use Rattle.types_table.specs.type_table.Made.{table_of}
use Rattle.check_fault.specs.FaultText.{text_at}
use Rattle.check_stream.specs.mismatch_search.MismatchLine.{found_text}
use Rattle.run_types.proofs.RunTypesVerdictLemmas.{writes_line}
use Rattle.run_types.proofs.type_verdict.write_missed_no.Goals as goal

pub write_missed-requires : goal.write_missed-requires
write_missed-requires c = record { number = rw c.table.ensures.same c.requires.number }

pub returns : goal.returns
returns c = λ limit n bytes f.
    let r = c.args.requested.now in
    let why = found_text (text_at r.table) c.args.found.now in
    let write = rw c.table.ensures.same at c.in_ok-write_missed.ensures in
    writes_line r c.holds.ensures c.tables_decide.ensures.root (objects_of f.prefix.tree 0)
    (root f.prefix.tree 0) c.tables_have_the_faults.ensures.least c.texts_are_of_types.ensures
    (codes "no " ++ why)
    (c.found_has_line.ensures (table_of r.table) limit n bytes c.args.found.now (text_at r.table) f)
    _ _
    (write
    ∙ (ap (λ prefix. prefix ++ why) c.in_ok-write.ensures ∙ append_assoc c.args.text.now.items (codes "no ") why))

use Rattle.types_table.specs.type_table.Made.{table_of}
use Rattle.cert_verify.proofs.certificate.VerifiedLemmas.{answers_show, answers_are_single}
use Rattle.cert_verify.proofs.certificate.entry_verdict.verify.Goals as goal

pub returns-clause-shows : goal.returns-clause-shows
returns-clause-shows c =
    answers_show (table_of c.args.table.now) c.args.value.now.heap.now c.args.value.now.root c.args.section.now c.answer_of.result c.holds.ensures.lawful.lawful c.answer_of.ensures

pub returns-clause-one : goal.returns-clause-one
returns-clause-one c =
    answers_are_single (table_of c.args.table.now) c.args.value.now.heap.now c.args.value.now.root c.args.section.now c.answer_of.result c.answer_of.ensures

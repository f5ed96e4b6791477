use Rattle.cert_verify.proofs.table_independence.VerifierTableLemmas.{answers_same}
use Rattle.cert_verify.proofs.table_independence.laws.tables_verify_agree.Goals as goal

pub returns : goal.returns
returns c decls t graph root section one other is its =
    answers_same decls t graph root section one other is its

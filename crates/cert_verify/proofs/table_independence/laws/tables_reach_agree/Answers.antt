use Rattle.cert_verify.proofs.table_independence.VerifierReachedLemmas.{reached_same}
use Rattle.cert_verify.proofs.table_independence.laws.tables_reach_agree.Goals as goal

pub returns : goal.returns
returns c decls t graph root pairs others is its =
    reached_same decls t graph root pairs others is its

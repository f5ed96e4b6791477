use Rattle.cert_verify.proofs.table_independence.OneListLemmas.{one_list}
use Rattle.cert_verify.proofs.table_independence.laws.types_are_one_list.Goals as goal

pub returns : goal.returns
returns c decls t types others reached again = one_list decls t types others reached again
